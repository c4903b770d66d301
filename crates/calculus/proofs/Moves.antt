-- All moves of an expression, by computation. `every` asks a test of each move: where it says true, the test holds of every rewriting, and
-- where it says false, it fails of some rewriting. True because `every` has the same cases as `Rewrites`. Assumes nothing.
use mathlib.Core.Path.{◌≡◌, refl, subst}
use mathlib.Core.Logic.{◌⊎◌, inl, inr}
use mathlib.Core.Bool.{Bool, true, false}
use mathlib.Core.List.{List}
use mathlib.Core.Option.{Option, some, none}
use Prim.Native.Nat.{ℕ}
use lib.Dec.{leb}
use lib.IntN.{ℤ, pos}
use Rattle.job.specs.Test.{◌and◌}
use Rattle.job.specs.Number.{fits}
use Rattle.job.specs.Site.{BuiltinReply, gives, silent, later, due_time, is_builtin, is_outside, builtin}
use Rattle.calculus.specs.Event.{Event, publish, answer, move, Label, silently, showing}
use Rattle.calculus.specs.Expression.{Param, Exp, stop, site, call, par, seq, prune, pending, due, hand}
use Rattle.calculus.specs.Expression.{substitute, innermost, formals}
use Rattle.calculus.specs.Rewriting.{NotPublishing, silence, calling, answering, param_values, Rewrites}
use Rattle.calculus.specs.Rewriting.{builtin-gives, builtin-silent, builtin-later, builtin-never, fell-due, outside-call, answered}
use Rattle.calculus.specs.Rewriting.{published, entered}
use Rattle.calculus.specs.Rewriting.{par-left, par-right, seq-acts, seq-publishes, prune-left, prune-right, prune-publishes}
use Rattle.job.proofs.Test.{clash, and_left, and_right, leb-le, le-leb}

-- a test that is asked only under a condition
infixr 20 ◌implies◌
unfoldable pub ◌implies◌ : Bool → Bool → Bool
true implies b = b
false implies b = true

pub under : (a b : Bool) → a ≡ true → (a implies b) ≡ true → b ≡ true
unfolding ◌implies◌
under true b e t = t
under false b e t = clash e refl

-- where a test fails: which of two, and under which condition
pub and-fails : (a b : Bool) → (a and b) ≡ false → (a ≡ false) ⊎ (b ≡ false)
unfolding ◌and◌
and-fails true b t = inr t
and-fails false b t = inl refl

pub implies-fails : (a b : Bool) → (a implies b) ≡ false → (a ≡ true) × (b ≡ false)
unfolding ◌implies◌
implies-fails true b t = (refl, t)
implies-fails false b t = clash refl t

-- a test of a move: what it shows, and what is left
abbrev pub Tests : Type 0
Tests = Label → Exp → Bool

-- what is left of a call of rwait, by its due time
unfoldable pub after_due : Option ℕ → (Exp → Bool) → Bool
after_due (some d) p = p (due d)
after_due none p = p stop

-- the ways a built-in call goes on
unfoldable pub after_reply : (now : ℕ) → BuiltinReply → (Exp → Bool) → Bool
after_reply now (gives v) p = p (hand v)
after_reply now silent p = p stop
after_reply now (later t) p = after_due (due_time now t) p

-- of the moves of f in f >x> g, or of g in f <x< g, publishing goes one way and all else the other
unfoldable pub sorted : (ℤ → Exp → Bool) → Tests → Tests
sorted q p silently f = p silently f
sorted q p (showing (publish v)) f = q v f
sorted q p (showing (Event.call k s vs)) f = p (showing (Event.call k s vs)) f
sorted q p (showing (answer k v)) f = p (showing (answer k v)) f
sorted q p (showing (move t)) f = p (showing (move t)) f

sorted-passes : {a : Label} (q : ℤ → Exp → Bool) (p : Tests) (f : Exp) → NotPublishing a → sorted q p a f ≡ true → p a f ≡ true
unfolding sorted
sorted-passes q p f silence t = t
sorted-passes q p f calling t = t
sorted-passes q p f answering t = t

-- every label, but of answers only those with the value w
pub data Within (w : ℤ) : Label → Type 0 where
  in-silence : Within w silently
  in-publishing : {v : ℤ} → Within w (showing (publish v))
  in-calling : {k s : ℕ} {vs : List ℤ} → Within w (showing (Event.call k s vs))
  in-answering : {k : ℕ} → Within w (showing (answer k w))
  in-moving : {t : ℕ} → Within w (showing (move t))

module _ (body : ℕ → Exp) (h now : ℕ) where
  unfoldable pub every_of_site : ℕ → Option (List ℤ) → Tests → Bool
  every_of_site s none p = true
  every_of_site s (some vs) p =
      (is_builtin s implies after_reply now (builtin s vs) (p silently)) and (is_outside s implies p (showing (Event.call h s vs))
      (pending h))

  -- a test of every move of an expression, where answers have the value w
  unfoldable pub every : ℤ → Exp → Tests → Bool
  every w stop p = true
  every w (site s ps) p = every_of_site s (param_values ps) p
  every w (call d ps) p = p silently (substitute (formals ps) (body d))
  every w (par f g) p = every w f (λ a f'. p a (par f' g)) and every w g (λ a g'. p a (par f g'))
  every w (seq f g) p = every w f (sorted (λ v f'. p silently (par (seq f' g) (substitute (innermost v) g))) (λ a f'. p a (seq f' g)))
  every w (prune f g) p =
      every w f (λ a f'. p a (prune f' g)) and every w g (sorted (λ v g'. p silently (substitute (innermost v) f))
      (λ a g'. p a (prune f g')))
  every w (pending k) p = fits w implies p (showing (answer k w)) (hand w)
  every w (due d) p = leb d now implies p silently (hand (pos 0))
  every w (hand v) p = p (showing (publish v)) stop

  site-builtin : (s : ℕ) (vs : List ℤ) (p : Tests) (r : BuiltinReply)
      → is_builtin s ≡ true → builtin s vs ≡ r → every_of_site s (some vs) p ≡ true → after_reply now r (p silently) ≡ true
  unfolding every_of_site
  site-builtin s vs p r b e t = subst (λ x. after_reply now x (p silently) ≡ true) e (under _ _ b (and_left _ _ t))

  due-move : {o : Option ℕ} (s : ℕ) (vs : List ℤ) (p : Tests) (t : ℤ)
      → is_builtin s ≡ true → builtin s vs ≡ later t → due_time now t ≡ o → every_of_site s (some vs) p ≡ true
      → after_due o (p silently) ≡ true
  unfolding after_reply
  due-move s vs p t b r d e = subst (λ x. after_due x (p silently) ≡ true) d (site-builtin s vs p (later t) b r e)

  site-outside : (s : ℕ) (vs : List ℤ) (p : Tests)
      → is_outside s ≡ true → every_of_site s (some vs) p ≡ true → p (showing (Event.call h s vs)) (pending h) ≡ true
  unfolding every_of_site
  site-outside s vs p b t = under _ _ b (and_right _ _ t)

  -- where `every` says true, the test holds of each rewriting
  pub every-move : {f f' : Exp} {a : Label} (w : ℤ) (p : Tests)
      → Rewrites body h now f a f' → Within w a → every w f p ≡ true → p a f' ≡ true
  unfolding every after_reply after_due sorted
  every-move w p (builtin-gives {s = s} {vs = vs} {v = v} e b r) i t =
      site-builtin s vs p (gives v) b r (subst (λ x. every_of_site s x p ≡ true) e t)
  every-move w p (builtin-silent {s = s} {vs = vs} e b r) i t =
      site-builtin s vs p silent b r (subst (λ x. every_of_site s x p ≡ true) e t)
  every-move w p (builtin-later {s = s} {vs = vs} {t = v} e b r d) i t = due-move s vs p v b r d (subst (λ x. every_of_site s x p ≡ true)
      e t)
  every-move w p (builtin-never {s = s} {vs = vs} {t = v} e b r d) i t = due-move s vs p v b r d (subst (λ x. every_of_site s x p ≡ true)
      e t)
  every-move w p (fell-due {d = d} l) i t = under _ _ (le-leb d now l) t
  every-move w p (outside-call {s = s} {vs = vs} e b) i t = site-outside s vs p b (subst (λ x. every_of_site s x p ≡ true) e t)
  every-move w p (answered fit) in-answering t = under _ _ fit t
  every-move w p published i t = t
  every-move w p entered i t = t
  every-move w p (par-left r) i t = every-move w _ r i (and_left _ _ t)
  every-move w p (par-right r) i t = every-move w _ r i (and_right _ _ t)
  every-move w p (seq-acts {f' = f'} {g = g} r passes) i t =
      sorted-passes (λ v g'. p silently (par (seq g' g) (substitute (innermost v) g))) (λ a g'. p a (seq g' g)) f' passes (every-move w _
      r i t)
  every-move w p (seq-publishes r) i t = every-move w _ r in-publishing t
  every-move w p (prune-left r) i t = every-move w _ r i (and_left _ _ t)
  every-move w p (prune-right {f = f} {g' = g'} r passes) i t =
      sorted-passes (λ v f'. p silently (substitute (innermost v) f)) (λ a f'. p a (prune f f')) g' passes (every-move w _ r i (and_right
      _ _ t))
  every-move w p (prune-publishes r) i t = every-move w _ r in-publishing (and_right _ _ t)

  -- a move of which a test fails
  pub record Failing (f : Exp) (p : Tests) : Type 0 where
    pub label : Label
    pub left : Exp
    pub move : Rewrites body h now f label left
    pub fails : p label left ≡ false

  due-failing : (s : ℕ) (ps : List Param) (vs : List ℤ) (v : ℤ) (p : Tests) (o : Option ℕ)
      → param_values ps ≡ some vs → is_builtin s ≡ true → builtin s vs ≡ later v → due_time now v ≡ o → after_due o (p silently) ≡ false
      → Failing (site s ps) p
  unfolding after_due
  due-failing s ps vs v p (some d) e b q f t = record { label = silently; left = due d; move = builtin-later e b q f; fails = t }
  due-failing s ps vs v p none e b q f t = record { label = silently; left = stop; move = builtin-never e b q f; fails = t }

  -- a built-in call that fails a test
  reply-failing : (s : ℕ) (ps : List Param) (vs : List ℤ) (p : Tests) (r : BuiltinReply)
      → param_values ps ≡ some vs → is_builtin s ≡ true → builtin s vs ≡ r → after_reply now r (p silently) ≡ false → Failing (site s ps) p
  unfolding after_reply
  reply-failing s ps vs p (gives v) e b q t = record { label = silently; left = hand v; move = builtin-gives e b q; fails = t }
  reply-failing s ps vs p silent e b q t = record { label = silently; left = stop; move = builtin-silent e b q; fails = t }
  reply-failing s ps vs p (later v) e b q t = due-failing s ps vs v p (due_time now v) e b q refl t

  site-failing : (s : ℕ) (ps : List Param) (p : Tests) (o : Option (List ℤ))
      → param_values ps ≡ o → every_of_site s o p ≡ false → Failing (site s ps) p
  unfolding every_of_site
  site-failing s ps p none e t = clash refl t
  site-failing s ps p (some vs) e t =
      elim (and-fails _ _ t) [ inl l ↦ by-builtin (implies-fails _ _ l) | inr r ↦ by_call (implies-fails _ _ r) ]
    where
      by-builtin : (is_builtin s ≡ true) × (after_reply now (builtin s vs) (p silently) ≡ false) → Failing (site s ps) p
      by-builtin (b, l) = reply-failing s ps vs p (builtin s vs) e b refl l

      by_call : (is_outside s ≡ true) × (p (showing (Event.call h s vs)) (pending h) ≡ false) → Failing (site s ps) p
      by_call (b, r) = record { label = showing (Event.call h s vs); left = pending h; move = outside-call e b; fails = r }

  -- no rewriting moves the clock
  no-clock : {f f' : Exp} {t : ℕ} {A : Type 0} → Rewrites body h now f (showing (move t)) f' → A
  no-clock (par-left r) = no-clock r
  no-clock (par-right r) = no-clock r
  no-clock (seq-acts r p) = no-clock r
  no-clock (prune-left r) = no-clock r
  no-clock (prune-right r p) = no-clock r

  -- a failing move inside, sorted, makes one outside if each of the two ways does
  sorted-failing : {f F : Exp} {p : Tests} (q : ℤ → Exp → Bool) (p' : Tests)
      → ((a : Label) (f' : Exp) → Rewrites body h now f a f' → NotPublishing a → p' a f' ≡ false → Failing F p)
      → ((v : ℤ) (f' : Exp) → Rewrites body h now f (showing (publish v)) f' → q v f' ≡ false → Failing F p)
      → (a : Label) (f' : Exp) → Rewrites body h now f a f' → sorted q p' a f' ≡ false → Failing F p
  unfolding sorted
  sorted-failing q p' passes publishes silently f' r t = passes silently f' r silence t
  sorted-failing q p' passes publishes (showing (publish v)) f' r t = publishes v f' r t
  sorted-failing q p' passes publishes (showing (Event.call k s vs)) f' r t = passes (showing (Event.call k s vs)) f' r calling t
  sorted-failing q p' passes publishes (showing (answer k v)) f' r t = passes (showing (answer k v)) f' r answering t
  sorted-failing q p' passes publishes (showing (move m)) f' r t = no-clock r

  -- where `every` says false, the test fails of some move
  pub some-move : (w : ℤ) (f : Exp) (p : Tests) → every w f p ≡ false → Failing f p
  unfolding every
  some-move w stop p t = clash refl t
  some-move w (site s ps) p t = site-failing s ps p (param_values ps) refl t
  some-move w (call d ps) p t = record { label = silently; left = substitute (formals ps) (body d); move = entered; fails = t }
  some-move w (par f g) p t =
      elim (and-fails _ _ t) [
        | inl l ↦ let x = some-move w f _ l in
            record { label = x.label; left = par x.left g; move = par-left x.move; fails = x.fails }
        | inr r ↦ let x = some-move w g _ r in
            record { label = x.label; left = par f x.left; move = par-right x.move; fails = x.fails }
      ]
  some-move w (seq f g) p t =
      let x = some-move w f _ t in
      sorted-failing
      _
      _
      (λ a f' r y t. record { label = a; left = seq f' g; move = seq-acts r y; fails = t })
      (λ v f' r t. record { label = silently; left = par (seq f' g) (substitute (innermost v) g); move = seq-publishes r; fails = t })
      x.label
      x.left
      x.move
      x.fails
  some-move w (prune f g) p t =
      elim (and-fails _ _ t) [
        | inl l ↦ let x = some-move w f _ l in
            record { label = x.label; left = prune x.left g; move = prune-left x.move; fails = x.fails }
        | inr r ↦
            let x = some-move w g _ r in
            sorted-failing
            _
            _
            (λ a g' r y t. record { label = a; left = prune f g'; move = prune-right r y; fails = t })
            (λ v g' r t. record { label = silently; left = substitute (innermost v) f; move = prune-publishes r; fails = t })
            x.label
            x.left
            x.move
            x.fails
      ]
  some-move w (pending k) p t =
      let y = implies-fails _ _ t in record { label = showing (answer k w); left = hand w; move = answered y.0; fails = y.1 }
  some-move w (due d) p t =
      let y = implies-fails _ _ t in record { label = silently; left = hand (pos 0); move = fell-due (leb-le d now y.0); fails = y.1 }
  some-move w (hand v) p t = record { label = showing (publish v); left = stop; move = published; fails = t }

-- a name for all that `every` computes with
unfoldable pub moving : Unit {0}
unfolding ◌implies◌ after_due after_reply sorted every_of_site every
moving = tt
