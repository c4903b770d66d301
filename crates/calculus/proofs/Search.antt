-- Whether a list is allowed, by computation: `misses` tries every rewriting, each as far as it shows the list's next event. Where it finds
-- none that leads on, the list is not allowed; where it finds one to the list's end, it is. True because `every` looks at all moves.
-- Assumes nothing.
use mathlib.Core.Path.{◌≡◌, refl, sym, subst}
use mathlib.Core.Logic.{inl, inr}
use mathlib.Core.Bool.{Bool, true, false}
use mathlib.Core.List.{List, [], ◌∷◌}
use Prim.Native.Nat.{ℕ, zero, suc}
use lib.IntN.{ℤ, pos, negsuc}
use lib.Dec.{eqb, leb}
use Rattle.job.specs.Test.{◌and◌}
use Rattle.job.specs.Number.{equal_z}
use Rattle.job.specs.Site.{last_time}
use Rattle.calculus.specs.Event.{Event, publish, call, answer, move, Label, silently, showing}
use Rattle.calculus.specs.Expression.{Exp}
use Rattle.calculus.specs.Rewriting.{Rewrites}
use Rattle.calculus.specs.Allowed.{Goal, Configuration, next_handle, shown, CanShow, ends, then, moves, Allowed}
use Rattle.job.proofs.Test.{clash, eqb_same, eqb-eq, and_left, and_right, and_both, leb-le, le-leb}
use Rattle.calculus.proofs.Moves.{◌implies◌, under, and-fails, implies-fails, Tests, Within, in-silence, in-publishing, in-calling}
use Rattle.calculus.proofs.Moves.{in-answering, in-moving}
use Rattle.calculus.proofs.Moves.{every, every-move, some-move, moving}

-- two events are the same
unfoldable pub same_values : List ℤ → List ℤ → Bool
same_values [] [] = true
same_values [] (y ∷ ys) = false
same_values (x ∷ xs) [] = false
same_values (x ∷ xs) (y ∷ ys) = equal_z x y and same_values xs ys

unfoldable pub same_event : Event → Event → Bool
same_event (publish v) (publish w) = equal_z v w
same_event (publish v) (call k s ws) = false
same_event (publish v) (answer k w) = false
same_event (publish v) (move t) = false
same_event (call h r vs) (publish w) = false
same_event (call h r vs) (call k s ws) = eqb h k and eqb r s and same_values vs ws
same_event (call h r vs) (answer k w) = false
same_event (call h r vs) (move t) = false
same_event (answer h v) (publish w) = false
same_event (answer h v) (call k s ws) = false
same_event (answer h v) (answer k w) = eqb h k and equal_z v w
same_event (answer h v) (move t) = false
same_event (move t) (publish w) = false
same_event (move t) (call k s ws) = false
same_event (move t) (answer k w) = false
same_event (move t) (move u) = eqb t u

equal_z-same : (v : ℤ) → equal_z v v ≡ true
unfolding equal_z
equal_z-same (pos n) = eqb_same n
equal_z-same (negsuc n) = eqb_same n

same_values-same : (vs : List ℤ) → same_values vs vs ≡ true
unfolding same_values
same_values-same [] = refl
same_values-same (v ∷ vs) = and_both (equal_z-same v) (same_values-same vs)

same_event-same : (e : Event) → same_event e e ≡ true
unfolding same_event
same_event-same (publish v) = equal_z-same v
same_event-same (call k s vs) = and_both (eqb_same k) (and_both (eqb_same s) (same_values-same vs))
same_event-same (answer k v) = and_both (eqb_same k) (equal_z-same v)
same_event-same (move t) = eqb_same t

equal_z-eq : (v w : ℤ) → equal_z v w ≡ true → v ≡ w
unfolding equal_z
equal_z-eq (pos m) (pos n) t = let z = eqb-eq m n t in cc
equal_z-eq (pos m) (negsuc n) t = clash t refl
equal_z-eq (negsuc m) (pos n) t = clash t refl
equal_z-eq (negsuc m) (negsuc n) t = let z = eqb-eq m n t in cc

same_values-eq : (vs ws : List ℤ) → same_values vs ws ≡ true → vs ≡ ws
unfolding same_values
same_values-eq [] [] t = refl
same_values-eq [] (w ∷ ws) t = clash t refl
same_values-eq (v ∷ vs) [] t = clash t refl
same_values-eq (v ∷ vs) (w ∷ ws) t =
    let x = equal_z-eq v w (and_left _ _ t) in let y = same_values-eq vs ws (and_right (equal_z v w) _ t) in cc

same_event-eq : (d e : Event) → same_event d e ≡ true → d ≡ e
unfolding same_event
same_event-eq (publish v) (publish w) t = let z = equal_z-eq v w t in cc
same_event-eq (publish v) (call k s ws) t = clash t refl
same_event-eq (publish v) (answer k w) t = clash t refl
same_event-eq (publish v) (move m) t = clash t refl
same_event-eq (call h r vs) (publish w) t = clash t refl
same_event-eq (call h r vs) (call k s ws) t =
    let x = eqb-eq h k (and_left _ _ t) in
    let t' = and_right (eqb h k) _ t in
    let y = eqb-eq r s (and_left _ _ t') in let z = same_values-eq vs ws (and_right (eqb r s) _ t') in cc
same_event-eq (call h r vs) (answer k w) t = clash t refl
same_event-eq (call h r vs) (move m) t = clash t refl
same_event-eq (answer h v) (publish w) t = clash t refl
same_event-eq (answer h v) (call k s ws) t = clash t refl
same_event-eq (answer h v) (answer k w) t =
    let x = eqb-eq h k (and_left _ _ t) in let y = equal_z-eq v w (and_right (eqb h k) _ t) in cc
same_event-eq (answer h v) (move m) t = clash t refl
same_event-eq (move n) (publish w) t = clash t refl
same_event-eq (move n) (call k s ws) t = clash t refl
same_event-eq (move n) (answer k w) t = clash t refl
same_event-eq (move n) (move m) t = let z = eqb-eq n m t in cc

-- the value of an answer
unfoldable pub answer_in : Event → ℤ
answer_in (publish v) = pos 0
answer_in (call k s vs) = pos 0
answer_in (answer k v) = v
answer_in (move t) = pos 0

within-own : (e : Event) → Within (answer_in e) (showing e)
unfolding answer_in
within-own (publish v) = in-publishing
within-own (call k s vs) = in-calling
within-own (answer k v) = in-answering
within-own (move t) = in-moving

-- the rest of a search: the next handle, the time, an expression and what is to be shown
abbrev Search : Type 0
Search = (h now : ℕ) → Exp → List Event → Bool

-- a rewriting either is silent and the same list is to be shown after it, or it shows the first event and the others are
unfoldable pub after : Search → (h now : ℕ) → Event → List Event → Tests
after m h now e es silently f = m h now f (e ∷ es)
after m h now e es (showing e') f = same_event e e' implies m (next_handle (showing e') h) now f es

-- where the first event is a move of the clock, it is tried
unfoldable pub after_move : Search → (h now : ℕ) → Exp → Event → List Event → Bool
after_move m h now f (publish v) es = true
after_move m h now f (call k s vs) es = true
after_move m h now f (answer k v) es = true
after_move m h now f (move t) es = (leb now t and leb t last_time) implies m h t f es

module _ (body : ℕ → Exp) where
  -- no rewritings and moves of the clock from this expression show the list: n bounds their number, and `spent` is said where it is used up
  unfoldable pub misses : (spent : Bool) (n h now : ℕ) → Exp → List Event → Bool
  misses spent zero h now f [] = false
  misses spent zero h now f (e ∷ es) = spent
  misses spent (suc n) h now f [] = false
  misses spent (suc n) h now f (e ∷ es) =
      every body h now (answer_in e) f (after (misses spent n) h now e es) and after_move (misses spent n) h now f e es

  missed : (n : ℕ) {c : Configuration} {es : List Event}
      → misses false n c.handle c.clock c.exp es ≡ true → CanShow body c es → ⊥
  unfolding misses after after_move shown next_handle
  missed zero {es = []} t s = clash t refl
  missed zero {es = e ∷ es} t s = clash t refl
  missed (suc n) t ends = clash t refl
  missed (suc n) t (then {a = silently} {es = []} r s) = clash t refl
  missed (suc n) t (then {a = silently} {es = e ∷ es} r s) = missed n (every-move body _ _ _ _ r in-silence (and_left _ _ t)) s
  missed (suc n) t (then {a = showing e} r s) =
      missed n (under _ _ (same_event-same e) (every-move body _ _ _ _ r (within-own e) (and_left _ _ t))) s
  missed (suc n) {c} t (moves {t = m} l k s) =
      missed n (under _ _ (and_both (le-leb c.clock m l) (le-leb m last_time k)) (and_right _ _ t)) s

  abbrev Finds : Search → Type 0
  Finds m = (k c : ℕ) (g : Exp) (ds : List Event) → m k c g ds ≡ false → CanShow body (record { exp = g; handle = k; clock = c }) ds

  -- a rewriting that does not miss the list, and what comes after it
  onward : {h now : ℕ} {f : Exp} {e : Event} {es : List Event} (m : Search) → Finds m
      → (a : Label) {f' : Exp} → Rewrites body h now f a f' → after m h now e es a f' ≡ false
      → CanShow body (record { exp = f; handle = h; clock = now }) (e ∷ es)
  unfolding after shown next_handle
  onward {h = h} {now} {e = e} {es = es} m rest silently {f'} r t = then {a = silently} r (rest h now f' (e ∷ es) t)
  onward {h = h} {now} {f = f} {e = e} {es = es} m rest (showing e') {f'} r t =
      let y = implies-fails _ _ t in
      subst
      (λ x. CanShow body (record { exp = f; handle = h; clock = now }) (x ∷ es))
      (sym (same_event-eq e e' y.0))
      (then {a = showing e'} r (rest _ now f' es y.1))

  -- a move of the clock that does not miss the list
  moved : {h now : ℕ} {f : Exp} (e : Event) {es : List Event} (m : Search) → Finds m
      → after_move m h now f e es ≡ false → CanShow body (record { exp = f; handle = h; clock = now }) (e ∷ es)
  unfolding after_move
  moved (publish v) m rest t = clash refl t
  moved (call k s vs) m rest t = clash refl t
  moved (answer k v) m rest t = clash refl t
  moved {h} {now} {f} (move c) {es} m rest t =
      let y = implies-fails _ _ t in
      moves (leb-le now c (and_left _ _ y.0)) (leb-le c last_time (and_right _ _ y.0)) (rest h c f es y.1)

  found : (n h now : ℕ) (f : Exp) (es : List Event)
      → misses true n h now f es ≡ false → CanShow body (record { exp = f; handle = h; clock = now }) es
  unfolding misses
  found zero h now f [] t = ends
  found zero h now f (e ∷ es) t = clash refl t
  found (suc n) h now f [] t = ends
  found (suc n) h now f (e ∷ es) t =
      elim (and-fails _ _ t) [
        | inl l ↦ let x = some-move body h now (answer_in e) f _ l in onward (misses true n) (found n) x.label x.move x.fails
        | inr r ↦ moved e (misses true n) (found n) r
      ]

-- the two ways to use it
pub not-allowed : (g : Goal) (n : ℕ) {es : List Event} → misses g.body false n 0 0 g.goal es ≡ true → Allowed g es → ⊥
not-allowed g n t s = missed g.body n t s

pub allowed : (g : Goal) (n : ℕ) {es : List Event} → misses g.body true n 0 0 g.goal es ≡ false → Allowed g es
allowed g n {es} t = found g.body n 0 0 g.goal es t

-- a name for all that it computes with
unfoldable pub searching : Unit {0}
unfolding moving same_values same_event answer_in after after_move misses
searching = tt
