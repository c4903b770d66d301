-- A step writes the place of the token that acts and at most one place that was not in use: the other tokens are seen as before, and each
-- live token is still listed once. By what is kept for views, and by counting. Assumes nothing.
use mathlib.Core.Path.{◌≡◌, refl, sym, ◌∙◌, ap, subst}
use mathlib.Core.Bool.{Bool, true, false}
use mathlib.Core.List.{List, [], ◌∷◌, ◌++◌}
use mathlib.Core.Option.{none}
use Prim.Native.Nat.{ℕ, suc, ◌+◌, ◌<◌, ◌≤◌}
use native.Mathlib.Decide.{ℕ_discrete, dec_lt}
use native.Mathlib.Omega.{arith}
use lib.ListN.{length, set, length-set}
use lib.Dec.{eqb}
use Rattle.job.specs.Test.{occurrences, once}
use Rattle.model.specs.Machine.Blank.{token_at, cell_at}
use Rattle.model.specs.Machine.State.{is_live}
use Rattle.model.specs.Machine.InUse.{used_tokens}
use Rattle.model.specs.declared.token.State.TheVariants as states
use Rattle.model.specs.declared.token.Token.{Token}
use Rattle.model.specs.declared.cell.Cell.{Cell}
use Rattle.job.proofs.Test.{clash, false_of, eqb-eq, eqb_same, ne_eqb, once-true, occurrences-append}
use Rattle.model.proofs.Machine.Marks.{Free, free-inside}
use Rattle.model.proofs.Machine.Inside.{Fits}
use Rattle.simulation.proofs.AbstractMachine as Abstract
use Rattle.simulation.proofs.Shuffle.{Split, first, later}
use Rattle.lockstep.proofs.Labels.{Labels}
use Rattle.lockstep.proofs.View.{World, CellSeen, TokenSeen, TokensSeen, nobody, also, Kept, token-keep, tokens-map, tokens_append}
use Rattle.lockstep.proofs.Seen.{Core, token-live, UsedToken, UsedCell, tokens-of, used-fits, used-closed, token-used}
use Rattle.lockstep.proofs.Seen.{token-at}
use Rattle.model.proofs.Machine.TableRows.{token-same, token-other, live_inside}

once-le : (b : Bool) → once b ≤ 1
once-le true = omega arith
once-le false = omega arith

-- the token x at place p of the list A, with those before and behind it
module _ (M : Labels) (W : World) where
  pub data Spot (p : ℕ) (x : Abstract.Token) (A : List ℕ) (L R : List Abstract.Token) : Type 0 where
    spot : {Before Behind : List ℕ}
        → A ≡ Before ++ (p ∷ Behind) → TokenSeen W M (token_at W.tokens p) x → TokensSeen W M Before L → TokensSeen W M Behind R
        → Spot p x A L R

  spot-later : {p q : ℕ} {x y : Abstract.Token} {A : List ℕ} {L R : List Abstract.Token}
      → TokenSeen W M (token_at W.tokens q) y → Spot p x A L R → Spot p x (q ∷ A) (y ∷ L) R
  spot-later {q = q} v (spot e w l r) = spot (ap (◌∷◌ q) e) w (also v l) r

  -- found by its place
  pub data FoundAt (p : ℕ) (A : List ℕ) (S : List Abstract.Token) : Type 0 where
    found_at : {x : Abstract.Token} {L R : List Abstract.Token} → Split x S L R → Spot p x A L R → FoundAt p A S

  at-later : {p q : ℕ} {y : Abstract.Token} {A : List ℕ} {S : List Abstract.Token}
      → TokenSeen W M (token_at W.tokens q) y → FoundAt p A S → FoundAt p (q ∷ A) (y ∷ S)
  at-later v (found_at s x) = found_at (later s) (spot-later v x)

  pub find-place : (p : ℕ) {A : List ℕ} {S : List Abstract.Token} → 0 < occurrences p A → TokensSeen W M A S → FoundAt p A S
  unfolding occurrences
  find-place p l nobody = absurd (omega arith)
  find-place p l (also {p = q} {x = y} {A = B} {S = S} v s) = go (eqb p q) refl (λ k. find-place p k s)
    where
      go : (b : Bool) → eqb p q ≡ b → (0 < occurrences p B → FoundAt p B S) → FoundAt p (q ∷ B) (y ∷ S)
      go true e f =
          let i = eqb-eq p q e in
          found_at first
          (spot {Before = []} {Behind = B} (ap (λ r. r ∷ B) (sym i)) (subst (λ r. TokenSeen W M (token_at W.tokens r) y) (sym i) v) nobody
          s)
      go false e f =
          at-later v (f (let z : 0 < once (eqb p q) + occurrences p B = l in let i : once (eqb p q) ≡ 0 = rw e refl in omega arith))

  -- found by the abstract machine's token
  pub data FoundOf (x : Abstract.Token) (A : List ℕ) (L R : List Abstract.Token) : Type 0 where
    found_of : {p : ℕ} → Spot p x A L R → FoundOf x A L R

  of-later : {q : ℕ} {x y : Abstract.Token} {A : List ℕ} {L R : List Abstract.Token}
      → TokenSeen W M (token_at W.tokens q) y → FoundOf x A L R → FoundOf x (q ∷ A) (y ∷ L) R
  of-later v (found_of s) = found_of (spot-later v s)

  pub find-token : {x : Abstract.Token} {A : List ℕ} {S L R : List Abstract.Token} → Split x S L R → TokensSeen W M A S → FoundOf x A L R
  find-token first (also {A = B} v s) = found_of (spot {Before = []} {Behind = B} refl v nobody s)
  find-token (later i) (also v s) = of-later v (find-token i s)

-- the live tokens other than the one at p are seen as L and R
pub record Others (M : Labels) (W : World) (p : ℕ) (L R : List Abstract.Token) : Type 0 where
  pub before : List ℕ
  pub behind : List ℕ
  pub lefts : TokensSeen W M before L
  pub rights : TokensSeen W M behind R
  pub each : (r : ℕ) → occurrences r before + (once (eqb r p) + occurrences r behind) ≡ once (is_live (token_at W.tokens r).state)
  pub clean : (n : ℕ) → W.new ≤ n → W.store n ≡ none

pub others : {M : Labels} {W : World} {A : List ℕ} {S : List Abstract.Token} {p : ℕ} {x : Abstract.Token} {L R : List Abstract.Token}
    → Core M W A S → Spot M W p x A L R → Others M W p L R
unfolding occurrences
others {A = A} {p = p} K (spot {Before = A₁} {Behind = A₂} e v l r) =
    record {
      before = A₁;
      behind = A₂;
      lefts = l;
      rights = r;
      each =
          λ i.
          let a = occurrences-append i A₁ (p ∷ A₂) in
          let b : occurrences i A ≡ occurrences i (A₁ ++ (p ∷ A₂)) = ap (occurrences i) e in
          let c = K.each i in
          omega arith;
      clean = K.clean;
    }

pub spot-token : {M : Labels} {W : World} {A : List ℕ} {p : ℕ} {x : Abstract.Token} {L R : List Abstract.Token}
    → Spot M W p x A L R → TokenSeen W M (token_at W.tokens p) x
spot-token (spot e v l r) = v

-- W becomes W': the live token at p gives way to those at N, the other tokens in use stay
pub record Rewrites (W W' : World) (p : ℕ) (N : List ℕ) : Type 0 where
  pub kept : Kept (UsedToken W) (UsedCell W) W W'
  pub others : (r : ℕ) → UsedToken W r → (r ≡ p → ⊥) → token_at W'.tokens r ≡ token_at W.tokens r
  pub live : (r : ℕ)
      → once (is_live (token_at W'.tokens r).state) + once (eqb r p) ≡ once (is_live (token_at W.tokens r).state) + occurrences r N
  pub store : (n : ℕ) → W'.store n ≡ W.store n
  pub new : W.new ≤ W'.new

module _ {M : Labels} {W : World} {p : ℕ} {L R : List Abstract.Token} (o : Others M W p L R) where
  pub acting-live : is_live (token_at W.tokens p).state ≡ true
  acting-live = once-true _ (let z = o.each p in let y : once (eqb p p) ≡ 1 = ap once (eqb_same p) in omega arith)

  pub acting-inside : p < length W.tokens
  acting-inside = live_inside W.tokens p acting-live

  -- who is listed is not at p
  listed-other : (r : ℕ) → 0 < occurrences r o.before + occurrences r o.behind → r ≡ p → ⊥
  listed-other r l e =
      let z = o.each r in
      let y : once (eqb r p) ≡ 1 = ap once (ap (λ i. eqb r i) (sym e) ∙ eqb_same r) in
      let x = once-le (is_live (token_at W.tokens r).state) in
      omega arith

  module _ {W' : World} {N : List ℕ} (c : Rewrites W W' p N) where
    still : {A : List ℕ} {S : List Abstract.Token} → ((r : ℕ) → 0 < occurrences r A → r ≡ p → ⊥) → TokensSeen W M A S → TokensSeen W' M A S
    still ne =
        tokens-map
        (λ r x l v.
        let u = token-used W r v in
        subst (λ t. TokenSeen W' M t x) (sym (c.others r u (ne r l)))
        (token-keep c.kept (used-closed W) (used-fits W r u) (λ n e. c.store n ∙ e) v))

    pub rewritten : {T : List Abstract.Token} → TokensSeen W' M N T → Core M W' (o.before ++ (N ++ o.behind)) (L ++ (T ++ R))
    rewritten v =
        record {
          seen =
              tokens_append (still (λ r l. listed-other r (omega arith)) o.lefts)
              (tokens_append v (still (λ r l. listed-other r (omega arith)) o.rights));
          each =
              λ r.
              let a = occurrences-append r o.before (N ++ o.behind) in
              let b = occurrences-append r N o.behind in
              let z = o.each r in
              let y = c.live r in
              omega arith;
          clean = λ n l. c.store n ∙ o.clean n (let z : W.new ≤ W'.new = c.new in omega arith);
        }

abbrev alive : Token → ℕ
alive t = once (is_live t.state)

-- a frame is not where the acting token is
module _ {M : Labels} {W : World} {p : ℕ} {L R : List Abstract.Token} (o : Others M W p L R) where
  frame-other : (q : ℕ) → (token_at W.tokens q).state ≡ states.Frame → q ≡ p → ⊥
  unfolding is_live
  frame-other q e i = clash (acting-live o) (ap is_live (ap (λ r. (token_at W.tokens r).state) (sym i) ∙ e))

-- each live token is in use
live-used : {M : Labels} {W : World} {p : ℕ} {L R : List Abstract.Token} → Others M W p L R → UsedToken W p
    → (r : ℕ) → is_live (token_at W.tokens r).state ≡ true → UsedToken W r
live-used {W = W} {p = p} o u r e = go (dec_lt 0 (occurrences r o.before)) (dec_lt 0 (occurrences r o.behind))
  where
    go : Dec (0 < occurrences r o.before) → Dec (0 < occurrences r o.behind) → UsedToken W r
    go (yes l) x = token-used W r (token-at r l o.lefts).1
    go (no n) (yes l) = token-used W r (token-at r l o.rights).1
    go (no n) (no k) =
        let z = o.each r in
        let y : alive (token_at W.tokens r) ≡ 1 = ap once e in
        subst (UsedToken W) (sym (eqb-eq r p (once-true (eqb r p) (omega arith)))) u

-- one place is written
abbrev pub one_written : World → ℕ → Token → World
one_written W p u =
    record { tokens = set W.tokens p u; cells = W.cells; name = W.name; place = W.place; store = W.store; new = suc W.new }

-- names that were given stay
pub cell-later : {W : World} {ts : List Token} {c n : ℕ} → CellSeen W c n
    → CellSeen (record { tokens = ts; cells = W.cells; name = W.name; place = W.place; store = W.store; new = suc W.new }) c n
cell-later {W} {n = n} s =
    record { inside = s.inside; old = (let z : n < W.new = s.old in omega arith); name = s.name; place = s.place; value = s.value }

module _ {M : Labels} {W : World} {p : ℕ} {L R : List Abstract.Token} (o : Others M W p L R) (u : Token) where
  one_kept : Kept (UsedToken W) (UsedCell W) W (one_written W p u)
  one_kept =
      record {
        size = length-set W.tokens p u;
        frames = λ q i e. token-other W.tokens p q u (frame-other o q e);
        cells = λ c n i s. cell-later s;
        parents = λ c i. refl;
      }

  one-live : (N : List ℕ) → ((r : ℕ) → (r ≡ p → ⊥) → occurrences r N ≡ 0) → occurrences p N ≡ alive u
      → (r : ℕ) → alive (token_at (set W.tokens p u) r) + once (eqb r p) ≡ alive (token_at W.tokens r) + occurrences r N
  one-live N h k r = go (ℕ_discrete r p)
    where
      go : Dec (r ≡ p) → alive (token_at (set W.tokens p u) r) + once (eqb r p) ≡ alive (token_at W.tokens r) + occurrences r N
      go (yes e) =
          let i : token_at (set W.tokens p u) r ≡ u = ap (token_at (set W.tokens p u)) e
          ∙ token-same W.tokens p u (acting-inside o) in
          let a : alive (token_at (set W.tokens p u) r) ≡ alive u = ap alive i in
          let b : alive (token_at W.tokens r) ≡ 1 = ap (λ i. alive (token_at W.tokens i)) e ∙ ap once (acting-live o) in
          let c : once (eqb r p) ≡ 1 = ap once (ap (eqb r) (sym e) ∙ eqb_same r) in
          let f : occurrences r N ≡ alive u = ap (λ i. occurrences i N) e ∙ k in
          omega arith
      go (no n) =
          let a : alive (token_at (set W.tokens p u) r) ≡ alive (token_at W.tokens r) = ap alive (token-other W.tokens p r u n) in
          let c : once (eqb r p) ≡ 0 = ap once (ne_eqb r p n) in
          let f = h r n in
          omega arith

  one-rewrites : (N : List ℕ) → ((r : ℕ) → (r ≡ p → ⊥) → occurrences r N ≡ 0) → occurrences p N ≡ alive u
      → Rewrites W (one_written W p u) p N
  one-rewrites N h k =
      record {
        kept = one_kept;
        others = λ r i n. token-other W.tokens p r u n;
        live = one-live N h k;
        store = λ n. refl;
        new =
            omega arith;
      }

  -- the token ends
  pub ends-core : is_live u.state ≡ false → Core M (one_written W p u) (o.before ++ ([] ++ o.behind)) (L ++ ([] ++ R))
  unfolding occurrences
  ends-core e = rewritten o (one-rewrites [] (λ r n. refl) (sym (ap once e))) nobody

  -- the token goes on as u
  pub goes-core : {x : Abstract.Token} → Fits (UsedToken W) (UsedCell W) u → TokenSeen W M u x
      → Core M (one_written W p u) (o.before ++ ((p ∷ []) ++ o.behind)) (L ++ ((x ∷ []) ++ R))
  unfolding occurrences
  goes-core {x} f v =
      rewritten o
      (one-rewrites (p ∷ []) (λ r n. let z : once (eqb r p) ≡ 0 = ap once (ne_eqb r p n) in omega arith)
      (let z : once (eqb p p) ≡ 1 = ap once (eqb_same p) in let y : alive u ≡ 1 = ap once (token-live v) in omega arith))
      (also
      (subst (λ t. TokenSeen (one_written W p u) M t x) (sym (token-same W.tokens p u (acting-inside o)))
      (token-keep one_kept (used-closed W) f (λ n e. e) v))
      nobody)

-- a place that was not in use is written too, and cells may change
abbrev pub two_written : World → (p : ℕ) → Token → (q : ℕ) → Token → List Cell → (name place : ℕ → ℕ) → World
two_written W p u q w cs name place =
    record { tokens = set (set W.tokens p u) q w; cells = cs; name = name; place = place; store = W.store; new = suc W.new }

module _ {M : Labels} {W : World} {p : ℕ} {L R : List Abstract.Token} (o : Others M W p L R) (used : UsedToken W p)
    (q : ℕ) (free : Free (used_tokens W.tokens W.cells) q) (u w : Token) (cs : List Cell) (name place : ℕ → ℕ) where
  abbrev W' : World
  W' = two_written W p u q w cs name place

  used-other : (r : ℕ) → UsedToken W r → r ≡ q → ⊥
  used-other r i e = clash (subst (UsedToken W) e i) free

  new-inside : q < length W.tokens
  new-inside = let z = free-inside (used_tokens W.tokens W.cells) q free in let y = (tokens-of W).size in omega arith

  new-dead : is_live (token_at W.tokens q).state ≡ false
  new-dead = false_of _ (λ e. used-other q (live-used o used q e) refl)

  pub two-first : token_at W'.tokens p ≡ u
  two-first = token-other (set W.tokens p u) q p w (used-other p used) ∙ token-same W.tokens p u (acting-inside o)

  pub two-second : token_at W'.tokens q ≡ w
  two-second = token-same (set W.tokens p u) q w (let z = length-set W.tokens p u in let y = new-inside in omega arith)

  two-other : (r : ℕ) → (r ≡ p → ⊥) → (r ≡ q → ⊥) → token_at W'.tokens r ≡ token_at W.tokens r
  two-other r a b = token-other (set W.tokens p u) q r w b ∙ token-other W.tokens p r u a

  -- the cells in use keep their names, values and parents
  module _ (cells : (c n : ℕ) → UsedCell W c → CellSeen W c n → CellSeen W' c n)
      (parents : (c : ℕ) → UsedCell W c → (cell_at cs c).parent ≡ (cell_at W.cells c).parent) where
    pub two-kept : Kept (UsedToken W) (UsedCell W) W W'
    two-kept =
        record {
          size = length-set (set W.tokens p u) q w ∙ length-set W.tokens p u;
          frames = λ r i e. two-other r (frame-other o r e) (used-other r i);
          cells = cells;
          parents = parents;
        }

    two-live : (N : List ℕ) → is_live w.state ≡ true → ((r : ℕ) → (r ≡ p → ⊥) → occurrences r N ≡ once (eqb r q))
        → occurrences p N ≡ alive u
        → (r : ℕ) → alive (token_at W'.tokens r) + once (eqb r p) ≡ alive (token_at W.tokens r) + occurrences r N
    two-live N l h k r = go (ℕ_discrete r p) (ℕ_discrete r q)
      where
        go : Dec (r ≡ p) → Dec (r ≡ q) → alive (token_at W'.tokens r) + once (eqb r p) ≡ alive (token_at W.tokens r) + occurrences r N
        go (yes e) x =
            let a : alive (token_at W'.tokens r) ≡ alive u = ap alive (ap (token_at W'.tokens) e ∙ two-first) in
            let b : alive (token_at W.tokens r) ≡ 1 = ap (λ i. alive (token_at W.tokens i)) e ∙ ap once (acting-live o) in
            let c : once (eqb r p) ≡ 1 = ap once (ap (eqb r) (sym e) ∙ eqb_same r) in
            let f : occurrences r N ≡ alive u = ap (λ i. occurrences i N) e ∙ k in
            omega arith
        go (no n) (yes e) =
            let a : alive (token_at W'.tokens r) ≡ 1 = ap alive (ap (token_at W'.tokens) e ∙ two-second) ∙ ap once l in
            let b : alive (token_at W.tokens r) ≡ 0 = ap (λ i. alive (token_at W.tokens i)) e ∙ ap once new-dead in
            let c : once (eqb r p) ≡ 0 = ap once (ne_eqb r p n) in
            let d : once (eqb r q) ≡ 1 = ap once (ap (eqb r) (sym e) ∙ eqb_same r) in
            let f = h r n in
            omega arith
        go (no n) (no k) =
            let a : alive (token_at W'.tokens r) ≡ alive (token_at W.tokens r) = ap alive (two-other r n k) in
            let c : once (eqb r p) ≡ 0 = ap once (ne_eqb r p n) in
            let d : once (eqb r q) ≡ 0 = ap once (ne_eqb r q k) in
            let f = h r n in
            omega arith

    two-rewrites : (N : List ℕ) → is_live w.state ≡ true → ((r : ℕ) → (r ≡ p → ⊥) → occurrences r N ≡ once (eqb r q))
        → occurrences p N ≡ alive u
        → Rewrites W W' p N
    two-rewrites N l h k =
        record {
          kept = two-kept;
          others = λ r i n. two-other r n (used-other r i);
          live = two-live N l h k;
          store = λ n. refl;
          new =
              omega arith;
        }

    apart : once (eqb p q) ≡ 0
    apart = ap once (ne_eqb p q (used-other p used))

    -- both go on
    pub both-core : {x y : Abstract.Token} → TokenSeen W' M u x → TokenSeen W' M w y
        → Core M W' (o.before ++ ((p ∷ q ∷ []) ++ o.behind)) (L ++ ((x ∷ y ∷ []) ++ R))
    unfolding occurrences
    both-core {x} {y} a b =
        rewritten o
        (two-rewrites (p ∷ q ∷ []) (token-live b) (λ r n. let c : once (eqb r p) ≡ 0 = ap once (ne_eqb r p n) in omega arith)
        (let c : once (eqb p p) ≡ 1 = ap once (eqb_same p) in let e = apart in let f : alive u ≡ 1 = ap once (token-live a) in omega arith))
        (also (subst (λ t. TokenSeen W' M t x) (sym two-first) a) (also (subst (λ t. TokenSeen W' M t y) (sym two-second) b) nobody))

    -- only the new one goes on
    pub new-core : {y : Abstract.Token} → is_live u.state ≡ false → TokenSeen W' M w y
        → Core M W' (o.before ++ ((q ∷ []) ++ o.behind)) (L ++ ((y ∷ []) ++ R))
    unfolding occurrences
    new-core {y} l b =
        rewritten o
        (two-rewrites (q ∷ []) (token-live b) (λ r n. omega arith) (let e = apart in let f : alive u ≡ 0 = ap once l in omega arith))
        (also (subst (λ t. TokenSeen W' M t y) (sym two-second) b) nobody)
