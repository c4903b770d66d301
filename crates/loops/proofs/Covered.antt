-- Tokens in use are no more than the abstract machine's tokens and their frames: each place in use is that of a live token, or of a caller
-- from one on. Marks are no more than a list that has every marked place. Assumes nothing.
use mathlib.Core.Path.{◌≡◌, refl, sym, ◌∙◌, ap, subst}
use mathlib.Core.Logic.{◌⊎◌, inl, inr}
use mathlib.Core.Bool.{Bool, true, false}
use mathlib.Core.List.Memᴰ
use mathlib.Core.List.{List, [], ◌∷◌, ◌++◌}
use Prim.Native.Nat.{ℕ, zero, suc, ◌+◌, ◌<◌, ◌≤◌}
use native.Mathlib.Omega.{arith}
use lib.ListN.{length, length-append}
use lib.Dec.{eqb}
use Rattle.job.specs.Test.{once, occurrences}
use Rattle.job.proofs.Test.{eqb-eq}
use Rattle.model.specs.Machine.Blank.{token_at}
use Rattle.model.specs.Machine.InUse.{tokens_used, marked}
use Rattle.model.specs.Machine.Held.{Held, Place}
use Rattle.model.specs.declared.token.State.{State}
use Rattle.model.specs.declared.token.Token.{Token}
use Rattle.model.specs.declared.record.Machine.{Machine}
use Rattle.model.proofs.Machine.Marks.{Marked}
use Rattle.model.proofs.Machine.Reach.{Names, names-nowhere, names_at}
use Rattle.model.proofs.Machine.Inside.{active-live}
use Rattle.simulation.proofs.AbstractMachine as Abstract
use Rattle.simulation.proofs.AbstractMachine.{Binding, Frame, at, Store, state}
use Rattle.simulation.proofs.Shuffle.{Split, first, later}
use Rattle.simulation.proofs.Store.{◌is-in◌}
use Rattle.lockstep.proofs.Labels.{Labels}
use Rattle.lockstep.proofs.View.{World, StateSeen, ready, waiting, called, due, FramesSeen, outermost, called_by, TokenSeen, sees}
use Rattle.lockstep.proofs.View.{TokensSeen}
use Rattle.lockstep.proofs.View.{nobody, also}
use Rattle.lockstep.proofs.Seen.{Core, token_marks, Sees, seen_as, tokens-of, live-listed}
use Rattle.loops.proofs.Weights.{frames_of}

-- the places one lower, but for 0
unfoldable lower : List ℕ → List ℕ
lower [] = []
lower (zero ∷ l) = lower l
lower (suc i ∷ l) = i ∷ lower l

lower-short : (l : List ℕ) → length (lower l) ≤ length l
unfolding lower
lower-short [] = omega arith
lower-short (zero ∷ l) = let z = lower-short l in omega arith
lower-short (suc i ∷ l) = let z = lower-short l in omega arith

lower-shorter : (l : List ℕ) → zero is-in l → suc (length (lower l)) ≤ length l
unfolding lower
lower-shorter [] m = absurd (Memᴰ.not-nil m)
lower-shorter (zero ∷ l) m = let z = lower-short l in omega arith
lower-shorter (suc i ∷ l) (Memᴰ.head e) = absurd (omega arith)
lower-shorter (suc i ∷ l) (Memᴰ.tail m) = let z = lower-shorter l m in omega arith

lower-has : (i : ℕ) (l : List ℕ) → suc i is-in l → i is-in lower l
unfolding lower
lower-has i [] m = absurd (Memᴰ.not-nil m)
lower-has i (zero ∷ l) (Memᴰ.head e) = absurd (omega arith)
lower-has i (zero ∷ l) (Memᴰ.tail m) = lower-has i l m
lower-has i (suc j ∷ l) (Memᴰ.head e) = let z : i ≡ j = omega arith in Memᴰ.head z
lower-has i (suc j ∷ l) (Memᴰ.tail m) = Memᴰ.tail (lower-has i l m)

pub marked-covered : (marks : List Bool) (l : List ℕ) → ((i : ℕ) → i < length marks → Marked marks i → i is-in l) → marked marks ≤ length l
unfolding marked
marked-covered [] l h = omega arith
marked-covered (true ∷ marks) l h =
    let z = marked-covered marks (lower l) (λ i k m. lower-has i l (h (suc i) (omega arith) m)) in
    let y = lower-shorter l (h 0 (omega arith) refl) in
    omega arith
marked-covered (false ∷ marks) l h =
    let z = marked-covered marks (lower l) (λ i k m. lower-has i l (h (suc i) (omega arith) m)) in
    let y = lower-short l in
    omega arith

in_left : {x : ℕ} {l : List ℕ} (k : List ℕ) → x is-in l → x is-in (l ++ k)
in_left k (Memᴰ.head e) = Memᴰ.head e
in_left k (Memᴰ.tail m) = Memᴰ.tail (in_left k m)

in_right : {x : ℕ} {k : List ℕ} (l : List ℕ) → x is-in k → x is-in (l ++ k)
in_right [] m = m
in_right (y ∷ l) m = Memᴰ.tail (in_right l m)

in_either : {x : ℕ} {k : List ℕ} (l : List ℕ) → x is-in (l ++ k) → (x is-in l) ⊎ (x is-in k)
in_either [] m = inr m
in_either (y ∷ l) (Memᴰ.head e) = inl (Memᴰ.head e)
in_either {x} {k} (y ∷ l) (Memᴰ.tail m) = go (in_either l m)
  where
    go : (x is-in l) ⊎ (x is-in k) → (x is-in (y ∷ l)) ⊎ (x is-in k)
    go (inl a) = inl (Memᴰ.tail a)
    go (inr b) = inr b

-- a token and its frames
unfoldable pub uses : List Abstract.Token → ℕ
uses [] = 0
uses (x ∷ S) = suc (length (frames_of x)) + uses S

pub split-uses : {x : Abstract.Token} {S L R : List Abstract.Token} → Split x S L R → uses S ≡ uses L + (suc (length (frames_of x)) + uses
    R)
unfolding uses
split-uses first = omega arith
split-uses (later s) = let z = split-uses s in omega arith

module _ (W : World) where
  -- a list of places that has the callers of its tokens
  abbrev CallerClosed : List ℕ → Type 0
  CallerClosed l = (p : ℕ) → p is-in l → Names (λ q. q is-in l) (token_at W.tokens p).caller

  closed-cons : {p : ℕ} {l : List ℕ} → Names (λ q. q is-in l) (token_at W.tokens p).caller → CallerClosed l → CallerClosed (p ∷ l)
  closed-cons {p} {l} n c i (Memᴰ.head e) j f =
      Memᴰ.tail (n j (ap (λ k. (token_at W.tokens k).caller) (sym e) ∙ f))
  closed-cons n c i (Memᴰ.tail m) j f = Memᴰ.tail (c i m j f)

  closed-append : {l k : List ℕ} → CallerClosed l → CallerClosed k → CallerClosed (l ++ k)
  closed-append {l} {k} c d i m j f = go (in_either l m)
    where
      go : (i is-in l) ⊎ (i is-in k) → j is-in (l ++ k)
      go (inl a) = in_left k (c i a j f)
      go (inr b) = in_right l (d i b j f)

  module _ (M : Labels) where
    -- the places of the callers
    record Callers (q : Place) (F : List Frame) : Type 0 where
      list : List ℕ
      size : length list ≡ length F
      first : Names (λ i. i is-in list) q
      closed : CallerClosed list

    callers : {q : Place} {F : List Frame} → FramesSeen W M q F → Callers q F
    callers outermost =
        record { list = []; size = refl; first = names-nowhere (λ i. i is-in []); closed = λ p m. absurd (Memᴰ.not-nil m) }
    callers (called_by {q = q} {t = t} l i s k b f u o) =
        let r = callers f in
        record {
          list = q ∷ r.list;
          size = ap suc r.size;
          first = names_at (λ j. j is-in (q ∷ r.list)) q (Memᴰ.head refl);
          closed = closed-cons (λ j e. r.first j (ap (λ (t : Token). t.caller) (sym i) ∙ e)) r.closed;
        }

    -- the places of the live tokens and of their callers
    record Covers (A : List ℕ) (S : List Abstract.Token) : Type 0 where
      list : List ℕ
      size : length list ≡ uses S
      has : (p : ℕ) → 0 < occurrences p A → p is-in list
      closed : CallerClosed list

    state-frames : {n : ℕ} {B : List Binding} {F : List Frame} {U : List ℕ} {s : State} {w : Held} {x : Abstract.Token}
        → StateSeen M n (at n B F U) s w x → frames_of x ≡ F
    state-frames (ready h) = refl
    state-frames (waiting e h) = refl
    state-frames called = refl
    state-frames due = refl

    token-callers : {t : Token} {x : Abstract.Token} → TokenSeen W M t x → Callers t.caller (frames_of x)
    token-callers {t} (sees v u s) = subst (Callers t.caller) (sym (state-frames s)) (callers v.caller)

    covers : {A : List ℕ} {S : List Abstract.Token} → TokensSeen W M A S → Covers A S
    unfolding uses occurrences
    covers nobody = record { list = []; size = refl; has = λ p l. absurd (omega arith); closed = λ p m. absurd (Memᴰ.not-nil m) }
    covers (also {p = p} {x = x} {A = A} v r) =
        let c = token-callers v in
        let d = covers r in
        record {
          list = p ∷ (c.list ++ d.list);
          size =
              (let a : length (c.list ++ d.list) ≡ length c.list + length d.list = length-append c.list d.list in
              let e : length c.list ≡ length (frames_of x) = c.size in
              let f = d.size in
              omega arith);
          has = λ q l. listed q c.list (d.has q) l;
          closed = closed-cons (λ j e. in_left d.list (c.first j e)) (closed-append c.closed d.closed);
        }
      where
        listed : (q : ℕ) (l : List ℕ) {k : List ℕ} → (0 < occurrences q A → q is-in k) → 0 < once (eqb q p) + occurrences q A
            → q is-in (p ∷ (l ++ k))
        listed q l {k} f z = go (eqb q p) refl
          where
            go : (b : Bool) → eqb q p ≡ b → q is-in (p ∷ (l ++ k))
            go true e = Memᴰ.head (eqb-eq q p e)
            go false e =
                Memᴰ.tail (in_right l (f (let y : once (eqb q p) ≡ 0 = rw e refl in omega arith)))

    core-uses : {A : List ℕ} {S : List Abstract.Token} → Core M W A S → marked (token_marks W) ≤ uses S
    core-uses K =
        let c = covers K.seen in
        let z = marked-covered (token_marks W) c.list
        (λ i l m.
        (tokens-of W).least (λ p. p is-in c.list)
        (λ p e. c.has p (live-listed p K (active-live W.cells (token_at W.tokens p) e)))
        (λ p k h. c.closed p h) i (let y = (tokens-of W).size in omega arith) m) in
        let y = c.size in
        omega arith

pub sees-uses : {M : Labels} (m : Machine) {S : List Abstract.Token} {σ : Store} {new h now : ℕ} → Sees M m (state S σ new h now)
    → marked (tokens_used m) ≤ uses S
sees-uses {M} m (seen_as name place A K) = core-uses _ M K
