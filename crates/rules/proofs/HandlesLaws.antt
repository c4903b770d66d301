-- Open handles, gathered in one pass and compared pair by pair. By induction over the handles: each is compared with those behind it.
-- Assumes nothing.
use mathlib.Core.Path.{◌≡◌, refl, sym, ◌∙◌, ap, ap₂}
use mathlib.Core.Bool.{Bool, true, false, not, ◌&&◌}
use mathlib.Core.List.{List, [], ◌∷◌, ◌++◌, append-nil, append_assoc}
use Prim.Native.Nat.{ℕ, zero, suc, ◌+◌, ◌<◌}
use native.Mathlib.Decide.{ℕ_discrete}
use native.Mathlib.Nat.{add-zero}
use native.Mathlib.Numerals.{add-one}
use native.Mathlib.Omega.{arith}
use lib.ListN.{length, get_or, take, drop, set}
use lib.Seq.{take-suc, take-suc-set, take-set-le}
use lib.Dec.{eqb}
use Rattle.model.specs.declared.token.State.TheVariants as states
use Rattle.job.specs.Test.{◌and◌, ◌or◌, for_all, for_some, distinct, once}
use Rattle.model.specs.Machine.Rules.{open_handles}
use Rattle.model.specs.Machine.Blank.{token_is_blank}
use Rattle.model.specs.Machine.State.{is_blank_state, handle_of}
use Rattle.model.specs.declared.token.State.{State}
use Rattle.model.specs.declared.token.Token.{Token}
use Rattle.record.specs.Layout.{state_kind, state_number}
use Rattle.job.proofs.Both.{both, regroup}
use Rattle.job.proofs.Test.{and_left, and_right, eq-eqb, ne_eqb}
use Rattle.model.proofs.Machine.Blanking.{state-blank}

handles-more : (ts : List Token) (i : ℕ) (d : Token) → i < length ts
    → open_handles (take (suc i) ts) ≡ open_handles (take i ts) ++ handle_of (get_or ts i d).state
unfolding open_handles
handles-more [] i d l = absurd (omega arith)
handles-more (t ∷ ts) zero d l = append-nil (handle_of t.state)
handles-more (t ∷ ts) (suc i) d l =
    ap (◌++◌ (handle_of t.state)) (handles-more ts i d (omega arith)) ∙ sym (append_assoc (handle_of t.state) _ _)

-- the handle of a token, or none
called-handle : (s : State) → state_kind s ≡ 3 → handle_of s ≡ state_number s ∷ []
unfolding handle_of
called-handle states.Blank e = absurd (omega arith)
called-handle states.Ready e = absurd (omega arith)
called-handle (states.Waiting c) e = absurd (omega arith)
called-handle (states.Called h) e = refl
called-handle (states.Due d) e = absurd (omega arith)
called-handle states.Frame e = absurd (omega arith)

no-handle : (s : State) → (state_kind s ≡ 3 → ⊥) → handle_of s ≡ []
unfolding handle_of
no-handle states.Blank f = refl
no-handle states.Ready f = refl
no-handle (states.Waiting c) f = refl
no-handle (states.Called h) f = absurd (f refl)
no-handle (states.Due d) f = refl
no-handle states.Frame f = refl

module _ (ts : List Token) (list : List ℕ) (n i : ℕ) (d : Token) (l : i < length ts) (room : n < length list)
    (so_far : take n list ≡ open_handles (take i ts)) {h k : ℕ}
    (handle : h ≡ state_number (get_or ts i d).state) (number : k ≡ state_kind (get_or ts i d).state) where
  one_more : (n' : ℕ) → k ≡ 3 → n' ≡ n + 1 → take n' (set list n h) ≡ open_handles (take (i + 1) ts)
  one_more n' e m =
      rw (m, add-one n, add-one i)
      (take-suc-set list n h room
      ∙ ap₂ (λ (xs ys : List ℕ). xs ++ ys) so_far
      (ap (λ (x : ℕ). x ∷ []) handle ∙ sym (called-handle (get_or ts i d).state (sym number ∙ e)))
      ∙ sym (handles-more ts i d l))

  no_more : (n' : ℕ) → (k ≡ 3 → ⊥) → n' ≡ n → take n' (set list n h) ≡ open_handles (take (i + 1) ts)
  no_more n' f m =
      rw (m, add-one i)
      (take-set-le n list n h (omega arith)
      ∙ so_far
      ∙ sym (append-nil (open_handles (take i ts)))
      ∙ ap (◌++◌ (open_handles (take i ts))) (sym (no-handle (get_or ts i d).state (λ e. f (number ∙ e))))
      ∙ sym (handles-more ts i d l))

  -- a token has one handle or none
  pub handle-more : (n' : ℕ) → n' ≡ n + once (eqb k 3) → take n' (set list n h) ≡ open_handles (take (i + 1) ts)
  handle-more n' e = go (ℕ_discrete k 3)
    where
      go : Dec (k ≡ 3) → take n' (set list n h) ≡ open_handles (take (i + 1) ts)
      go (yes f) = one_more n' f (e ∙ ap (λ b. n + once b) (eq-eqb k 3 f))
      go (no f) = no_more n' f (e ∙ ap (λ b. n + once b) (ne_eqb k 3 f) ∙ add-zero n)

-- a blank token has none
pub blank-more : (ts : List Token) (i : ℕ) (d : Token) {xs : List ℕ} → i < length ts → token_is_blank (get_or ts i d) ≡ true
    → xs ≡ open_handles (take i ts) → xs ≡ open_handles (take (i + 1) ts)
unfolding token_is_blank handle_of
blank-more ts i d l e so_far =
    let t = get_or ts i d in
    let none : handle_of t.state ≡ [] = ap handle_of (state-blank t.state (and_left (is_blank_state t.state) _ e)) in
    rw (add-one i) (so_far ∙ sym (handles-more ts i d l ∙ ap (◌++◌ (open_handles (take i ts))) none ∙ append-nil (open_handles (take i
    ts))))

-- nor do those from a place on have any, where they all are
pub blank-rest : (ts : List Token) (i : ℕ) → for_all token_is_blank (drop i ts) ≡ true → open_handles (take i ts) ≡ open_handles ts
unfolding open_handles token_is_blank handle_of for_all
blank-rest [] zero e = refl
blank-rest [] (suc i) e = refl
blank-rest (t ∷ ts) zero e =
    let none : handle_of t.state ≡ [] =
    ap handle_of (state-blank t.state (and_left (is_blank_state t.state) _ (and_left (token_is_blank t) _ e))) in
    sym (ap (λ hs. hs ++ open_handles ts) none ∙ sym (blank-rest ts zero (and_right (token_is_blank t) _ e)))
blank-rest (t ∷ ts) (suc i) e = ap (◌++◌ (handle_of t.state)) (blank-rest ts i e)

-- numbers differ when each is none of those before it
some-last : (p : ℕ → Bool) (xs : List ℕ) (y : ℕ) → not (for_some p (xs ++ (y ∷ []))) ≡ (not (for_some p xs) and not (p y))
unfolding for_some ◌and◌ ◌or◌
some-last p [] y = go (p y)
  where
    go : (b : Bool) → not (b or false) ≡ (true and not b)
    go true = refl
    go false = refl
some-last p (x ∷ xs) y = go (p x) (some-last p xs y)
  where
    go : (b : Bool) → not (for_some p (xs ++ (y ∷ []))) ≡ (not (for_some p xs) and not (p y))
        → not (b or for_some p (xs ++ (y ∷ []))) ≡ (not (b or for_some p xs) and not (p y))
    go true e = refl
    go false e = e

differ-last : (xs : List ℕ) (y : ℕ) → distinct (xs ++ (y ∷ [])) ≡ (distinct xs and for_all (λ (x : ℕ). not (eqb x y)) xs)
unfolding distinct for_some for_all ◌and◌
differ-last [] y = refl
differ-last (x ∷ xs) y = ap₂ ◌and◌ (some-last (eqb x) xs y) (differ-last xs y)
    ∙ regroup (not (for_some (eqb x) xs)) (not (eqb x y)) (distinct xs) _

pub differ-turn : (xs : List ℕ) (i : ℕ) {ok b : Bool} → i < length xs → ok ≡ distinct (take i xs)
    → b ≡ for_all (λ (x : ℕ). not (eqb x (get_or xs i 0))) (take i xs) → (ok && b) ≡ distinct (take (i + 1) xs)
differ-turn xs i l e f = both e f ∙ sym (rw add-one (ap distinct (take-suc xs i 0 l) ∙ differ-last (take i xs) (get_or xs i 0)))
