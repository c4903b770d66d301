-- The place given to a new record was not in use, if some place was not: the search goes once round the table, so it comes to that place or
-- stops at one before it. Assumes nothing.
use mathlib.Core.Path.{◌≡◌, refl, sym, ◌∙◌, ap, subst}
use mathlib.Core.Bool.{Bool, true, false}
use mathlib.Core.List.{List, [], ◌∷◌}
use Prim.Native.Nat.{ℕ, zero, suc, ◌+◌, ◌-◌, ◌<◌, ◌≤◌}
use native.Mathlib.Decide.{dec_lt}
use native.Mathlib.Omega.{arith}
use lib.ListN.{length, get_or}
use Rattle.model.specs.Machine.InUse.{marked, tokens_used, cells_used}
use Rattle.model.specs.Machine.FreePlace.{around, free_from, next_place, place_after}
use Rattle.model.specs.Machine.Step.{token_place, cell_place}
use Rattle.model.specs.declared.record.Machine.{Machine}
use Rattle.job.proofs.Test.{clash, lt-ltb, le-not-ltb}
use Rattle.model.proofs.Machine.Marks.{Marked, Free, free-inside, some-free}

around-inside : (n p : ℕ) → p < n → around n p ≡ p
unfolding around
around-inside n p l = rw (lt-ltb p n l, around) refl

around-outside : (n p : ℕ) → n ≤ p → around n p ≡ 0
unfolding around
around-outside n p l = rw (le-not-ltb p n l, around) refl

module _ (marks : List Bool) where
  -- the search at place q, with n places after it
  look_at : ℕ → ℕ → ℕ
  look_at n q = elim (get_or marks q true) [ true ↦ free_from marks n (suc q) | false ↦ q ]

  free-from : (n p q : ℕ) → around (length marks) p ≡ q → free_from marks (suc n) p ≡ look_at n q
  unfolding free_from look_at
  free-from n p q e = ap (look_at n) e

  look-free : (n q : ℕ) → (Marked marks q → Free marks (free_from marks n (suc q))) → Free marks (look_at n q)
  unfolding look_at
  look-free n q h = go (get_or marks q true) refl
    where
      go : (b : Bool) → get_or marks q true ≡ b → Free marks (elim b [ true ↦ free_from marks n (suc q) | false ↦ q ])
      go true e = h e
      go false e = e

  later : (q j : ℕ) → Marked marks q → Free marks j → q ≤ j → q < j
  later q j m f l = let n : q ≡ j → ⊥ = λ e. clash m (ap (λ x. get_or marks x true) e ∙ f) in omega arith

  -- the free place j lies ahead
  ahead : (n q j : ℕ) → Free marks j → j < length marks → q ≤ j → j < q + n → Free marks (free_from marks n q)
  ahead zero q j f l k h = absurd (omega arith)
  ahead (suc n) q j f l k h =
      subst
      (Free marks)
      (sym (free-from n q q (around-inside (length marks) q (omega arith))))
      (look-free n q (λ m. ahead n (suc q) j f l (later q j m f k) (omega arith)))

  -- the free place j comes after the turn at the end
  behind : (n q j : ℕ) → Free marks j → j < length marks → q ≤ length marks → length marks + j < q + n → Free marks (free_from marks n q)
  behind zero q j f l k h = absurd (omega arith)
  behind (suc n) q j f l k h = go (dec_lt q (length marks)) (λ x. behind n (suc q) j f l (omega arith) (omega arith))
    where
      go : Dec (q < length marks) → (q < length marks → Free marks (free_from marks n (suc q))) → Free marks (free_from marks (suc n) q)
      go (yes x) next =
          subst (Free marks) (sym (free-from n q q (around-inside (length marks) q x))) (look-free n q (λ m. next x))
      go (no x) next =
          subst
          (Free marks)
          (sym (free-from n q 0 (around-outside (length marks) q (omega arith))))
          (look-free n 0 (λ m. ahead n 1 j f l (later 0 j m f (omega arith)) (omega arith)))

-- "after the last one given": with places 0 and 2 free and 1 the last one given it is 2, not the lowest
pub next-not-lowest : next_place (false ∷ true ∷ false ∷ []) 1 ≡ 2
unfolding next_place free_from around
next-not-lowest = refl

pub next-place-free :
    (marks : List Bool) (last : ℕ)
    → last < length marks
    → marked marks < length marks
    → get_or marks (next_place marks last) true ≡ false
unfolding next_place
next-place-free marks last l h = let x = some-free marks h in go x.0 x.1 (free-inside marks x.0 x.1) (dec_lt last x.0)
  where
    go : (j : ℕ) → Free marks j → j < length marks → Dec (last < j) → Free marks (free_from marks (length marks) (suc last))
    go j f k (yes x) = ahead marks (length marks) (suc last) j f k (omega arith) (omega arith)
    go j f k (no x) = behind marks (length marks) (suc last) j f k (omega arith) (omega arith)

module _ (marks : List Bool) where
  -- the search finds the first of them that is free, or all that it looked at are in use
  pub data Searched (p n : ℕ) : Type 0 where
    at : (k : ℕ) → free_from marks n (suc p) ≡ place_after (length marks) p k
        → ((i : ℕ) → i < k → Marked marks (place_after (length marks) p i)) → Searched p n
    none : free_from marks n (suc p) ≡ 0 → ((i : ℕ) → i < n → Marked marks (place_after (length marks) p i)) → Searched p n

  searched : (n p : ℕ) → Searched p n
  unfolding free_from place_after
  searched zero p = none refl (λ i l. absurd (omega arith))
  searched (suc n) p = go (get_or marks q true) refl (searched n q)
    where
      q : ℕ
      q = around (length marks) (suc p)

      before : {k : ℕ} → Marked marks q → ((i : ℕ) → i < k → Marked marks (place_after (length marks) q i))
          → (i : ℕ) → i < suc k → Marked marks (place_after (length marks) p i)
      before m f zero l = unfold place_after in m
      before m f (suc i) l = unfold place_after in f i (omega arith)

      look : (b : Bool) → get_or marks q true ≡ b
          → free_from marks (suc n) (suc p) ≡ elim b as (λ b. ℕ) [ true ↦ free_from marks n (suc q) | false ↦ q ]
      look b e = unfold free_from in ap (λ b. elim b as (λ b. ℕ) [ true ↦ free_from marks n (suc q) | false ↦ q ]) e

      go : (b : Bool) → get_or marks q true ≡ b → Searched q n → Searched p (suc n)
      go false e x = at 0 (look false e ∙ sym (unfold place_after in refl)) (λ i l. absurd (omega arith))
      go true e (at k r f) = at (suc k) (look true e ∙ r ∙ sym (unfold place_after in refl)) (before e f)
      go true e (none r f) = none (look true e ∙ r) (before e f)

  -- after as many places as are left the search is at 0
  wraps : (j p : ℕ) → suc p + j ≡ length marks → place_after (length marks) p j ≡ 0
  unfolding place_after
  wraps zero p e = around-outside (length marks) (suc p) (omega arith)
  wraps (suc j) p e =
      ap (λ q. place_after (length marks) q j) (around-inside (length marks) (suc p) (omega arith)) ∙ wraps j (suc p) (omega arith)

  -- where some place is free, every place that is passed over was in use
  pub next-place-first : (last : ℕ) → last < length marks → marked marks < length marks
      → (k : ℕ) × (next_place marks last ≡ place_after (length marks) last k)
      × ((i : ℕ) → i < k → get_or marks (place_after (length marks) last i) true ≡ true)
  unfolding next_place
  next-place-first last l some = go (searched (length marks) last)
    where
      go : Searched last (length marks)
          → (k : ℕ) × (free_from marks (length marks) (suc last) ≡ place_after (length marks) last k)
          × ((i : ℕ) → i < k → Marked marks (place_after (length marks) last i))
      go (at k e f) = (k, e, f)
      go (none e f) =
          let j : ℕ = length marks - suc last in
          clash (ap (λ q. get_or marks q true) (sym (wraps j last (omega arith))) ∙ f j (omega arith))
          (ap (λ q. get_or marks q true) (sym e) ∙ unfold next_place in next-place-free marks last l some)

-- "the next place not in use before the call": where some is not, that of a new token, and that of a new cell
module _ (m : Machine) where
  pub token-place-free : m.lasttoken < length (tokens_used m) → marked (tokens_used m) < length (tokens_used m)
      → Free (tokens_used m) (token_place m)
  token-place-free l some = next-place-free (tokens_used m) m.lasttoken l some

  pub cell-place-free : m.lastcell < length (cells_used m) → marked (cells_used m) < length (cells_used m)
      → Free (cells_used m) (cell_place m)
  cell-place-free l some = next-place-free (cells_used m) m.lastcell l some
