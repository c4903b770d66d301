-- Loops that test each element of a list: what the flag says before, during and after them. By induction over the list, from its end.
-- Assumes nothing.
use mathlib.Core.Path.{◌≡◌, refl, sym, ◌∙◌, ap}
use mathlib.Core.Bool.{Bool, true, false, ◌&&◌}
use mathlib.Core.List.{List, [], ◌∷◌}
use Prim.Native.Nat.{ℕ, zero, suc, ◌+◌, ◌<◌, ◌≤◌}
use native.Mathlib.Numerals.{add-one}
use native.Mathlib.Omega.{arith}
use lib.ListN.{length, get_or, take}
use lib.Seq.{take_all}
use Rattle.std.specs.List.{fold}
use Rattle.job.specs.Test.{◌and◌, ◌or◌, for_all, for_some}
use Rattle.job.proofs.Test.{or_right}
use Rattle.job.proofs.Both.{both, and-true, and_assoc}

-- after the last turn a test of the first elements is one of all
pub done : {A : Type 0} (test : List A → Bool) (xs : List A) (i : ℕ) {ok : Bool}
    → length xs ≤ i → ok ≡ test (take i xs) → ok ≡ test xs
done test xs i l e = e ∙ ap test (take_all i xs l)

-- the same test of each element
module _ {A : Type 0} (p : A → Bool) where
  pub all_more : (xs : List A) (i : ℕ) (d : A) → i < length xs → for_all p (take (suc i) xs) ≡ (for_all p (take i xs) and p (get_or xs i d))
  unfolding for_all ◌and◌
  all_more [] i d l = absurd (omega arith)
  all_more (x ∷ xs) zero d l = and-true (p x)
  all_more (x ∷ xs) (suc i) d l = ap (◌and◌ (p x)) (all_more xs i d (omega arith)) ∙ sym (and_assoc (p x) _ _)

  pub all-turn : (xs : List A) (i : ℕ) (d : A) {ok b : Bool}
      → i < length xs → ok ≡ for_all p (take i xs) → b ≡ p (get_or xs i d) → (ok && b) ≡ for_all p (take (i + 1) xs)
  all-turn xs i d l e f = both e f ∙ rw add-one (sym (all_more xs i d l))

  -- a fold that tests each element, without a branch
  folded : (xs : List A) (ok : Bool) → fold (λ ok x. ok && p x) ok xs ≡ (ok and for_all p xs)
  unfolding for_all ◌and◌
  folded [] ok = sym (and-true ok)
  folded (x ∷ xs) ok = folded xs (ok && p x) ∙ and_assoc ok (p x) (for_all p xs)

  pub all-folded : (xs : List A) → fold (λ ok x. ok && p x) true xs ≡ for_all p xs
  unfolding ◌and◌
  all-folded xs = folded xs true

  -- some element: at an index; none before the next one
  pub some_at : (xs : List A) (i : ℕ) (d : A) → i < length xs → p (get_or xs i d) ≡ true → for_some p xs ≡ true
  unfolding for_some ◌or◌
  some_at [] i d l e = absurd (omega arith)
  some_at (x ∷ xs) zero d l e = rw e refl
  some_at (x ∷ xs) (suc i) d l e = or_right (p x) (some_at xs i d (omega arith) e)

  pub none_before : (xs : List A) (i : ℕ) (d : A) → i < length xs → for_some p (take i xs) ≡ false → p (get_or xs i d) ≡ false
      → for_some p (take (suc i) xs) ≡ false
  unfolding for_some ◌or◌
  none_before [] i d l e f = absurd (omega arith)
  none_before (x ∷ xs) zero d l e f = rw f refl
  none_before (x ∷ xs) (suc i) d l e f = go (p x) e (λ g. none_before xs i d (omega arith) g f)
    where
      go : (b : Bool) → (b or for_some p (take i xs)) ≡ false → (for_some p (take i xs) ≡ false → for_some p (take (suc i) xs) ≡ false)
          → (b or for_some p (take (suc i) xs)) ≡ false
      go true g h = g
      go false g h = h g
