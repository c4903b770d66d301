-- Loops that go through a list from the front: what is read at a turn, and what a list that is written holds. By induction over the list.
-- Assumes nothing.
use mathlib.Core.Path.{◌≡◌, ◌∙◌, ap}
use mathlib.Core.List.{List, ◌∷◌}
use Prim.Native.Nat.{ℕ, zero, suc, ◌+◌, ◌-◌, ◌≤◌, ◌<◌}
use native.Mathlib.Numerals.{add-one}
use native.Mathlib.Omega.{arith}
use lib.ListN.{length, get_or, drop}
use lib.Seq.{drop-cons}

-- a loop that reads a list comes to an element
pub drop-next : {A : Type 0} (l : List A) (i : ℕ) (d : A) → i < length l → drop i l ≡ get_or l i d ∷ drop (i + 1) l
drop-next l i d h = rw (add-one) (drop-cons l i d h)

-- what each step from a to b leaves as it is
pub steady : {A : Type 0} (f : ℕ → A) (a b : ℕ) → a ≤ b → ((i : ℕ) → a ≤ i → i < b → f i ≡ f (i + 1)) → f a ≡ f b
steady f a b l e = let z : a + (b - a) ≡ b = omega arith in go (b - a) a (λ i h k. e i h (omega arith)) ∙ ap f z
  where
    go : (n k : ℕ) → ((i : ℕ) → k ≤ i → i < k + n → f i ≡ f (i + 1)) → f k ≡ f (k + n)
    go zero k e = let z : k ≡ k + 0 = omega arith in ap f z
    go (suc n) k e =
        let z : k + 1 + n ≡ k + suc n = omega arith in
        e k (omega arith) (omega arith) ∙ go n (k + 1) (λ i h l. e i (omega arith) (omega arith)) ∙ ap f z
