-- Boolean tests, over lists of any length. What the library says in another shape or order has a name of its own here (docs/DECISIONS.md,
-- "Names beside the library's"). Assumes nothing: these are definitions.
use Rattle.std.specs.Prelude.{Bool, true, false, not, ◌&&◌, ◌||◌, List, [], ◌∷◌, ◌++◌, ℕ, zero, suc, ◌+◌, ◌-◌, length, replicate, eqb}

-- the library's `&&` and `||`, which stay folded under these names, so that a law about them can find the two sides
infixr 30 ◌and◌
infixr 25 ◌or◌
unfoldable pub ◌and◌ : Bool → Bool → Bool
a and b = a && b

unfoldable pub ◌or◌ : Bool → Bool → Bool
a or b = a || b

unfoldable pub for_all : {A : Type 0} → (A → Bool) → List A → Bool
for_all p [] = true
for_all p (x ∷ xs) = p x and for_all p xs

unfoldable pub for_some : {A : Type 0} → (A → Bool) → List A → Bool
for_some p [] = false
for_some p (x ∷ xs) = p x or for_some p xs

-- a property of each element
pub data All {A : Type 0} (P : A → Type 0) : List A → Type 0 where
  none : All P []
  more : {x : A} {xs : List A} → P x → All P xs → All P (x ∷ xs)

-- a test of each element together with its index, counted from i
unfoldable pub all_from : {A : Type 0} → (ℕ → A → Bool) → ℕ → List A → Bool
all_from p i [] = true
all_from p i (x ∷ xs) = p i x and all_from p (suc i) xs

unfoldable pub select : {A : Type 0} → (A → Bool) → List A → List A
select p [] = []
select p (x ∷ xs) = let r = select p xs in elim (p x) [ true ↦ x ∷ r | false ↦ r ]

-- 1 for true, 0 for false: the library's `to_nat`, over the native numbers
abbrev pub once : Bool → ℕ
once true = 1
once false = 0

-- how often a number stands in a list
unfoldable pub occurrences : ℕ → List ℕ → ℕ
occurrences n [] = 0
occurrences n (x ∷ xs) = once (eqb n x) + occurrences n xs

-- no number stands twice
unfoldable pub distinct : List ℕ → Bool
distinct [] = true
distinct (x ∷ xs) = not (for_some (eqb x) xs) and distinct xs

-- two lists of numbers are the same
unfoldable pub same : List ℕ → List ℕ → Bool
same [] [] = true
same [] (y ∷ ys) = false
same (x ∷ xs) [] = false
same (x ∷ xs) (y ∷ ys) = eqb x y and same xs ys

-- the list, made n long by copies of d at its end
unfoldable pub padded : {A : Type 0} → A → ℕ → List A → List A
padded d n xs = xs ++ replicate (n - length xs) d

-- the list with the element at an index left out: the library's `erase_idx`, over the native numbers
unfoldable pub without : {A : Type 0} → ℕ → List A → List A
without i [] = []
without zero (x ∷ xs) = xs
without (suc i) (x ∷ xs) = x ∷ without i xs
