-- A list as the table of what is read from it, a part of one, and two tests that say the same. By induction over the list. Assumes nothing.
use mathlib.Core.Path.{◌≡◌, refl, sym, ◌∙◌, ap}
use mathlib.Core.Bool.{Bool, true, false}
use mathlib.Core.List.{List, [], ◌∷◌}
use Prim.Native.Nat.{ℕ, zero, suc, ◌+◌, ◌<◌, ◌≤◌}
use native.Mathlib.Decide.{dec_lt}
use native.Mathlib.Omega.{arith}
use lib.ListN.{length, get_or, replicate, take, drop, length-drop}
use lib.Seq.{ext_get_or, get_or-drop, get_or-take, length-take-le}

-- a list of n words is the n words that are read from it
unfoldable pub table : {A : Type 0} → ℕ → (ℕ → A) → List A
table zero f = []
table (suc n) f = f 0 ∷ table n (λ i. f (suc i))

pub listed : {A : Type 0} (d : A) (n : ℕ) (xs : List A) → length xs ≡ n → xs ≡ table n (λ i. get_or xs i d)
unfolding table
listed d zero [] e = refl
listed d zero (x ∷ xs) e = absurd (omega arith)
listed d (suc n) [] e = absurd (omega arith)
listed d (suc n) (x ∷ xs) e = ap (◌∷◌ x) (listed d n xs (omega arith))

-- a test that says the same
pub same-when : (a b : Bool) → (a ≡ true → b ≡ true) → (b ≡ true → a ≡ true) → a ≡ b
same-when true b f g = sym (f refl)
same-when false true f g = g refl
same-when false false f g = refl

-- a list of one element, over and over
pub replicate-at : {A : Type 0} (n i : ℕ) (x : A) → get_or (replicate n x) i x ≡ x
replicate-at zero i x = refl
replicate-at (suc n) zero x = refl
replicate-at (suc n) (suc i) x = replicate-at n i x

-- within a list the default is never read
pub get_d_any : {A : Type 0} (l : List A) (i : ℕ) (d e : A) → i < length l → get_or l i d ≡ get_or l i e
get_d_any [] i d e l = absurd (omega arith)
get_d_any (x ∷ xs) zero d e l = refl
get_d_any (x ∷ xs) (suc i) d e l = get_d_any xs i d e (omega arith)

-- n elements of a list, from one on
module _ {A : Type 0} (l : List A) (at n : ℕ) where
  pub part_at : (k : ℕ) (d : A) → k < n → get_or (take n (drop at l)) k d ≡ get_or l (at + k) d
  part_at k d b = get_or-take n (drop at l) k d b ∙ get_or-drop at l k d

  pub part-long : at + n ≤ length l → length (take n (drop at l)) ≡ n
  part-long b = length-take-le n (drop at l) (omega (arith, length-drop at l))

  -- they are a row where each is the row's
  pub part-is : (row : List A) (d : A) → length row ≡ n → at + n ≤ length l → ((k : ℕ) → k < n → get_or l (at + k) d ≡ get_or row k d)
      → take n (drop at l) ≡ row
  part-is row d wide b f =
      ext_get_or d (take n (drop at l)) row (part-long b ∙ sym wide) (λ k c.
      let inside : k < n = omega (arith, part-long b) in part_at k d inside ∙ f k inside)

-- what is so of each number before one and of each from it on is so of each
pub before-and-behind : {P : ℕ → Type 0} (at n : ℕ) → ((p : ℕ) → p < at → P p) → ((p : ℕ) → at ≤ p → p < n → P p) → (p : ℕ) → p < n → P p
before-and-behind {P} at n before behind p b = go (dec_lt p at)
  where
    go : Dec (p < at) → P p
    go (yes l) = before p l
    go (no l) = behind p (omega arith) b
