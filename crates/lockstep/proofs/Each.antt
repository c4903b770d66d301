-- A property of each element of a list together with its index, counted from n: of two lists it holds of one after the other. By induction
-- over the list. Assumes nothing.
use mathlib.Core.Path.{◌≡◌, ap, subst}
use mathlib.Core.List.{List, [], ◌∷◌, ◌++◌}
use Prim.Native.Nat.{ℕ, zero, suc, ◌+◌, ◌<◌}
use native.Mathlib.Omega.{arith}
use lib.ListN.{length, get_or, length-append}

pub data Each {A : Type 0} (P : ℕ → A → Type 0) : ℕ → List A → Type 0 where
  none : {n : ℕ} → Each P n []
  more : {n : ℕ} {x : A} {xs : List A} → P n x → Each P (suc n) xs → Each P n (x ∷ xs)

-- three lists, one after the other: the first has a elements, the second b
pub record Three {A : Type 0} (P : ℕ → A → Type 0) (n a b : ℕ) (xs ys zs : List A) : Type 0 where
  pub first : Each P n xs
  pub second : Each P (n + a) ys
  pub third : Each P (n + a + b) zs

module _ {A : Type 0} {P : ℕ → A → Type 0} where
  pub each-head : {n : ℕ} {x : A} {xs : List A} → Each P n (x ∷ xs) → P n x
  each-head (more p ps) = p

  pub each_tail : {n : ℕ} {x : A} {xs : List A} → Each P n (x ∷ xs) → Each P (suc n) xs
  each_tail (more p ps) = ps

  -- another way to count to the same index
  pub each_from : {m n : ℕ} {xs : List A} → m ≡ n → Each P m xs → Each P n xs
  each_from {xs = xs} e ps = subst (λ i. Each P i xs) e ps

  pub each_left : {n : ℕ} (xs ys : List A) → Each P n (xs ++ ys) → Each P n xs
  each_left [] ys ps = none
  each_left (x ∷ xs) ys (more p ps) = more p (each_left xs ys ps)

  pub each_right : {n : ℕ} (xs ys : List A) (m : ℕ) → n + length xs ≡ m → Each P n (xs ++ ys) → Each P m ys
  each_right [] ys m e ps = each_from (omega arith) ps
  each_right (x ∷ xs) ys m e (more p ps) = each_right xs ys m (omega arith) ps

  pub each_append : {n : ℕ} {xs ys : List A} (m : ℕ) → n + length xs ≡ m → Each P n xs → Each P m ys → Each P n (xs ++ ys)
  each_append m e none qs = each_from (omega arith) qs
  each_append m e (more p ps) qs = more p (each_append m (omega arith) ps qs)

  pub each_three : {n : ℕ} (a b : ℕ) (xs ys zs : List A) → length xs ≡ a → length ys ≡ b → Each P n (xs ++ ys ++ zs)
      → Three P n a b xs ys zs
  each_three {n} a b xs ys zs e f ps =
      let both = each_left (xs ++ ys) zs ps in
      record {
        first = each_left xs ys both;
        second = each_right xs ys (n + a) (omega arith) both;
        third = each_right (xs ++ ys) zs (n + a + b) (omega (arith, length-append xs ys)) ps;
      }

  pub three-each : {n : ℕ} (a b : ℕ) (xs ys zs : List A) → length xs ≡ a → length ys ≡ b → Three P n a b xs ys zs
      → Each P n (xs ++ ys ++ zs)
  three-each {n} a b xs ys zs e f t =
      each_append (n + a + b) (omega (arith, length-append xs ys)) (each_append (n + a) (omega arith) t.first t.second) t.third

  -- at an index, and from each index
  pub each_at : {n : ℕ} {xs : List A} → Each P n xs → (i : ℕ) (d : A) → i < length xs → P (n + i) (get_or xs i d)
  each_at none i d l = absurd (omega arith)
  each_at {n} (more {x = x} p ps) zero d l = subst (λ i. P i x) (let z : n ≡ n + 0 = omega arith in z) p
  each_at {n} (more {xs = xs} p ps) (suc i) d l =
      subst (λ j. P j (get_or xs i d)) (let z : suc n + i ≡ n + suc i = omega arith in z) (each_at ps i d (omega arith))

  pub at_each : (n : ℕ) (xs : List A) (d : A) → ((i : ℕ) → i < length xs → P (n + i) (get_or xs i d)) → Each P n xs
  at_each n [] d h = none
  at_each n (x ∷ xs) d h =
      more (subst (λ i. P i x) (let z : n + 0 ≡ n = omega arith in z) (h 0 (omega arith)))
      (at_each (suc n) xs d
      (λ i l. subst (λ j. P j (get_or xs i d)) (let z : n + suc i ≡ suc n + i = omega arith in z) (h (suc i) (omega arith))))

pub each_map : {A : Type 0} {P Q : ℕ → A → Type 0} {n : ℕ} {xs : List A} → ((i : ℕ) (x : A) → P i x → Q i x) → Each P n xs → Each Q n xs
each_map f none = none
each_map f (more {n = n} {x = x} p ps) = more (f n x p) (each_map f ps)

-- a list has its own elements
pub each-own : {A : Type 0} (xs : List A) (d : A) → Each (λ i x. get_or xs i d ≡ x) 0 xs
each-own xs d = at_each 0 xs d (λ i l. ap (λ j. get_or xs j d) (let z : 0 + i ≡ i = omega arith in z))
