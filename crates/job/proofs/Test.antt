-- From tests to facts and back: laws of the Boolean tests that definitions use. By cases. Assumes nothing.
use mathlib.Core.Path.{◌≡◌, refl}
use mathlib.Core.Logic.{◌⊎◌, inl, inr}
use mathlib.Core.Bool.{Bool, true, false, not}
use mathlib.Core.List.{List, [], ◌∷◌, ◌++◌}
use Prim.Native.Nat.{ℕ, zero, suc, ◌+◌, ◌<◌, ◌≤◌}
use native.Mathlib.Decide.{dec_lt}
use native.Mathlib.Omega.{arith}
use lib.ListN.{length, get_or}
use lib.Dec.{T, ltb, leb, eqb, eqb→eq, eqb_refl, ltb→lt, lt→ltb, leb→le, le→leb}
use Rattle.job.specs.Test.{◌and◌, ◌or◌, for_all, All, none, more, once, occurrences, same}

-- anything, where 0 is 1: `never cc` closes a case whose equations put two constructors together
pub never : {A : Type 0} → ◌≡◌ {A = ℕ} 0 1 → A
never e = absurd (omega arith)

-- a test does not both hold and fail
pub clash : {A : Type 0} {b : Bool} → b ≡ true → b ≡ false → A
clash p q = never cc

pub true_of : (b : Bool) → T b → b ≡ true
true_of true t = refl
true_of false t = elim t [ ]

pub T_of : {b : Bool} → b ≡ true → T b
T_of e = rw e tt

pub false_of : (b : Bool) → (b ≡ true → ⊥) → b ≡ false
false_of true f = absurd (f refl)
false_of false f = refl

-- a test holds or fails
pub holds-or-fails : (b : Bool) → (b ≡ true) ⊎ (b ≡ false)
holds-or-fails true = inl refl
holds-or-fails false = inr refl

-- numbers
pub eqb_same : (n : ℕ) → eqb n n ≡ true
eqb_same n = true_of _ (eqb_refl n)

pub eqb-eq : (m n : ℕ) → eqb m n ≡ true → m ≡ n
eqb-eq m n e = eqb→eq m n (T_of e)

pub eq-eqb : (m n : ℕ) → m ≡ n → eqb m n ≡ true
eq-eqb m n e = rw e (eqb_same n)

pub ne_eqb : (m n : ℕ) → (m ≡ n → ⊥) → eqb m n ≡ false
ne_eqb m n f = false_of _ (λ e. f (eqb-eq m n e))

pub eqb-ne : (m n : ℕ) → eqb m n ≡ false → m ≡ n → ⊥
eqb-ne m n e p = clash (eq-eqb m n p) e

pub ltb-lt : (m n : ℕ) → ltb m n ≡ true → m < n
ltb-lt m n e = ltb→lt m n (T_of e)

pub lt-ltb : (m n : ℕ) → m < n → ltb m n ≡ true
lt-ltb m n e = true_of _ (lt→ltb m n e)

pub le-not-ltb : (m n : ℕ) → n ≤ m → ltb m n ≡ false
le-not-ltb m n l = false_of _ (λ e. let z = ltb-lt m n e in omega arith)

pub not-ltb-le : (m n : ℕ) → ltb m n ≡ false → n ≤ m
not-ltb-le m n e = go (dec_lt m n)
  where
    go : Dec (m < n) → n ≤ m
    go (yes l) = clash (lt-ltb m n l) e
    go (no f) = omega arith

pub leb-le : (m n : ℕ) → leb m n ≡ true → m ≤ n
leb-le m n e = leb→le m n (T_of e)

pub le-leb : (m n : ℕ) → m ≤ n → leb m n ≡ true
le-leb m n e = true_of _ (le→leb m n e)

pub lt-not-leb : (m n : ℕ) → n < m → leb m n ≡ false
lt-not-leb m n l = false_of _ (λ e. let z = leb-le m n e in omega arith)

pub not-leb-lt : (m n : ℕ) → leb m n ≡ false → n < m
not-leb-lt m n e = go (dec_lt n m)
  where
    go : Dec (n < m) → n < m
    go (yes l) = l
    go (no f) = clash (le-leb m n (omega arith)) e

-- `and`, `or`
pub and_left : (a b : Bool) → (a and b) ≡ true → a ≡ true
unfolding ◌and◌
and_left true b e = refl
and_left false b e = e

pub and_right : (a b : Bool) → (a and b) ≡ true → b ≡ true
unfolding ◌and◌
and_right true b e = e
and_right false b e = clash e refl

pub and_both : {a b : Bool} → a ≡ true → b ≡ true → (a and b) ≡ true
unfolding ◌and◌
and_both {a} {b} p q = rw p q

pub or_left : {a : Bool} (b : Bool) → a ≡ true → (a or b) ≡ true
unfolding ◌or◌
or_left {a} b p = rw p

pub or_right : (a : Bool) {b : Bool} → b ≡ true → (a or b) ≡ true
unfolding ◌or◌
or_right true p = refl
or_right false p = p

pub or_cases : (a b : Bool) → (a or b) ≡ true → (a ≡ true) ⊎ (b ≡ true)
unfolding ◌or◌
or_cases true b e = inl refl
or_cases false b e = inr e

-- `for_all`
module _ {A : Type 0} (p : A → Bool) where
  pub all_nil : for_all p [] ≡ true
  unfolding for_all
  all_nil = refl

  pub all_cons : (x : A) (xs : List A) → p x ≡ true → for_all p xs ≡ true → for_all p (x ∷ xs) ≡ true
  unfolding for_all
  all_cons x xs e f = and_both e f

  pub all_head : (x : A) (xs : List A) → for_all p (x ∷ xs) ≡ true → p x ≡ true
  unfolding for_all
  all_head x xs e = and_left (p x) (for_all p xs) e

  pub all_tail : (x : A) (xs : List A) → for_all p (x ∷ xs) ≡ true → for_all p xs ≡ true
  unfolding for_all
  all_tail x xs e = and_right (p x) (for_all p xs) e

  pub all_append : (xs ys : List A) → for_all p xs ≡ true → for_all p ys ≡ true → for_all p (xs ++ ys) ≡ true
  all_append [] ys e f = f
  all_append (x ∷ xs) ys e f = all_cons x (xs ++ ys) (all_head x xs e) (all_append xs ys (all_tail x xs e) f)

  pub all-append-left : (xs ys : List A) → for_all p (xs ++ ys) ≡ true → for_all p xs ≡ true
  all-append-left [] ys e = all_nil
  all-append-left (x ∷ xs) ys e = all_cons x xs (all_head x (xs ++ ys) e) (all-append-left xs ys (all_tail x (xs ++ ys) e))

  pub all-append-right : (xs ys : List A) → for_all p (xs ++ ys) ≡ true → for_all p ys ≡ true
  all-append-right [] ys e = e
  all-append-right (x ∷ xs) ys e = all-append-right xs ys (all_tail x (xs ++ ys) e)

  -- what a test of all says at an index, and back
  pub all-at : (xs : List A) (i : ℕ) (d : A) → for_all p xs ≡ true → i < length xs → p (get_or xs i d) ≡ true
  all-at [] i d e l = absurd (omega arith)
  all-at (x ∷ xs) zero d e l = all_head x xs e
  all-at (x ∷ xs) (suc i) d e l = all-at xs i d (all_tail x xs e) (omega arith)

  pub all-from : (xs : List A) (d : A) → ((i : ℕ) → i < length xs → p (get_or xs i d) ≡ true) → for_all p xs ≡ true
  all-from [] d h = all_nil
  all-from (x ∷ xs) d h = all_cons x xs (h 0 (omega arith)) (all-from xs d (λ i l. h (suc i) (omega arith)))

  -- a test of all, and a property of all
  pub all-All : (xs : List A) → for_all p xs ≡ true → All (λ x. p x ≡ true) xs
  all-All [] e = none
  all-All (x ∷ xs) e = more (all_head x xs e) (all-All xs (all_tail x xs e))

  pub All-all : (xs : List A) → All (λ x. p x ≡ true) xs → for_all p xs ≡ true
  All-all [] a = all_nil
  All-all (x ∷ xs) (more e es) = all_cons x xs e (All-all xs es)

pub All-map : {A : Type 0} {P Q : A → Type 0} {xs : List A} → ((x : A) → P x → Q x) → All P xs → All Q xs
All-map f none = none
All-map f (more {x = x} e es) = more (f x e) (All-map f es)

-- `same`
pub same_refl : (xs : List ℕ) → same xs xs ≡ true
unfolding same
same_refl [] = refl
same_refl (x ∷ xs) = and_both (eqb_same x) (same_refl xs)

pub same-eq : (xs ys : List ℕ) → same xs ys ≡ true → xs ≡ ys
unfolding same
same-eq [] [] e = refl
same-eq [] (y ∷ ys) e = clash e refl
same-eq (x ∷ xs) [] e = clash e refl
same-eq (x ∷ xs) (y ∷ ys) e =
    let p = eqb-eq x y (and_left (eqb x y) (same xs ys) e) in let q = same-eq xs ys (and_right (eqb x y) (same xs ys) e) in cc

pub not-true : (b : Bool) → not b ≡ true → b ≡ false
not-true true e = clash e refl
not-true false e = refl

pub not-false : (b : Bool) → not b ≡ false → b ≡ true
not-false true e = refl
not-false false e = clash refl e

-- 1 for true, 0 for false
pub once-true : (b : Bool) → 0 < once b → b ≡ true
once-true true l = refl
once-true false l = absurd (omega arith)

pub once-small : (b : Bool) → once b ≤ 1
once-small true = omega arith
once-small false = omega arith

-- counting
pub occurrences-append : (n : ℕ) (xs ys : List ℕ) → occurrences n (xs ++ ys) ≡ occurrences n xs + occurrences n ys
unfolding occurrences
occurrences-append n [] ys = omega arith
occurrences-append n (x ∷ xs) ys = omega (arith, occurrences-append n xs ys)

pub occurrences-more : (n x : ℕ) (xs : List ℕ) → occurrences n xs ≤ occurrences n (x ∷ xs)
unfolding occurrences
occurrences-more n x xs = omega arith
