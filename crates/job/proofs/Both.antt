-- The code's `&` and `|` are the definitions' `and` and `or`, and what else of `and` and `or` the laws need. Assumes nothing.
use mathlib.Core.Path.{◌≡◌, refl}
use mathlib.Core.Bool.{Bool, true, false, ◌&&◌, ◌||◌}
use Prim.Native.Nat.{ℕ, zero, suc, ◌≤◌}
use native.Mathlib.Omega.{arith}
use Rattle.job.specs.Test.{◌and◌, ◌or◌}

pub and-true : (a : Bool) → (a and true) ≡ a
unfolding ◌and◌
and-true true = refl
and-true false = refl

pub and-false : (a : Bool) → (a and false) ≡ false
unfolding ◌and◌
and-false true = refl
and-false false = refl

pub and_assoc : (a b c : Bool) → ((a and b) and c) ≡ (a and b and c)
unfolding ◌and◌
and_assoc true b c = refl
and_assoc false b c = refl

pub regroup : (a b c d : Bool) → ((a and b) and c and d) ≡ ((a and c) and b and d)
unfolding ◌and◌
regroup true true true d = refl
regroup true true false d = refl
regroup true false true d = refl
regroup true false false d = refl
regroup false b c d = refl

pub or-false : (a : Bool) → (a or false) ≡ a
unfolding ◌or◌
or-false true = refl
or-false false = refl

pub both_is : (a b : Bool) → (a && b) ≡ (a and b)
unfolding ◌and◌
both_is a b = refl

pub either_is : (a b : Bool) → (a || b) ≡ (a or b)
unfolding ◌or◌
either_is a b = refl

pub three-are : (a b c : Bool) → (a && b && c) ≡ (a and b and c)
unfolding ◌and◌
three-are true true c = refl
three-are true false c = refl
three-are false b c = refl

pub four_are : (a b c d : Bool) → (a && b && c && d) ≡ (a and b and c and d)
unfolding ◌and◌
four_are true true c d = both_is c d
four_are true false c d = refl
four_are false b c d = refl

-- the same, where each result is known by what it equals
pub both : {a b a' b' : Bool} → a ≡ a' → b ≡ b' → (a && b) ≡ (a' and b')
both p q = rw (p, q) (both_is _ _)

pub three : {a b c a' b' c' : Bool} → a ≡ a' → b ≡ b' → c ≡ c' → (a && b && c) ≡ (a' and b' and c')
three p q r = rw (p, q, r) (three-are _ _ _)

pub four : {a b c d a' b' c' d' : Bool} → a ≡ a' → b ≡ b' → c ≡ c' → d ≡ d'
    → (a && b && c && d) ≡ (a' and b' and c' and d')
four p q r s = rw (p, q, r, s) (four_are _ _ _ _)

-- a number that is none of the first n, as a `match` on it tells
unfoldable pub NoneBelow : ℕ → ℕ → Type 0
NoneBelow zero k = Unit {0}
NoneBelow (suc n) k = NoneBelow n k × (k ≡ n → ⊥)

pub none_below : (n k : ℕ) → NoneBelow n k → n ≤ k
unfolding NoneBelow
none_below zero k r = omega arith
none_below (suc n) k r = let l = none_below n k r.0 in let f = r.1 in omega arith
