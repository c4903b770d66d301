-- The bits of a scope and the numbers in its list: for the numbers below 8 they agree by computing, and one bit more is one number more.
-- Assumes nothing.
use mathlib.Core.Path.{◌≡◌, refl, sym, ap, ap₂, ◌∙◌}
use mathlib.Core.Bool.{Bool, true, false, not}
use mathlib.Core.List.{List, [], ◌∷◌}
use Prim.Native.Nat.{ℕ, zero, suc, ◌+◌, ◌*◌, ◌-◌, ◌/◌, ◌%◌, ◌^◌, ◌<◌, ◌≤◌}
use native.Mathlib.Omega.{arith}
use native.Mathlib.Decide.{dec_lt}
use native.Mathlib.Numerals.{add-one}
use lib.Bits.{bit_or, or_shr, or_mod}
use lib.Dec.{eqb, ltb, leb}
use Rattle.job.specs.Test.{◌and◌, ◌or◌, for_all, for_some}
use Rattle.job.specs.Syntax.{levels}
use Rattle.job.proofs.Test.{eqb-eq, ne_eqb, lt-ltb, ltb-lt, leb-le, and_left, and_right, all_head, all_tail, all_cons}
use Rattle.entries.specs.Scope.{has_bit, Means}
use Rattle.entries.specs.declared.scope.Scope.{Scope}
use Rattle.job.proofs.ScopeSlots.{levels-length}

-- a test of each number below n
below : ℕ → (ℕ → Bool) → Bool
below zero p = true
below (suc n) p = p n and below n p

below_at : (n : ℕ) (p : ℕ → Bool) → below n p ≡ true → (x : ℕ) → x < n → p x ≡ true
unfolding below
below_at zero p h x l = absurd (omega arith)
below_at (suc n) p h x l = go (dec_lt x n) (below_at n p (and_right (p n) (below n p) h) x)
  where
    go : Dec (x < n) → (x < n → p x ≡ true) → p x ≡ true
    go (yes m) f = f m
    go (no g) f = let z : x ≡ n = omega arith in ap p z ∙ and_left (p n) (below n p) h

-- two tests say the same
agree : Bool → Bool → Bool
agree true b = b
agree false b = not b

agree-eq : (a b : Bool) → agree a b ≡ true → a ≡ b
unfolding agree
agree-eq true b h = sym h
agree-eq false true h = h
agree-eq false false h = refl

-- a shift of 1 within 32 bits
shifted : (x : ℕ) → x ≤ 8 → 1 * 2 ^ x % 2 ^ 32 ≡ 2 ^ x
unfolding below ◌and◌
shifted x l = eqb-eq (1 * 2 ^ x % 2 ^ 32) (2 ^ x) (below_at 9 (λ x. eqb (1 * 2 ^ x % 2 ^ 32) (2 ^ x)) refl x (omega arith))

pub shifted-some : (x : ℕ) → x ≤ 8 → 1 ≤ 1 * 2 ^ x % 2 ^ 32
unfolding below ◌and◌
shifted-some x l = leb-le 1 (1 * 2 ^ x % 2 ^ 32) (below_at 9 (λ x. leb 1 (1 * 2 ^ x % 2 ^ 32)) refl x (omega arith))

-- the formals: the lowest n bits
formals-bits : (n x : ℕ) → n ≤ 8 → x < 8 → has_bit (2 ^ n - 1) x ≡ for_some (eqb x) (levels n)
unfolding below agree levels for_some ◌and◌ ◌or◌
formals-bits n x m l =
    agree-eq _ _
    (below_at 8 (λ x. agree (has_bit (2 ^ n - 1) x) (for_some (eqb x) (levels n)))
    (below_at 9 (λ n. below 8 (λ x. agree (has_bit (2 ^ n - 1) x) (for_some (eqb x) (levels n)))) refl n (omega arith)) x l)

formals-small : (n : ℕ) → n ≤ 8 → for_all (λ x. ltb x 8) (levels n) ≡ true
unfolding below levels for_all ◌and◌
formals-small n m = below_at 9 (λ n. for_all (λ x. ltb x 8) (levels n)) refl n (omega arith)

pub formals-mean : (n : ℕ) → n ≤ 8 → Means (record { bound = 1 * 2 ^ n % 2 ^ 32 - 1; count = n }) (levels n)
formals-mean n m = record {
  counted = sym (levels-length n);
  small = formals-small n m;
  bits = λ x l. ap (λ b. has_bit (b - 1) x) (shifted n m) ∙ formals-bits n x m l;
}

-- one number alone is one bit
one_bit : (x y : ℕ) → x < 8 → y < 8 → has_bit (2 ^ x) y ≡ eqb y x
unfolding below agree ◌and◌
one_bit x y l m =
    agree-eq _ _
    (below_at 8 (λ y. agree (has_bit (2 ^ x) y) (eqb y x))
    (below_at 8 (λ x. below 8 (λ y. agree (has_bit (2 ^ x) y) (eqb y x))) refl x l) y m)

-- a bit of two numbers' bits put together
or-digit : (p q : ℕ) → p < 2 → q < 2 → eqb (bit_or p q) 1 ≡ (eqb q 1 or eqb p 1)
unfolding ◌or◌
or-digit zero zero l m = refl
or-digit zero (suc zero) l m = refl
or-digit (suc zero) zero l m = refl
or-digit (suc zero) (suc zero) l m = refl
or-digit zero (suc (suc q)) l m = absurd (omega arith)
or-digit (suc zero) (suc (suc q)) l m = absurd (omega arith)
or-digit (suc (suc p)) q l m = absurd (omega arith)

or-bit : (a b y : ℕ) → has_bit (bit_or a b) y ≡ (has_bit b y or has_bit a y)
or-bit a b y =
    ap (λ n. eqb n 1) (ap (λ n. n % 2) (or_shr a b y) ∙ or_mod (a / 2 ^ y) (b / 2 ^ y) 1)
    ∙ or-digit (a / 2 ^ y % 2) (b / 2 ^ y % 2) (omega arith) (omega arith)

module _ (s : Scope) (scope : List ℕ) (m : Means s scope) (x : ℕ) where
  pub bound-in : x < 8 → has_bit s.bound x ≡ for_some (eqb x) scope
  bound-in l = m.bits x (omega arith)

  pub bound-out : 8 ≤ x → false ≡ for_some (eqb x) scope
  unfolding for_some ◌or◌
  bound-out l = sym (go scope m.small)
    where
      go : (ys : List ℕ) → for_all (λ x. ltb x 8) ys ≡ true → for_some (eqb x) ys ≡ false
      go [] h = refl
      go (y ∷ ys) h =
          let z = ltb-lt y 8 (all_head (λ x. ltb x 8) y ys h) in
          rw (ne_eqb x y (λ e. omega arith)) (go ys (all_tail (λ x. ltb x 8) y ys h))

  pub bind-means : x < 8 → Means (record { bound = bit_or s.bound (1 * 2 ^ x % 2 ^ 32); count = s.count + 1 }) (x ∷ scope)
  unfolding for_some
  bind-means l = record {
    counted = add-one s.count ∙ ap suc m.counted;
    small = all_cons (λ x. ltb x 8) x scope (lt-ltb x 8 l) m.small;
    bits = λ y k.
        ap (λ b. has_bit (bit_or s.bound b) y) (shifted x (omega arith))
        ∙ or-bit s.bound (2 ^ x) y
        ∙ ap₂ ◌or◌ (one_bit x y l k) (m.bits y k);
  }
