-- The digits of a number, the front ones first: a number below ten is one digit, any other has those of its tenth before the last;
-- a number below 10 ^ k has at most k. Assumes nothing.
use mathlib.Core.Path.{◌≡◌, refl, sym}
use mathlib.Core.List.{List, [], ◌∷◌, ◌++◌}
use Prim.Native.Nat.{ℕ, zero, suc, ◌+◌, ◌-◌, ◌*◌, ◌/◌, ◌%◌, ◌^◌, ◌<◌, ◌≤◌}
use native.Mathlib.Nat.{pow-suc}
use native.Mathlib.Decide.{dec_lt}
use native.Mathlib.Omega.{arith}
use lib.ListN.{length, set, length-append}
use mir.Syntax.{w32}
use mir.Val.{Fits}
use Rattle.job.specs.Decimal.{decimal_digits, decimal}
use Rattle.job.proofs.Test.{lt-ltb, le-not-ltb}
use Rattle.decimal.specs.Written.{Written}
use Rattle.decimal.proofs.Written.{none_written, one_written, then-written, written_as}

digits-one : (most n : ℕ) → (most ≡ 0 → ⊥) → n < 10 → decimal_digits most n ≡ (48 + n) ∷ []
unfolding decimal_digits
digits-one zero n h l = absurd (h refl)
digits-one (suc k) n h l = rw (lt-ltb n 10 l, decimal_digits)

digits_more : (most n : ℕ) → (most ≡ 0 → ⊥) → 10 ≤ n → decimal_digits most n ≡ decimal_digits (most - 1) (n / 10) ++ ((48 + n % 10) ∷ [])
unfolding decimal_digits
digits_more zero n h l = absurd (h refl)
digits_more (suc k) n h l =
    let p : suc k - 1 ≡ k = omega arith in
    rw (p, le-not-ltb n 10 l, decimal_digits)

-- their count

length-one : (most n : ℕ) → (most ≡ 0 → ⊥) → n < 10 → length (decimal_digits most n) ≡ 1
length-one most n h l = rw (digits-one most n h l)

length_more : (most n : ℕ) → (most ≡ 0 → ⊥) → 10 ≤ n → length (decimal_digits most n) ≡ length (decimal_digits (most - 1) (n / 10)) + 1
length_more most n h l = rw (digits_more most n h l, length-append)

digits-few : (most n k : ℕ) → n < 10 ^ suc k → length (decimal_digits most n) ≤ suc k
unfolding decimal_digits
digits-few zero n k l = omega arith
digits-few (suc m) n k l = go (dec_lt n 10) k l (λ j. digits-few m (n / 10) j)
  where
    go : Dec (n < 10) → (k : ℕ) → n < 10 ^ suc k → ((j : ℕ) → n / 10 < 10 ^ suc j → length (decimal_digits m (n / 10)) ≤ suc j)
        → length (decimal_digits (suc m) n) ≤ suc k
    go (yes s) k l front = omega (arith, length-one (suc m) n (λ e. omega arith) s)
    go (no s) zero l front = absurd (omega arith)
    go (no s) (suc j) l front =
        let p : 10 ^ suc (suc j) ≡ 10 ^ suc j * 10 = pow-suc 10 (suc j) in
        let h : length (decimal_digits m (n / 10)) ≤ suc j = front j (omega arith) in
        let e : suc m - 1 ≡ m = omega arith in
        let more = length_more (suc m) n (λ z. omega arith) (omega arith) in
        let d : length (decimal_digits (suc m) n) ≡ length (decimal_digits m (n / 10)) + 1 = rw e at more in
        omega arith

-- what the code leaves

pub digits-none-written : (most n at : ℕ) (before : List ℕ) → most ≡ 0 → Written most before at (decimal_digits most n) before at
unfolding decimal_digits
digits-none-written zero n at before e = none_written before at
digits-none-written (suc k) n at before e = absurd (omega arith)

pub digits-one-written : (most n at : ℕ) (before : List ℕ) → (most ≡ 0 → ⊥) → n < 10
    → Written most before at (decimal_digits most n) (set before at (48 + n)) (at + 1)
digits-one-written most n at before h l = written_as (one_written before at (48 + n)) (sym (digits-one most n h l)) (omega arith)

pub digits-more-written : (most n at last : ℕ) (before middle : List ℕ) → (most ≡ 0 → ⊥) → 10 ≤ n
    → Written (most - 1) before at (decimal_digits (most - 1) (n / 10)) middle last
    → Written most before at (decimal_digits most n) (set middle last (48 + n % 10)) (last + 1)
digits-more-written most n at last before middle h l w =
    written_as (then-written w (one_written middle last (48 + n % 10))) (sym (digits_more most n h l)) (omega arith)

-- the room that the code has

pub room-one : (most n at room : ℕ) → (most ≡ 0 → ⊥) → n < 10 → at + length (decimal_digits most n) ≤ room → at < room
room-one most n at room h l r = omega (arith, length-one most n h l)

pub room-front : (most n at room : ℕ) → (most ≡ 0 → ⊥) → 10 ≤ n → at + length (decimal_digits most n) ≤ room
    → at + length (decimal_digits (most - 1) (n / 10)) ≤ room
room-front most n at room h l r = omega (arith, length_more most n h l)

pub room-last : (most n at last room : ℕ) (before middle : List ℕ) → (most ≡ 0 → ⊥) → 10 ≤ n → at + length (decimal_digits most n) ≤ room
    → Written (most - 1) before at (decimal_digits (most - 1) (n / 10)) middle last → last < room
room-last most n at last room before middle h l r w = let b = w.behind in omega (arith, length_more most n h l)

-- a number of 32 bits has at most ten digits

pub decimal-few : (n : ℕ) → Fits w32 n → length (decimal n) ≤ 10
unfolding decimal
decimal-few n f = digits-few 20 n 9 (omega (arith, f.fits))

pub decimal-written : (n at next : ℕ) (before after : List ℕ) → Fits w32 n → Written 20 before at (decimal_digits 20 n) after next
    → Written 10 before at (decimal n) after next
unfolding decimal
decimal-written n at next before after f w = record { stored = w.stored; behind = w.behind; few = decimal-few n f }

-- one digit

pub decimal-one : (n at : ℕ) (before : List ℕ) → Fits w32 n → n < 10 → Written 10 before at (decimal n) (set before at (48 + n)) (at + 1)
decimal-one n at before f l = decimal-written n at _ before _ f (digits-one-written 20 n at before (λ e. omega arith) l)

pub decimal-room-one : (n at room : ℕ) → n < 10 → at + length (decimal n) ≤ room → at < room
unfolding decimal
decimal-room-one n at room l r = room-one 20 n at room (λ e. omega arith) l r

-- two digits

pub decimal-two : (n at : ℕ) (before : List ℕ) → Fits w32 n → 10 ≤ n → n < 100
    → Written 10 before at (decimal n) (set (set before at (48 + n / 10)) (at + 1) (48 + n % 10)) (at + 2)
decimal-two n at before f l h =
    let e : at + 1 + 1 ≡ at + 2 = omega arith in
    let front = digits-one-written 19 (n / 10) at before (λ e. omega arith) (omega arith) in
    rw e at (decimal-written n at _ before _ f (digits-more-written 20 n at (at + 1) before _ (λ e. omega arith) l front))

pub decimal-room-two : (n at room : ℕ) → 10 ≤ n → n < 100 → at + length (decimal n) ≤ room → at + 1 < room
unfolding decimal
decimal-room-two n at room l h r =
    omega (arith, length_more 20 n (λ e. omega arith) l, length-one 19 (n / 10) (λ e. omega arith) (omega arith))
