-- A signed number's magnitude, and its text: the magnitude of a negative number is computed in 64 bits, where no number of 32 bits
-- is too small. Assumes nothing.
use mathlib.Core.Path.{◌≡◌, ap}
use mathlib.Core.Bool.{true, false}
use mathlib.Core.List.{List, ◌∷◌}
use Prim.Native.Nat.{ℕ, suc, ◌+◌, ◌≤◌}
use native.Mathlib.Nat.{zero-add}
use native.Mathlib.Omega.{arith}
use lib.ListN.{length, set}
use lib.IntN.{ℤ, pos, negsuc, ◌-ℤ◌, nat_abs}
use lib.Signed.{lt_z}
use mir.Syntax.{w32}
use mir.Val.{SFits}
use borrow.Author.Tests.{ltb-true}
use Rattle.job.specs.Decimal.{ascii, decimal, signed_decimal}
use Rattle.decimal.specs.Written.{Written}
use Rattle.job.proofs.Test.{never}
use Rattle.decimal.proofs.Written.{one_written, then-written, written_as}
use Rattle.decimal.proofs.UnsignedDigits.{decimal-few}

pub negative-magnitude : (v : ℤ) → lt_z v (pos 0) ≡ true → nat_abs (pos 0 -ℤ v) ≡ nat_abs v
negative-magnitude (pos n) e = absurd (omega (arith, ltb-true n 0 e))
negative-magnitude (negsuc n) e = zero-add (suc n)

-- its bytes: a minus sign and the magnitude, or the magnitude alone

negative-bytes : (v : ℤ) (m : ℕ) → lt_z v (pos 0) ≡ true → m ≡ nat_abs v → 45 ∷ decimal m ≡ signed_decimal v
unfolding ascii signed_decimal
negative-bytes (pos n) m l e = absurd (omega (arith, ltb-true n 0 l))
negative-bytes (negsuc n) m l e = ap (λ (k : ℕ). 45 ∷ decimal k) e

positive-bytes : (v : ℤ) (m : ℕ) → lt_z v (pos 0) ≡ false → m ≡ nat_abs v → decimal m ≡ signed_decimal v
unfolding signed_decimal
positive-bytes (pos n) m l e = ap decimal e
positive-bytes (negsuc n) m l e = never cc

pub negative-written : (v : ℤ) (m at next : ℕ) (before after : List ℕ) → lt_z v (pos 0) ≡ true → m ≡ nat_abs v
    → Written 10 (set before at 45) (at + 1) (decimal m) after next → Written 11 before at (signed_decimal v) after next
negative-written v m at next before after l e w =
    written_as (then-written (one_written before at 45) w) (negative-bytes v m l e) (omega arith)

pub positive-written : (v : ℤ) (m at next : ℕ) (before after : List ℕ) → lt_z v (pos 0) ≡ false → m ≡ nat_abs v
    → Written 10 before at (decimal m) after next → Written 11 before at (signed_decimal v) after next
positive-written v m at next before after l e w = written_as w (positive-bytes v m l e) (omega arith)

-- the room that the code has

pub negative-room : (v : ℤ) (m at room : ℕ) → lt_z v (pos 0) ≡ true → m ≡ nat_abs v → at + length (signed_decimal v) ≤ room
    → at + 1 + length (decimal m) ≤ room
negative-room v m at room l e r = omega (arith, ap length (negative-bytes v m l e))

pub positive-room : (v : ℤ) (m at room : ℕ) → lt_z v (pos 0) ≡ false → m ≡ nat_abs v → at + length (signed_decimal v) ≤ room
    → at + length (decimal m) ≤ room
positive-room v m at room l e r = omega (arith, ap length (positive-bytes v m l e))

-- a signed number of 32 bits has at most eleven bytes
pub signed-few : (v : ℤ) → SFits w32 v → length (signed_decimal v) ≤ 11
unfolding ascii signed_decimal
signed-few (pos n) f = omega (arith, decimal-few n (record { fits = omega (arith, f.sfits) }))
signed-few (negsuc n) f = omega (arith, decimal-few (suc n) (record { fits = omega (arith, f.sfits) }))
