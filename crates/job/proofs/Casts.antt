-- A signed 32-bit number cast to its bits: below 0 its opposite fits, and the others are their own magnitude. By cases of the sign. Assumes
-- nothing.
use mathlib.Core.Path.{◌≡◌}
use mathlib.Core.Bool.{true, false}
use native.Mathlib.Omega.{arith}
use lib.Dec.{T}
use lib.IntN.{ℤ, pos, negsuc, ◌-ℤ◌, nat_abs}
use lib.Signed.{lt_z, non_neg}
use mir.Syntax.{w32, w64}
use mir.Val.{SFits, Fits}
use borrow.Author.Tests.{ltb-true}
use Rattle.job.proofs.Test.{never}

pub negative_fits : (v : ℤ) → SFits w32 v → lt_z v (pos 0) ≡ true → SFits w64 (pos 0 -ℤ v)
negative_fits (pos n) f e = absurd (omega (arith, ltb-true n 0 e))
negative_fits (negsuc n) f e = record { sfits = omega (arith, f.sfits) }

pub negative-cast : (v : ℤ) → SFits w32 v → lt_z v (pos 0) ≡ true → T (non_neg (pos 0 -ℤ v)) × Fits w32 (nat_abs (pos 0 -ℤ v))
negative-cast (pos n) f e = absurd (omega (arith, ltb-true n 0 e))
negative-cast (negsuc n) f e = (tt, record { fits = omega (arith, f.sfits) })

pub positive-cast : (v : ℤ) → SFits w32 v → lt_z v (pos 0) ≡ false → T (non_neg v) × Fits w32 (nat_abs v)
positive-cast (pos n) f e = (tt, record { fits = omega (arith, f.sfits) })
positive-cast (negsuc n) f e = never cc
