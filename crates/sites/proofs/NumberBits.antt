-- What the conversions between a word and a signed number give is document 01's. By the half in which a word lies, and by the sign of a
-- number. Assumes nothing.
use mathlib.Core.Path.{◌≡◌, refl, ap}
use mathlib.Core.Bool.{Bool, true, false}
use Prim.Native.Nat.{ℕ, suc, ◌-◌, ◌^◌}
use native.Mathlib.Omega.{arith}
use lib.Dec.{ltb}
use lib.IntN.{ℤ, pos, negsuc}
use mir.Syntax.{w32}
use mir.Val.{to_z, of_z, sel}
use Rattle.job.specs.Number.{signed, unsigned}

pub signed_cast : (n : ℕ) → to_z w32 n ≡ signed n
unfolding signed
signed_cast n = go (ltb n (2 ^ 31))
  where
    go : (b : Bool) → sel b (pos n) (negsuc (2 ^ 32 - suc n)) ≡ elim b as (λ b. ℤ) [ true ↦ pos n | false ↦ negsuc (2 ^ 32 - 1 - n) ]
    go true = refl
    go false = let e : 2 ^ 32 - suc n ≡ 2 ^ 32 - 1 - n = omega arith in ap negsuc e

pub unsigned_cast : (v : ℤ) → of_z w32 v ≡ unsigned v
unfolding unsigned
unsigned_cast (pos n) = refl
unsigned_cast (negsuc n) = omega arith
