-- What the built-in sites say: no site reads more than two values. Site by site. Assumes nothing.
use mathlib.Core.Path.{◌≡◌, refl}
use mathlib.Core.List.{List, [], ◌∷◌}
use Prim.Native.Nat.{ℕ, zero, suc, ◌<◌}
use native.Mathlib.Omega.{arith}
use lib.Dec.{eqb}
use lib.IntN.{ℤ, pos, negsuc}
use mir.Syntax.{w32}
use mir.Val.{SFits, of_z}
use Rattle.job.specs.Number.{equal_z}
use Rattle.job.specs.Site.{at, builtin}
use Rattle.sites.specs.declared.site.BuiltInSite.{BuiltInSite}
use Rattle.sites.specs.declared.site.BuiltInSite.TheVariants as sites
use Rattle.sites.specs.SiteReply.{site_number}
use Rattle.job.proofs.Test.{ne_eqb}

-- whether a number is 0, by its bits
pub zero-test : (v : ℤ) → SFits w32 v → eqb (of_z w32 v) 0 ≡ equal_z v (pos 0)
unfolding equal_z
zero-test (pos n) f = refl
zero-test (negsuc n) f = ne_eqb (of_z w32 (negsuc n)) 0 (λ e. absurd (omega (arith, f.sfits)))

-- a site says the same to its values and to the first two of them, with 0 where there is none
pub says-to-two : (s : ℕ) (vs : List ℤ) → s < 8 → builtin s (at vs 0 ∷ at vs 1 ∷ []) ≡ builtin s vs
unfolding builtin
says-to-two zero vs l = refl
says-to-two (suc zero) vs l = refl
says-to-two (suc (suc zero)) vs l = refl
says-to-two (suc (suc (suc zero))) vs l = refl
says-to-two (suc (suc (suc (suc zero)))) vs l = refl
says-to-two (suc (suc (suc (suc (suc zero))))) vs l = refl
says-to-two (suc (suc (suc (suc (suc (suc zero)))))) vs l = refl
says-to-two (suc (suc (suc (suc (suc (suc (suc zero))))))) vs l = refl
says-to-two (suc (suc (suc (suc (suc (suc (suc (suc n)))))))) vs l = absurd (omega arith)

pub number_small : (s : BuiltInSite) → site_number s < 8
number_small sites.Let = omega arith
number_small sites.Ift = omega arith
number_small sites.Iff = omega arith
number_small sites.Signal = omega arith
number_small sites.Add = omega arith
number_small sites.Less = omega arith
number_small sites.Equal = omega arith
number_small sites.Rwait = omega arith
