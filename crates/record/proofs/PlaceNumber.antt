-- A place by its number, which is one more, with 0 for nowhere. By cases. Assumes nothing.
use mathlib.Core.Path.{◌≡◌, refl, ap}
use mathlib.Core.Logic.{◌≢◌}
use Prim.Native.Nat.{ℕ, zero, suc, ◌-◌}
use native.Mathlib.Numerals.{add-one}
use native.Mathlib.Omega.{arith}
use Rattle.std.specs.Prelude.{Some, None}
use Rattle.model.specs.Machine.Held.{Place}
use Rattle.record.specs.LayoutDecoded.{place_from}
use Rattle.record.specs.Layout.{place_number}

pub place-back : (q : Place) → place_from (place_number q) ≡ q
unfolding place_from
place-back None = refl
place-back (Some p) = ap place_from (add-one p)

pub place-from : (n : ℕ) (q : Place) → n ≡ place_number q → place_from n ≡ q
place-from n q e = rw e (place-back q)

pub place_at : (n : ℕ) → n ≢ 0 → place_from n ≡ Some (n - 1)
unfolding place_from
place_at zero f = absurd (f refl)
place_at (suc n) f = let z : n ≡ suc n - 1 = omega arith in ap Some z

pub place_none : (n : ℕ) → n ≡ 0 → place_from n ≡ None
unfolding place_from
place_none n e = rw e
