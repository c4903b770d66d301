-- Which sites a call may name, range by range, and when a call of rwait falls due. By the tests of the definition. Assumes nothing.
use mathlib.Core.Path.{◌≡◌, refl}
use mathlib.Core.Bool.{Bool, true, false}
use mathlib.Core.List.{[], ◌∷◌, map}
use mathlib.Core.Option.{some, none}
use Prim.Native.Nat.{ℕ, ◌<◌, ◌≤◌}
use native.Mathlib.Omega.{arith}
use lib.ListN.{get_or}
use lib.Dec.{leb, eqb}
use lib.IntN.{pos, negsuc}
use Rattle.job.specs.Test.{◌and◌, ◌or◌}
use Rattle.job.specs.Site.{builtin_counts, due_time, is_builtin, is_outside, site_takes}
use Rattle.job.proofs.Test.{lt-ltb, le-not-ltb, le-leb, lt-not-leb}

or-false : (b : Bool) → (b or false) ≡ b
unfolding ◌or◌
or-false true = refl
or-false false = refl

module _ (s n : ℕ) where
  pub takes-builtin : s < 8 → site_takes s n ≡ eqb n (get_or builtin_counts s 0)
  unfolding site_takes is_builtin is_outside ◌and◌
  takes-builtin l = rw (lt-ltb s 8 l, lt-not-leb 16 s (omega arith)) (or-false _)

  pub takes-unknown : 8 ≤ s → s < 16 → site_takes s n ≡ false
  unfolding site_takes is_builtin is_outside ◌and◌ ◌or◌
  takes-unknown l m = rw (le-not-ltb s 8 l, lt-not-leb 16 s m)

  pub takes-far : 8 ≤ s → 1023 < s → site_takes s n ≡ false
  unfolding site_takes is_builtin is_outside ◌and◌ ◌or◌
  takes-far l m = rw (le-not-ltb s 8 l, le-leb 16 s (omega arith), lt-not-leb s 1023 m)

  pub takes-outside : 16 ≤ s → s ≤ 1023 → site_takes s n ≡ leb n 4
  unfolding site_takes is_builtin is_outside ◌and◌ ◌or◌
  takes-outside l m = rw (le-not-ltb s 8 (omega arith), le-leb 16 s l, le-leb s 1023 m)

-- document 02, request 1: "The call falls due at the present time plus t. With a sum above 2147483647 the call never falls due"; "negative
-- t is silent"
pub due-times :
    map (due_time 5) (pos 0 ∷ pos 2147483642 ∷ pos 2147483643 ∷ negsuc 0 ∷ []) ≡ some 5 ∷ some 2147483647 ∷ none ∷ none ∷ []
unfolding due_time
due-times = refl
