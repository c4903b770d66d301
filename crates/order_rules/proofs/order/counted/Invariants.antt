use mathlib.Core.Path.{◌≡◌}
use Prim.Native.Nat.{ℕ, ◌≤◌, ◌<◌}
use lib.ListN.{length, get_or, take}
use Rattle.job.specs.Test.{occurrences}
use Rattle.order_rules.proofs.order.counted.Given as goal

abbrev pub invariant-loop-name : goal.invariant-loop-name
invariant-loop-name l = (length l.counts ≡ 64)
    × ((p : ℕ) → get_or l.counts p 0 ≤ l.name-index)
    × ((j : ℕ) → j < l.name-index → get_or l.names j 0 < 64)
    × ((p : ℕ) → p < 64 → get_or l.counts p 0 ≡ occurrences p (take l.name-index l.names))
