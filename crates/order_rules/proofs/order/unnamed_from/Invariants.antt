use mathlib.Core.Path.{◌≡◌}
use Prim.Native.Nat.{◌-◌}
use Rattle.order_rules.specs.OrderCounts.{each_from, unnamed}
use Rattle.order_rules.proofs.order.unnamed_from.Given as goal

abbrev pub invariant-loop-i : goal.invariant-loop-i
invariant-loop-i l = l.ok ≡ each_from (unnamed l.counts.queue l.counts.waits l.counts.timers) l.from (l.i - l.from)
