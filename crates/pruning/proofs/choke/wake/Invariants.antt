use mathlib.Core.List.{◌++◌}
use Prim.Native.Nat.{◌≤◌, ◌+◌}
use lib.ListN.{take}
use Rattle.model.specs.declared.record.Machine.{Machine}
use Rattle.model.specs.Machine.Update.{with_orders, queue_of, waits_of}
use Rattle.orders.specs.NamesRetained.{marked_of}
use Rattle.record.specs.Holds.{Holds}
use Rattle.pruning.proofs.choke.wake.Given as goal

abbrev pub invariant-loop-i : goal.invariant-loop-i
invariant-loop-i l = (m : Machine) → Holds l.initial.w m → m.queued + m.waiting ≤ 64
    → Holds l.w (with_orders (queue_of m ++ marked_of l.ready (take l.i (waits_of m))) (waits_of m) m)
