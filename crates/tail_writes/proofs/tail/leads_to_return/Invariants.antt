use Prim.Native.Nat.{◌-◌}
use Rattle.tail_writes.proofs.TailLooks.{Looking}
use Rattle.tail_writes.proofs.tail.leads_to_return.Given as goal

abbrev pub invariant-loop-looks : goal.invariant-loop-looks
invariant-loop-looks l = Looking l.dag l.next l.count l.node l.looks

abbrev pub decreases-loop-looks : goal.decreases-loop-looks
decreases-loop-looks l = l.count - l.looks
