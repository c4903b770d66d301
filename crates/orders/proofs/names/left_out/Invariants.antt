use Prim.Native.Nat.{◌≤◌}
use Rattle.orders.proofs.NamesPadded.{Carries}
use Rattle.orders.proofs.names.left_out.Given as goal

abbrev pub invariant-loop-i : goal.invariant-loop-i
invariant-loop-i l = (l.index ≤ l.i) × Carries l.initial.names l.last l.names l.i l.carried
