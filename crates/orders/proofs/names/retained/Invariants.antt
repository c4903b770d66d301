use Rattle.orders.proofs.NamesRetained.{TurnLeaves}
use Rattle.orders.proofs.names.retained.Given as goal

abbrev pub invariant-loop-i : goal.invariant-loop-i
invariant-loop-i l = TurnLeaves l.initial.names l.keep l.i l.names l.n
