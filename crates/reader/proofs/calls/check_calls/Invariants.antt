use Rattle.reader.proofs.CallsLaws.{Scanning}
use Rattle.reader.proofs.calls.check_calls.Given as goal

abbrev pub invariant-loop-at : goal.invariant-loop-at
invariant-loop-at l = Scanning l.formals l.parts.kinds.now l.parts.operands.now l.at
