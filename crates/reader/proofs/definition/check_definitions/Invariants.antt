use lib.ListN.{length}
use Rattle.reader.proofs.DefinitionLoop.{Reading}
use Rattle.reader.proofs.definition.check_definitions.Given as goal

abbrev pub invariant-loop-i : goal.invariant-loop-i
invariant-loop-i l =
    Reading (length l.initial.sizes) l.parts.kinds.now l.parts.operands.now l.initial.formals l.initial.sizes
    l.formals l.sizes l.at l.nodes l.i
