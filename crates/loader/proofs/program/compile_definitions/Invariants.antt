use lib.ListN.{length}
use Rattle.loader.proofs.ProgramDefinitions.{Writing}
use Rattle.loader.proofs.program.compile_definitions.Given as goal

abbrev pub invariant-loop-i : goal.invariant-loop-i
invariant-loop-i l = Writing (length l.sizes) l.parts.kinds.now l.parts.operands.now l.initial.dag l.sizes l.dag l.at l.node l.i
