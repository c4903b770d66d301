-- Fewer bytes are left with each turn.
use Rattle.std.proofs.Common.{length}
use Rattle.tables.proofs.show_all.Given as goal

abbrev pub decreases-loop-rest : goal.decreases-loop-rest
decreases-loop-rest g l = length l.rest
