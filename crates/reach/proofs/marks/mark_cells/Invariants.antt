use mathlib.Core.Path.{◌≡◌}
use Rattle.model.specs.Machine.InUse.{used_cells}
use Rattle.model.specs.declared.record.Machine.{Machine}
use Rattle.record.specs.Holds.{Codes}
use Rattle.reach.proofs.UsedMarking.{cells_left}
use Rattle.reach.proofs.marks.mark_cells.Given as goal

abbrev pub invariant-loop-p : goal.invariant-loop-p
invariant-loop-p l = (m : Machine) → Codes l.w m → used_cells l.tokens m.tokens m.cells ≡ cells_left m l.tokens l.p l.marks
