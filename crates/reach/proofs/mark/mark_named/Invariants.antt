use mathlib.Core.List.{map}
use mathlib.Core.Path.{◌≡◌}
use lib.ListN.{drop}
use Rattle.model.specs.Machine.Blank.{token_at}
use Rattle.model.specs.Machine.InUse.{bound_cell}
use Rattle.model.specs.declared.record.Machine.{Machine}
use Rattle.record.specs.Holds.{Codes}
use Rattle.reach.specs.Marks.{cells_marked}
use Rattle.reach.proofs.mark.mark_named.Given as goal

abbrev pub invariant-loop-x : goal.invariant-loop-x
invariant-loop-x l = (m : Machine)
    → Codes l.w m
    → cells_marked m (map bound_cell (token_at m.tokens l.p).binds) l.initial.marks
    ≡ cells_marked m (map bound_cell (drop l.x (token_at m.tokens l.p).binds)) l.marks
