-- `sweep::sweep_cells` meets its contract: the cells in use are marked, and the table is kept by these marks. Assumes nothing.
use mathlib.Core.Path.{◌∙◌, subst}
use Rattle.record.specs.Holds.{Holds}
use Rattle.sweep.proofs.SweepLaws.{cells-swept}
use Rattle.sweep.proofs.sweep.sweep_cells.Goals as goal

pub returns : goal.returns
returns c = λ m h blank v.
    let used = c.mark_cells.ensures m h.codes blank in
    let done = c.keep_cells.ensures in
    (subst (Holds _) (cells-swept m _ _ used) (done.1 m h v), done.0 ∙ used)
