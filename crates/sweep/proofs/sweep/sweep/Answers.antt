-- `sweep::sweep` meets its contract. Assumes nothing.
use Rattle.sweep.proofs.sweep.sweep.Goals as goal

pub returns : goal.returns
returns c = c.sweep_to.ensures
