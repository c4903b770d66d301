-- `advance::advance` meets its contract: its report is the one of what the clock said. Assumes nothing.
use mathlib.Core.Path.{sym, subst}
use Rattle.acts.specs.Acting.{Gives}
use Rattle.unchecked.proofs.advance.advance.Goals as goal

pub returns : goal.returns
returns c = λ m dag used a. subst (Gives _ m _ used) (sym c.report.ensures) (c.move_to.ensures.gives m dag used a)
