-- `rebind::remove` meets its contract: nothing is bound. Assumes nothing.
use Rattle.acts.proofs.EndRebind.{gives_as, empty-no-cell}
use Rattle.acts.proofs.StepAtNode.{remove-step}
use Rattle.sites.proofs.RowKinds.{remove-numbers}
use Rattle.acts.proofs.Outcomes.{row, row_fits, token-inside}
use Rattle.model.specs.declared.token.Slot.TheVariants as slots
use mathlib.Core.Path.{refl}
use Rattle.acts.proofs.rebind.remove.Goals as goal

pub rebind-requires : goal.rebind-requires
rebind-requires c =
    let a = c.requires.is in
    (token-inside a.taking, row_fits a, (remove-numbers _ _ (row a)).0)

pub returns : goal.returns
returns c = λ m a.
    gives_as (remove-step _ _ m a) (c.rebind.ensures m slots.Empty a.taking empty-no-cell refl)
