-- `rebind::assign` meets its contract: the token's value is bound. Assumes nothing.
use Rattle.acts.proofs.EndRebind.{gives_as, value-bits, value-no-cell}
use Rattle.acts.proofs.StepAtNode.{assign-step}
use Rattle.record.specs.Layout.{slot_words}
use Rattle.record.proofs.SlotWords.{both-of}
use Rattle.sites.proofs.RowKinds.{assign-numbers}
use Rattle.acts.proofs.Outcomes.{row, row_fits, token-inside}
use Rattle.model.specs.Machine.Blank.{token_at}
use Rattle.model.specs.Machine.Step.{value_of}
use Rattle.model.specs.declared.token.Slot.TheVariants as slots
use mathlib.Core.Path.{refl, sym, ◌∙◌}
use Rattle.acts.proofs.rebind.assign.Goals as goal

pub value-requires : goal.value-requires
value-requires c = token-inside c.requires.is.taking

pub rebind-requires : goal.rebind-requires
rebind-requires c =
    let a = c.requires.is in
    (token-inside a.taking, row_fits a, (assign-numbers _ _ (row a)).0)

pub returns : goal.returns
returns c = λ m a.
    let held = (token_at m.tokens c.args.actor.token).value in
    let v = slots.Value (value_of held) in
    let number = c.value.ensures m a.taking.lawful.holds.codes ∙ value-bits held in
    gives_as (assign-step _ _ m a)
    (c.rebind.ensures m v a.taking (value-no-cell _) (sym (both-of (slot_words v) refl number)))
