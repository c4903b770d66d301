-- `choke::choke_cell` meets its contract: each way out is how the definition's step ends there. Assumes nothing.
use Rattle.acts.proofs.Vacancy.{free-token, choke-vacant}
use Rattle.acts.proofs.EndRebind.{choke-cell}
use Rattle.acts.proofs.StepAtNode.{choke-step}
use Rattle.acts.proofs.Outcomes.{token-inside, gives-swept}
use Rattle.sites.proofs.RuleFacts.{room}
use Rattle.model.specs.declared.reply.Reply.TheVariants as replies
use Rattle.model.specs.Machine.Blank.{token_at}
use mathlib.Core.Path.{sym, ◌∙◌}
use native.Mathlib.Omega.{arith}
use Rattle.acts.proofs.choke.choke_cell.Goals as goal

pub cell-requires : goal.cell-requires
cell-requires c = token-inside c.requires.is.taking

pub value_kind-kind-requires : goal.value_kind-kind-requires
value_kind-kind-requires c = token-inside c.requires.is.taking

pub value-value-requires : goal.value-value-requires
value-value-requires c = token-inside c.requires.is.taking

pub overflow_sub-c : goal.overflow_sub-c
overflow_sub-c c = let acting = c.requires.is in
    let k = choke-cell _ _ _ acting
    (c.wide-c.ensures
    ∙ c.cell.ensures _
    acting.taking.lawful.holds.codes) in
    omega (arith, k.0)

pub written-requires : goal.written-requires
written-requires c = let acting = c.requires.is in
    let k = choke-cell _ _ _ acting
    (c.wide-c.ensures
    ∙ c.cell.ensures _
    acting.taking.lawful.holds.codes) in
    (k.1, omega (arith, c.marked_end-end.ensures.upper_bound.0))

pub sweep_to-requires : goal.sweep_to-requires
sweep_to-requires c = let end = c.marked_end-end.ensures.upper_bound in
    (omega (arith, end.0), λ i from to. end.1 i from (omega arith))

pub returns : goal.returns
returns c = λ m a.
    let holds = a.taking.lawful.holds in
    let k = choke-cell _ _ m a
    (c.wide-c.ensures
    ∙ c.cell.ensures m holds.codes) in
    let v = (token_at m.tokens
    c.args.actor.token).value in
    let none = c.marked_end-end.ensures.upper_bound.1 in
    gives-swept _ replies.Done _ (choke-step _ _ m _ k.2 a) c.plain.ensures
    (c.sweep_to.ensures _
    (c.written.ensures m v holds (λ i from to. free-token a.taking.lawful i (none i from (omega arith)))
    (record { queued = a.taking.queued; room = room _ m a.taking.lawful.rules })
    (sym (c.value_kind-kind.ensures m
    holds.codes))
    (sym (c.value-value.ensures m holds.codes)))
    (choke-vacant a.taking _ v k.2))
