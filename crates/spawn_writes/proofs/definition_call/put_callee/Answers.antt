-- `definition_call::put_callee` meets its contract: each writer's contract, one behind the other, leads to the record of the definition.
-- Assumes nothing.
use Rattle.std.specs.Prelude.{Some}
use Rattle.writes.proofs.Writes.{begins}
use Rattle.model.specs.declared.token.State.TheVariants as states
use Rattle.model.specs.Machine.Update.{with_node, with_state}
use Rattle.model.specs.Machine.Blank.{blank_token}
use mathlib.Core.Path.{refl}
use Rattle.spawn_writes.proofs.definition_call.put_callee.Goals as goal

pub returns : goal.returns
unfolding with_node with_state
returns c = λ m q h n blank e.
    let a = c.args in
    let passed = c.pass_all.ensures m
    (begins m a.new blank_token blank h) n in
    let ready = c.set_state.ensures m _ states.Ready passed refl refl in
    let called = c.set_caller.ensures m _ (Some a.actor.token)
    (c.set_node.ensures m _ ready) refl in
    c.set_cell.ensures m _ q called e
