-- `site_call::call_out` meets its contract: each writer's contract, one behind the other, leads to the record of the definition. Assumes
-- nothing.
use Rattle.writes.proofs.Writes.{begins, counted}
use Rattle.record.specs.Changes.{dequeued}
use Rattle.model.specs.declared.token.State.TheVariants as states
use Rattle.model.specs.Machine.Update.{put, with_tables, with_orders}
use Rattle.model.specs.Machine.Blank.{token_at}
use mathlib.Core.Path.{refl}
use Rattle.writes.proofs.site_call.call_out.Goals as goal

pub returns : goal.returns
unfolding put with_tables with_orders
returns c = λ m h q.
    let a = c.args in
    let t = token_at m.tokens a.actor.token in
    let rest = dequeued m a.actor.place in
    let out = c.set_state.ensures rest t (states.Called a.handle)
    (begins rest a.actor.token t refl (c.leave.ensures m h q)) refl refl in
    counted a.handle m.lasttoken m.lastcell _ (c.set_calls_made.ensures _ (c.set_node.ensures rest _ out))
