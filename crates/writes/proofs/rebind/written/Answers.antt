-- `rebind::written` meets its contract: each writer's contract, one behind the other, leads to the record of the definition. Assumes
-- nothing.
use mathlib.Core.Path.{refl, subst}
use Rattle.record.specs.Changes.{dequeued}
use Rattle.record.specs.Holds.{Holds}
use Rattle.model.specs.Machine.Blank.{token_at}
use Rattle.model.specs.Machine.Update.{put, with_tables, with_orders, enqueue}
use Rattle.writes.proofs.Writes.{begins, put-queue}
use Rattle.writes.proofs.rebind.written.Goals as goal

pub returns : goal.returns
unfolding put with_tables with_orders enqueue
returns c = λ m s h q e.
    let a = c.args in
    let t = token_at m.tokens a.actor.token in
    let gone = dequeued m a.actor.place in
    let rest = enqueue a.actor.token gone in
    let first = begins rest a.actor.token t refl (c.replace.ensures m h q) in
    subst (Holds _) (put-queue gone a.actor.token a.actor.token _)
    (c.set_node.ensures rest _ (c.set_bind.ensures rest t s first e))
