-- `fork::written` meets its contract: each writer's contract, one behind the other, leads to the record of the definition. Assumes nothing.
use mathlib.Core.Path.{refl, subst}
use native.Mathlib.Omega.{arith}
use Rattle.record.specs.Changes.{dequeued}
use Rattle.record.specs.Holds.{Holds}
use Rattle.model.specs.Machine.Blank.{token_at}
use Rattle.model.specs.Machine.Update.{put, with_node, with_tables, with_counts, with_orders, new_token, enqueue, queue_of, waits_of}
use Rattle.writes.proofs.Writes.{begins, carry, put_same, puts-queue, queued-replaced}
use Rattle.spawn_writes.proofs.fork.written.Goals as goal

pub returns : goal.returns
unfolding put with_node with_tables with_counts with_orders new_token enqueue queue_of waits_of
returns c = λ m h q room.
    let a = c.args in
    let t = token_at m.tokens a.actor.token in
    let gone = dequeued m a.actor.place in
    let rest = enqueue a.actor.token gone in
    let l = with_node a.branches.left t in
    let r = with_node a.branches.right t in
    let left = c.set_node.ensures rest t
    (begins rest a.actor.token t refl
    (c.replace.ensures m h q)) in
    let copied = carry (λ u. put a.new u (put a.actor.token l rest))
    (put_same rest a.actor.token l left
    c.requires.0)
    (c.copy.ensures _ left) in
    let right = c.set_node-2.ensures (put a.actor.token l rest) l copied in
    let counted = c.set_last_token.ensures _
    (subst (Holds _) (puts-queue gone a.actor.token a.new a.actor.token l r) right) in
    c.join.ensures _ counted (omega (arith, queued-replaced a.actor.token a.actor.place h q))
