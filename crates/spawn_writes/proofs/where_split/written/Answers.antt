-- `where_split::written` meets its contract: each writer's contract, one behind the other, leads to the record of the definition. Assumes
-- nothing.
use mathlib.Core.Path.{sym, subst}
use native.Mathlib.Omega.{arith}
use Rattle.record.specs.Changes.{dequeued}
use Rattle.record.specs.Holds.{Holds}
use Rattle.model.specs.declared.token.Slot.TheVariants as slots
use Rattle.model.specs.Machine.Blank.{token_at}
use Rattle.model.specs.Machine.Update.{put, with_node, with_binding, in_cell, with_tables, with_counts, with_orders, new_token, new_cell}
use Rattle.model.specs.Machine.Update.{enqueue, queue_of, waits_of}
use Rattle.writes.proofs.Writes.{puts-queue, queued-replaced}
use Rattle.spawn_writes.proofs.where_split.written.Goals as goal

pub returns : goal.returns
unfolding put with_tables with_counts with_orders new_token new_cell enqueue queue_of waits_of
returns c = λ m h q room n.
    let a = c.args in
    let t = token_at m.tokens a.actor.token in
    let gone = dequeued m a.actor.place in
    let l = with_node a.branches.left (with_binding a.x (slots.Cell a.c) t) in
    let r = in_cell a.c (with_node a.branches.right t) in
    let split = c.split_tokens.ensures _
    (c.replace.ensures m h q) n in
    let opened = c.put_unset.ensures _ t.cell
    (c.set_last_token.ensures _
    (subst (Holds _) (puts-queue gone a.actor.token a.new a.actor.token l r) split))
    (sym (c.cell-parent.ensures m
    h.codes)) in
    let counted = c.set_last_cell.ensures _ opened in
    c.join.ensures _ counted (omega (arith, queued-replaced a.actor.token a.actor.place h q))
