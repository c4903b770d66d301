-- `where_split::split_tokens` meets its contract: each writer's contract, one behind the other, leads to the record of the definition.
-- Assumes nothing.
use mathlib.Core.Path.{refl, subst}
use Rattle.std.specs.Prelude.{Some}
use Rattle.record.specs.Holds.{Holds}
use Rattle.model.specs.declared.token.Slot.TheVariants as slots
use Rattle.model.specs.Machine.Blank.{token_at}
use Rattle.model.specs.Machine.Update.{put, with_node, in_cell, with_binding}
use Rattle.writes.proofs.Writes.{begins, put_other, put-comm}
use Rattle.spawn_writes.proofs.where_split.split_tokens.Goals as goal

pub returns : goal.returns
unfolding with_node in_cell
returns c = λ m h n.
    let a = c.args in
    let t = token_at m.tokens a.actor.token in
    let right = c.set_cell.ensures m _ (Some a.c)
    (c.set_node.ensures m t
    (c.copy.ensures m h)) refl in
    let v = in_cell a.c (with_node a.branches.right t) in
    let u = with_node a.branches.left (with_binding a.x (slots.Cell a.c) t) in
    let there = begins (put a.new v m) a.actor.token t (put_other m a.new a.actor.token v n) right in
    let left = c.set_node-2.ensures (put a.new v m) _
    (c.set_bind.ensures (put a.new v m) t (slots.Cell a.c) there refl) in
    subst (Holds _) (put-comm m a.actor.token a.new u v n) left
