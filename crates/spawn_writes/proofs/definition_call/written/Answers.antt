-- `definition_call::written` meets its contract: each writer's contract, one behind the other, leads to the record of the definition.
-- Assumes nothing.
use Rattle.writes.proofs.Writes.{begins, carry-binding, put_same, put_other, puts-queue}
use Rattle.sites.specs.Row.{callee, params_at}
use Rattle.record.specs.Changes.{dequeued}
use Rattle.record.specs.Holds.{Holds}
use Rattle.model.specs.declared.token.Token.{Token}
use Rattle.model.specs.declared.token.State.TheVariants as states
use Rattle.model.specs.Machine.Update.{put, with_node, with_state, new_token, with_tables}
use Rattle.model.specs.Machine.Update.{with_orders, with_counts, enqueue, queue_of, waits_of}
use Rattle.model.specs.Machine.Blank.{token_at}
use mathlib.Core.Path.{refl, sym, ap, subst, ◌∙◌}
use Rattle.spawn_writes.proofs.definition_call.written.Goals as goal

pub returns : goal.returns
unfolding with_node with_state new_token put with_tables with_counts with_orders enqueue queue_of waits_of
returns c = λ m h q n blank.
    let a = c.args in
    let t = token_at m.tokens a.actor.token in
    let gone = dequeued m a.actor.place in
    let rest = enqueue a.new gone in
    let u = with_node a.next (with_state states.Frame t) in
    let framed = c.set_node.ensures rest _
    (c.set_state.ensures rest t states.Frame
    (begins rest a.actor.token t refl
    (c.replace.ensures m h q)) refl refl) in
    let vacant = put_other rest a.actor.token a.new u (λ e. n (sym e)) ∙ blank in
    let called = c.put_callee.ensures (put a.actor.token u rest) t.cell framed n vacant
    (sym (c.cell-home.ensures m
    h.codes)) in
    let bound = carry-binding
    (λ bs. put a.new (callee a.actor.token t.cell bs a.root (params_at a.dag.now a.actor.row)) (put a.actor.token u rest))
    (ap (λ (x : Token). x.binds)
    (put_same rest a.actor.token u framed
    c.requires.0))
    called in
    let child = callee a.actor.token t.cell t.binds a.root (params_at a.dag.now a.actor.row) in
    c.set_last_token.ensures _ (subst (Holds _) (puts-queue gone a.actor.token a.new a.new u child) bound)
