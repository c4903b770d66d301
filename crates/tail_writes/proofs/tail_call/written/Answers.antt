-- `tail_call::written` meets its contract: each writer's contract, one behind the other, leads to the record of the definition. Assumes
-- nothing.
use mathlib.Core.Path.{refl, ap, subst}
use Rattle.std.specs.Prelude.{None}
use Rattle.model.specs.Machine.Blank.{token_at}
use Rattle.model.specs.Machine.Step.{callee, formals_bound}
use Rattle.model.specs.Machine.Update.{put, enqueue, with_node, with_state, with_value, with_orders}
use Rattle.record.specs.Changes.{dequeued}
use Rattle.record.specs.Holds.{Holds}
use Rattle.sites.specs.Row.{params_at}
use Rattle.writes.proofs.Writes.{begins, carry, put-queue}
use Rattle.tail_writes.proofs.PassingWords.{formals-long}
use Rattle.tail_writes.proofs.tail_call.written.Goals as goal

pub returns : goal.returns
unfolding with_node with_value with_state enqueue with_orders
returns c = λ m h q ready.
    let a = c.args in
    let t = token_at m.tokens a.actor.token in
    let gone = dequeued m a.actor.place in
    let rest = enqueue a.actor.token gone in
    let formals = formals_bound t.binds (params_at a.dag.now a.actor.row) in
    let queued = begins rest a.actor.token t refl (c.replace.ensures m h q) in
    let bound = c.bind_slots.ensures rest t formals queued (formals-long c.requires.1 t.binds)
    (c.passed_slots-slots.ensures m h.codes) in
    let called = c.set_node.ensures rest _ (c.set_value.ensures rest _ None bound refl refl) in
    subst (Holds _) (put-queue gone a.actor.token a.actor.token (callee t.caller t a.root (params_at a.dag.now a.actor.row)))
    (carry (λ u. put a.actor.token u rest) (ap (λ s. with_state s (callee t.caller t a.root (params_at a.dag.now a.actor.row))) ready) called)
