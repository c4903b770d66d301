-- `return_value::written` meets its contract: each writer's contract, one behind the other, leads to the record of the definition. Assumes
-- nothing.
use mathlib.Core.Path.{refl, sym, subst}
use Rattle.record.specs.Changes.{dequeued}
use Rattle.record.specs.Holds.{Holds}
use Rattle.model.specs.declared.token.State.TheVariants as states
use Rattle.model.specs.Machine.Blank.{token_at}
use Rattle.model.specs.Machine.Update.{put, with_tables, with_orders, enqueue}
use Rattle.writes.proofs.Writes.{put-queue}
use Rattle.writes.proofs.return_value.written.Goals as goal

pub returns : goal.returns
unfolding put with_tables with_orders enqueue
returns c = λ m h q.
    let a = c.args in
    let gone = dequeued m a.actor.place in
    let rest = enqueue a.actor.token gone in
    let f = token_at m.tokens a.f in
    let v = (token_at m.tokens a.actor.token).value in
    let copied = c.copy.ensures rest
    (c.replace.ensures m h q) in
    let valued = c.set_value.ensures rest f v copied
    (sym (c.value_kind-has.ensures m
    h.codes)) (sym
    (c.value-number.ensures m h.codes)) in
    subst (Holds _) (put-queue gone a.actor.token a.actor.token _) (c.set_state.ensures rest _ states.Ready valued refl refl)
