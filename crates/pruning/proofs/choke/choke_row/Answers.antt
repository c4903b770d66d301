-- The row ends, wakes or stays as the token does, since its words say where it belongs and where it waits. Assumes nothing.
use mathlib.Core.Path.{refl, sym, subst, ◌∙◌}
use Rattle.model.specs.Machine.Blank.{token_at}
use Rattle.model.specs.declared.token.State.TheVariants as states
use Rattle.record.proofs.TokenRow.{put_self}
use Rattle.record.specs.Holds.{Holds}
use Rattle.pruning.proofs.ChokeLaws.{row_ends, row-wakes, row-passes}
use Rattle.pruning.proofs.choke.choke_row.Goals as goal

pub returns-then-is_within : goal.returns-then-is_within
returns-then-is_within c = λ m h.
    let k = h.codes in
    row_ends m c.args.c
    c.args.p c.is_within.result
    (c.is_within.ensures m _ k (sym (c.cell-home.ensures m k)))
    c.if-is_within.true (c.blank.ensures m h)

pub returns-then-c-wide : goal.returns-then-c-wide
returns-then-c-wide c = λ m h.
    let k = h.codes in
    let p = c.args.p in
    row-wakes m c.args.c
    p c.is_within.result
    (c.is_within.ensures m _ k
    (sym (c.cell-home.ensures m k)))
    c.state.result
    (c.state.ensures m k)
    c.if-is_within.false c.wide.result
    (c.wide.ensures ∙ c.state_number.ensures m k)
    c.if-state-eq-WAITING_STATE.true c.if-c-wide.true
    (c.set_state.ensures m (token_at m.tokens p) states.Ready (subst (Holds _) (sym (put_self m p)) h) refl refl)

pub returns-else-c-wide : goal.returns-else-c-wide
returns-else-c-wide c = λ m h.
    let k = h.codes in
    row-passes m c.args.c
    c.args.p
    c.is_within.result
    (c.is_within.ensures m _ k
    (sym (c.cell-home.ensures m k)))
    c.state.result (c.state.ensures m k)
    c.if-is_within.false c.wide.result
    (c.wide.ensures ∙ c.state_number.ensures m k) (λ _ s. c.if-c-wide.false s) h

pub returns-else-state-eq-WAITING_STATE : goal.returns-else-state-eq-WAITING_STATE
returns-else-state-eq-WAITING_STATE c = λ m h.
    let k = h.codes in
    row-passes m c.args.c
    c.args.p c.is_within.result
    (c.is_within.ensures m _ k
    (sym (c.cell-home.ensures m k)))
    c.state.result (c.state.ensures m k) c.if-is_within.false _ refl (λ s _. c.if-state-eq-WAITING_STATE.false s) h
