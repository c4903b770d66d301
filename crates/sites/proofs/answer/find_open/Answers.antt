-- `answer::find_open` meets its contract: the search passes only tokens that are not called out under the handle. Assumes nothing.
use mathlib.Core.Path.{sym, ◌∙◌}
use native.Mathlib.Omega.{arith}
use Rattle.model.specs.Machine.Blank.{blank_token, token_at}
use Rattle.sites.proofs.AnswerLaws.{holder-found, holder-on, holder-blank, open-is, open-is-not}
use Rattle.sites.proofs.answer.find_open.Goals as goal

pub returns-then-as_one-open-clause-place : goal.returns-then-as_one-open-clause-place
unfolding token_at
returns-then-as_one-open-clause-place c = λ m h blank.
    holder-found _ c.loop-p.p m.tokens blank_token (omega (arith, h.shaped.tokens)) (c.loop-p.invariant m h)
    (open-is c.args.handle _ _ _ (c.state.ensures m h) (c.state_number.ensures m h)
    (sym c.as_one.ensures ∙ c.if-as_one-open.true ∙ c.as_one-open.ensures))

pub loop-p-preserved : goal.loop-p-preserved
unfolding token_at
loop-p-preserved c = λ m h.
    holder-on _ c.loop-p.p m.tokens blank_token (omega (arith, h.shaped.tokens)) (c.loop-p.invariant m h)
    (open-is-not c.args.handle _ _ _ (c.state.ensures m h) (c.state_number.ensures m h)
    (λ e. c.if-as_one-open.false (c.as_one.ensures ∙ e ∙ sym c.as_one-open.ensures)))

pub returns-clause-place : goal.returns-clause-place
returns-clause-place c = λ m h blank.
    let l = c.loop-p in
    c.loop-p.invariant m h
    ∙ holder-blank _ l.p m.tokens h.shaped.tokens (omega arith) (λ i from to. blank i (omega arith) to)
