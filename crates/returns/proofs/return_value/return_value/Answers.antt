-- `return_value::return_value` meets its contract: each way out is how the definition's step ends there. Assumes nothing.
use mathlib.Core.Path.{◌∙◌}
use native.Mathlib.Omega.{arith}
use Rattle.model.specs.declared.reply.Reply.TheVariants as replies
use Rattle.acts.proofs.EndRebind.{return-caller, return-vacant}
use Rattle.acts.proofs.StepAtNode.{return-step}
use Rattle.acts.proofs.Outcomes.{token-inside, gives-swept}
use Rattle.returns.proofs.ReturnCallees.{nobody}
use Rattle.returns.proofs.ReturnValue.{released-swept}
use Rattle.returns.proofs.return_value.return_value.Goals as goal
use Rattle.returns.proofs.return_value.return_value.Goals.{then-lost, else-lost}

pub caller-requires : goal.caller-requires
caller-requires c = token-inside c.requires.is.taking

pub overflow_sub-f : goal.overflow_sub-f
overflow_sub-f c = let k = return-caller _ _ _ c.requires.is
    (c.wide-f.ensures ∙ c.caller.ensures _ c.requires.is.taking.lawful.holds.codes) in
    omega (arith, k.0)

pub may_lose_cell-lost-requires : goal.may_lose_cell-lost-requires
may_lose_cell-lost-requires c = let k = return-caller _ _ _ c.requires.is
    (c.wide-f.ensures
    ∙ c.caller.ensures _ c.requires.is.taking.lawful.holds.codes) in
    (token-inside c.requires.is.taking, k.1)

pub written-requires : goal.written-requires
written-requires c = let k = return-caller _ _ _ c.requires.is
    (c.wide-f.ensures ∙ c.caller.ensures _
    c.requires.is.taking.lawful.holds.codes) in
    (token-inside c.requires.is.taking, k.1)

pub release-requires : goal.release-requires
release-requires c = let k = return-caller _ _ _ c.requires.is
    (c.wide-f.ensures
    ∙ c.caller.ensures _
    c.requires.is.taking.lawful.holds.codes) in k.1

pub returns : goal.returns
returns c = λ m a alone.
    let holds = a.taking.lawful.holds in
    let k = return-caller _ _ m a (c.wide-f.ensures ∙ c.caller.ensures m holds.codes) in
    let after = c.written.ensures m holds a.taking.queued in
    elim c.if-lost.branch [
      | then-lost w ↦
          rw (w.w-is, w.marks-is)
          (gives-swept _ replies.Done _ (return-step _ _ m _ k.2 a) c.plain.ensures
          (w.sweep.ensures _ after (return-vacant a.taking _)))
      | else-lost w ↦
          rw (w.w-is, w.marks-is)
          (gives-swept _ replies.Done _ (return-step _ _ m _ k.2 a) c.plain.ensures
          (released-swept a _ k.1 k.2 (c.may_lose_cell-lost.ensures m holds.codes w.if-lost.false)
          (w.release.ensures _ after (λ e. nobody a _ k.1 k.2 (alone e)))))
    ]
