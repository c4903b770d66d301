-- `end::publish` meets its contract: each way out is how the definition's step ends there. Assumes nothing.
use Rattle.acts.proofs.EndRebind.{publish-reply, reply-as}
use mir.Syntax.{w32}
use mir.Val.{SFits}
use mir.Facts.{to_z-of_z}
use Rattle.acts.proofs.EndRebind.{gives_as, value-range}
use Rattle.acts.proofs.StepAtNode.{publish-step}
use Rattle.acts.proofs.Outcomes.{token-inside}
use borrow.Author.Rules.{rules}
use Rattle.acts.proofs.end.publish.Goals as goal

pub value-requires : goal.value-requires
value-requires c = token-inside c.requires.is.taking

pub end-requires : goal.end-requires
end-requires c = token-inside c.requires.is.taking

pub returns : goal.returns
returns c = λ m a.
    let fits : SFits w32 c.signed-v.result = search rules in
    let same = publish-reply _ _ _ _ (value-range a.taking)
    (c.value.ensures m a.taking.lawful.holds.codes)
    c.signed-v.ensures (to_z-of_z fits) in
    gives_as (reply-as _ (publish-step _ _ m a) same) (c.end.ensures m _ a.taking)
