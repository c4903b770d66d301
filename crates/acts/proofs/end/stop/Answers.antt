-- `end::stop` meets its contract: each way out is how the definition's step ends there. Assumes nothing.
use Rattle.acts.proofs.EndRebind.{gives_as}
use Rattle.acts.proofs.StepAtNode.{stop_step}
use Rattle.acts.proofs.Outcomes.{token-inside}
use Rattle.acts.proofs.end.stop.Goals as goal

pub end-requires : goal.end-requires
end-requires c = token-inside c.requires.is.taking

pub returns : goal.returns
returns c = λ m a. gives_as (stop_step _ _ m a) (c.end.ensures m _ a.taking)
