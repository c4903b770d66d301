-- `node::value_if_ready` meets its contract: by the words of the state and of the value. Assumes nothing.
use mathlib.Core.Bool.{not, ◌||◌}
use mathlib.Core.Path.{◌∙◌, ap, ap₂}
use lib.Dec.{eqb, ltb}
use Rattle.model.specs.Machine.Rules.{value_if_ready}
use Rattle.row_rules.proofs.RangeLaws.{held-is}
use Rattle.job.proofs.Both.{either_is}
use Rattle.record.proofs.TokenRow.{ready-kind}
use Rattle.row_rules.proofs.node.value_if_ready.Goals as goal

pub returns : goal.returns
unfolding value_if_ready
returns c = λ m h.
    ap₂ (λ a b. not a || b) (ap (λ n. eqb n 1) (c.state.ensures m h) ∙ ready-kind _)
    (ap (ltb 0) (c.value_kind.ensures m h) ∙ held-is _) ∙ either_is _ _
