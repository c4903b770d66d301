-- Only a variable can be empty.
use Rattle.std.proofs.Common.{◌∙◌, ap, not}
use Rattle.job.proofs.Test.{ne_eqb}
use Rattle.row_rules.proofs.NodeLaws.{bound-param, free-param}
use Rattle.row_rules.proofs.node.param_is_bound.Goals as goal

pub returns-then-param-ne-VARIABLE : goal.returns-then-param-ne-VARIABLE
returns-then-param-ne-VARIABLE c = λ m h.
    ap not (ne_eqb _ 7 c.if-param-ne-VARIABLE.true) ∙ free-param _ _ _ c.if-param-ne-VARIABLE.true

pub returns-else-param-ne-VARIABLE : goal.returns-else-param-ne-VARIABLE
returns-else-param-ne-VARIABLE c = λ m h.
    c.slot_is_bound.ensures m h ∙ bound-param _ _ _ c.if-param-ne-VARIABLE.false
