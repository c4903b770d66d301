-- `order::counts_agree` meets its contract: three counts, one for each order. Assumes nothing.
use mathlib.Core.Path.{ap, ◌∙◌}
use lib.Dec.{eqb}
use Rattle.job.proofs.Both.{three}
use Rattle.order_rules.proofs.OrderCounts.{once-is}
use Rattle.order_rules.proofs.order.counts_agree.Goals as goal

pub returns : goal.returns
returns c = three (ap (eqb _) (c.from.ensures ∙ once-is _)) (ap (eqb _) (c.from-2.ensures ∙ once-is _))
    (ap (eqb _) (c.from-3.ensures ∙ once-is _))
