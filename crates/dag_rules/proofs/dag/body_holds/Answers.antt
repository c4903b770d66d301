use Rattle.job.proofs.Both.{both_is}
use Rattle.dag_rules.proofs.dag.body_holds.Goals as goal

pub returns : goal.returns
returns c = both_is _ _
