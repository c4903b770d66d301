-- `report::plain` meets its contract: each way out is how the definition's step ends there. Assumes nothing.
use Rattle.job.specs.Test.{padded}
use mathlib.Core.Path.{refl}
use Rattle.acts.proofs.report.plain.Goals as goal

pub returns : goal.returns
unfolding padded
returns c = refl
