-- `mark::mark_held` meets its contract, by cases. Assumes nothing.
use mathlib.Core.Path.{◌∙◌}
use Rattle.reach.proofs.UsedMarking.{held-marks, idle-marks}
use Rattle.reach.proofs.mark.mark_held.Goals as goal

pub returns-then-used : goal.returns-then-used
returns-then-used c = λ m h. c.mark_named.ensures m h ∙ held-marks m _ _ _ c.if-used.true

pub returns-else-used : goal.returns-else-used
returns-else-used c = λ m h. idle-marks m _ _ _ c.if-used.false
