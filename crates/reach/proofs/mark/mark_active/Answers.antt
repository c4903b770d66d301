-- `mark::mark_active` meets its contract, by the answer whether the token is active. Assumes nothing.
use mathlib.Core.Path.{◌∙◌}
use Rattle.reach.proofs.UsedMarking.{active-marks, inactive-marks}
use Rattle.reach.proofs.mark.mark_active.Goals as goal

pub returns-then-active : goal.returns-then-active
returns-then-active c = λ m h.
    c.mark_callers.ensures m h ∙ active-marks m _ _ _ (c.active.ensures m h)
    c.if-active.true

pub returns-else-active : goal.returns-else-active
returns-else-active c = λ m h. inactive-marks m _ _ _ (c.active.ensures m h) c.if-active.false
