-- `frame::release` meets its contract: the search says which way it goes. Assumes nothing.
use mathlib.Core.Path.{refl}
use Rattle.returns.specs.Frame.{shared, alone}
use Rattle.returns.proofs.frame.release.Goals as goal

pub returns-then-is_still_caller : goal.returns-then-is_still_caller
returns-then-is_still_caller c =
    λ o h n. let k = (c.is_still_caller.ensures o h.codes n).some c.if-is_still_caller.true in shared k.0 k.1 h refl

pub returns : goal.returns
returns c = λ o h n. alone ((c.is_still_caller.ensures o h.codes n).none c.if-is_still_caller.false)
    (c.blank.ensures o h) refl
