-- `frame::is_still_caller` meets its contract: a frame that is not shared is named by nobody. Assumes nothing.
use mathlib.Core.Path.{refl}
use Rattle.job.proofs.Test.{clash}
use Rattle.returns.proofs.frame.is_still_caller.Goals as goal

pub returns-then-shared : goal.returns-then-shared
returns-then-shared c = λ m h n. c.is_caller.ensures m h

pub returns : goal.returns
returns c = λ m h n. record { some = λ e. clash e refl; none = λ e. n c.if-shared.false }
