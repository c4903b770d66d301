-- `start::start` meets its contract: all words are 0, and four are written. Assumes nothing.
use native.Mathlib.Omega.{arith}
use Rattle.record.proofs.StartLaws.{started}
use Rattle.record.proofs.start.start.Goals as goal

pub returns : goal.returns
returns c = started _ _ _ (omega arith) (c.fill.ensures.after (λ y e. e))
