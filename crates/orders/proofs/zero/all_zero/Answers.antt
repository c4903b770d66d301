-- `zero::all_zero` meets its contract: the bits are 0 exactly when the words so far are. Assumes nothing.
use mathlib.Core.Path.{refl}
use native.Mathlib.Omega.{arith}
use Rattle.job.specs.Test.{for_all}
use Rattle.orders.proofs.ZeroLaws.{zero-more}
use Rattle.orders.proofs.zero.all_zero.Goals as goal

pub loop-word-init : goal.loop-word-init
unfolding for_all
loop-word-init c = refl

pub loop-word-preserved : goal.loop-word-preserved
loop-word-preserved c = zero-more _ _ _ (omega arith) c.loop-word.invariant
