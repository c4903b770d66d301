use mathlib.Core.Path.{◌≡◌}
use lib.Dec.{eqb}
use lib.ListN.{take}
use Rattle.job.specs.Test.{for_all}
use Rattle.orders.proofs.zero.all_zero.Given as goal

abbrev pub invariant-loop-word : goal.invariant-loop-word
invariant-loop-word l = eqb l.bits 0 ≡ for_all (eqb 0) (take l.word-index l.words)
