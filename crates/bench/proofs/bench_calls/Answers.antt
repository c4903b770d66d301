-- Each turn of `bench_calls` makes the definition's next round. Assumes nothing.
use mathlib.Core.Path.{ap}
use native.Mathlib.Omega.{arith}
use Rattle.bench.specs.Timed.{Made}
use Rattle.bench.proofs.Calling.{rounds-all, round-made, rounds-over, rounds-on, round-parts}
use Rattle.bench.proofs.bench_calls.Goals as goal

pub loop-init : goal.loop-init
loop-init c = (omega arith, rounds-all _ _ _ _ _)

pub loop-preserved : goal.loop-preserved
loop-preserved c = (
  omega arith,
  round-made _ _ _ _ _ _ _ _ _ (omega arith) (omega arith) (round-parts _ (
    c.calls-made.ensures.value,
    c.calls-made.ensures.words_after,
  )) c.loop.invariant.1,
)

pub returns : goal.returns
returns c = rounds-on c.load.ensures.dag_after _ _ _ _ _
    (ap (λ (x : Made). x.count) (rounds-over _ _ _ _ _ _ _ (omega arith) c.loop.invariant.1))
