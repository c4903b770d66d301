-- The two comparisons are the two of the definition. Assumes nothing.
use mathlib.Core.Path.{sym, ap, ◌∙◌}
use native.Mathlib.Omega.{arith}
use lib.Dec.{leb}
use Rattle.job.specs.Test.{◌and◌}
use Rattle.job.proofs.Test.{le-leb, lt-not-leb}
use Rattle.model.specs.Machine.Clock.{takes_time}
use Rattle.clock.proofs.advance.takes_time.Goals as goal

pub returns-then-clock-time : goal.returns-then-clock-time
unfolding takes_time ◌and◌
returns-then-clock-time c = λ m h.
    let time = c.args.time in
    let e = c.clock-clock.ensures m h in
    sym (ap (λ b. b and leb time 2147483647) (le-leb m.clock time (omega arith)))

pub returns-else-clock-time : goal.returns-else-clock-time
unfolding takes_time ◌and◌
returns-else-clock-time c = λ m h.
    let time = c.args.time in
    let e = c.clock-clock.ensures m h in
    lt-not-leb c.clock-clock.result time (omega arith)
    ∙ sym (ap (λ b. b and leb time 2147483647) (lt-not-leb m.clock time (omega arith)))
