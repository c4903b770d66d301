-- After each turn those woken and those that are left are, all woken, what the definition has. Assumes nothing.
use native.Mathlib.Omega.{arith}
use Rattle.clock.proofs.WakeOneByOne.{waking-over, waking-done, waking-more}
use Rattle.clock.proofs.advance.wake_due.Goals as goal

pub returns-in_default : goal.returns-in_default
returns-in_default c = λ m h f.
    let k = c.loop.invariant m h f in
    waking-done k (c.in_default.ensures.first k.machine k.holds k.facts)

pub loop-preserved : goal.loop-preserved
loop-preserved c = λ m h f.
    let k = c.loop.invariant m h f in
    waking-more k _ (c.in-Some.ensures.first k.machine k.holds k.facts) (c.wake_at.ensures k.machine k.holds k.facts) (omega arith)

pub returns : goal.returns
returns c = λ m h f. waking-over (c.loop.invariant m h f) (omega arith)
