use Prim.Native.Nat.{◌-◌}
use Rattle.model.specs.declared.record.Machine.{Machine}
use Rattle.record.specs.Holds.{Holds}
use Rattle.clock.specs.WakeOneByOne.{ClockFacts}
use Rattle.clock.proofs.WakeOneByOne.{Waking}
use Rattle.clock.proofs.advance.wake_due.Given as goal

abbrev pub invariant-loop : goal.invariant-loop
invariant-loop l = (m : Machine) → Holds l.initial.w m → ClockFacts m → Waking l.w m l.time (l.end - l.counter)
