use mathlib.Core.Path.{◌≡◌}
use Prim.Native.Nat.{ℕ, ◌+◌, ◌<◌}
use Rattle.std.specs.Prelude.{IfSome, MatchOption}
use Rattle.model.specs.declared.record.Machine.{Machine}
use Rattle.record.specs.Holds.{Holds}
use Rattle.clock.specs.WakeOneByOne.{ClockFacts, FirstDue, due_at}
use Rattle.clock.proofs.advance.earliest.Given as goal

abbrev pub invariant-loop-i : goal.invariant-loop-i
invariant-loop-i l =
    IfSome l.found (λ i. i < 64)
    × ((m : Machine) → Holds l.w m → ClockFacts m → m.timed ≡ l.timed
    → MatchOption l.found ((l.bound ≡ l.time + 1) × ((j : ℕ) → j < l.i → l.time < due_at m j))
    (λ i. (l.bound ≡ due_at m i) × FirstDue (due_at m) l.i l.time i))
