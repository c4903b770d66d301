use mathlib.Core.Path.{◌≡◌}
use Prim.Native.Nat.{◌-◌}
use Rattle.model.specs.Machine.Active.{under_set}
use Rattle.model.specs.declared.record.Machine.{Machine}
use Rattle.record.specs.LayoutDecoded.{place_from}
use Rattle.record.specs.Holds.{Codes}
use Rattle.reach.proofs.UnderSet.{climb}
use Rattle.reach.proofs.under_set.under_set.Given as goal

abbrev pub invariant-loop : goal.invariant-loop
invariant-loop l = (m : Machine) → Codes l.w m → under_set m.cells (place_from l.start) ≡ climb m.cells (32 - l.counter) (place_from l.q)
