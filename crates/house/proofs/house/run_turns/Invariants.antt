use mathlib.Core.Path.{◌≡◌}
use Prim.Native.Nat.{◌+◌, ◌-◌}
use lib.ListN.{length}
use Rattle.house.proofs.HouseLent.{Lent}
use Rattle.house.proofs.house.run_turns.Given as goal

abbrev pub invariant-loop-left : goal.invariant-loop-left
invariant-loop-left l = record {
  same_reference : l.window.output.ghost_name ≡ l.initial.window.output.ghost_name;
  from : l.window.from ≡ l.from;
  lent : Lent l.dag l.rest l.fn.output l.from l.w l.marks l.shared l.steps l.at l.window.total l.window.output.now;
}

abbrev pub decreases-loop-left : goal.decreases-loop-left
decreases-loop-left l = (100000 - l.steps) + (length l.rest - l.at)
