use Rattle.std.proofs.Common.{◌≡◌, take}
use Rattle.job.specs.Test.{distinct}
use Rattle.rules.proofs.handles.all_differ.Given as goal

abbrev pub invariant-loop-i : goal.invariant-loop-i
invariant-loop-i l = l.ok ≡ distinct (take l.i l.list)
