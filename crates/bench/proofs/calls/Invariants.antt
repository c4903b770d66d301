use Prim.Native.Nat.{◌≤◌}
use Rattle.bench.specs.Timed.{calls_from}
use Rattle.bench.proofs.Calling.{Left}
use Rattle.bench.proofs.calls.Given as goal

abbrev pub invariant-loop-n : goal.invariant-loop-n
invariant-loop-n l = (l.n ≤ l.most) × Left l.dag l.handles (calls_from l.dag l.handles l.most 0 0 l.initial.words) l.most l.n l.at l.words
