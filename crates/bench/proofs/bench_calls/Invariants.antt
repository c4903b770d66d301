use Prim.Native.Nat.{◌≤◌}
use Rattle.bench.specs.Timed.{rounds_from}
use Rattle.bench.proofs.Calling.{RoundsLeft}
use Rattle.bench.proofs.bench_calls.Given as goal

abbrev pub invariant-loop : goal.invariant-loop
invariant-loop l = (l.counter ≤ l.rounds)
    × RoundsLeft l.dag l.handles l.most l.rounds (rounds_from l.dag l.handles l.most l.rounds (record {
      count = l.initial.made;
      words = l.initial.words;
    })) l.counter
    (record { count = l.made; words = l.words })
