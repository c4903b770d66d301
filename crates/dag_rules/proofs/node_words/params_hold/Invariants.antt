use Rattle.std.proofs.Common.{◌≡◌, drop, ◌+◌, ◌-◌, ◌*◌}
use Rattle.job.specs.Test.{◌and◌}
use Rattle.dag_rules.specs.NodeWords.{param_words_hold}
use Rattle.dag_rules.proofs.node_words.params_hold.Given as goal

abbrev pub invariant-loop-i : goal.invariant-loop-i
invariant-loop-i l =
    param_words_hold 4 l.count (drop 4 l.row) ≡ (l.ok and param_words_hold (4 - l.i) (l.count - l.i) (drop (4 + 2 * l.i) l.row))
