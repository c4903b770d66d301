use mathlib.Core.Bool.{true}
use mathlib.Core.Path.{◌≡◌}
use Prim.Native.Nat.{ℕ, ◌≤◌, ◌<◌}
use lib.ListN.{length, take}
use Rattle.model.specs.declared.record.Machine.{Machine}
use Rattle.model.specs.Machine.Rules.{open_handles}
use Rattle.job.specs.Words.{dag_of}
use Rattle.coded.specs.WordTests.{token_coded}
use Rattle.row_rules.specs.ValuesFit.{ValuesFit}
use Rattle.rules.proofs.RulesRows.{seen}
use Rattle.rules.proofs.tokens.tokens_hold.Given as goal

abbrev pub invariant-loop-i : goal.invariant-loop-i
invariant-loop-i l = (l.count ≤ l.i)
    × (length l.handles ≡ 64)
    × (l.ok ≡ true → (p : ℕ) → p < l.i → token_coded l.w p ≡ true)
    × ((m : Machine) → ValuesFit l.w m → length l.used ≡ 64
    → l.ok ≡ seen (dag_of l.dag) m l.used l.counts.queue l.counts.waits l.counts.timers l.i)
    × ((m : Machine) → ValuesFit l.w m → l.ok ≡ true → take l.count l.handles ≡ open_handles (take l.i m.tokens))
