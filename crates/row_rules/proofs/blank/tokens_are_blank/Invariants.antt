use Rattle.std.proofs.Common.{◌≡◌, true, ℕ, ◌-◌, ◌<◌, ◌≤◌, take, drop}
use Rattle.job.specs.Test.{for_all}
use Rattle.model.specs.Machine.Blank.{token_is_blank}
use Rattle.model.specs.declared.record.Machine.{Machine}
use Rattle.record.specs.Holds.{Codes}
use Rattle.coded.specs.WordTests.{token_coded}
use Rattle.row_rules.proofs.blank.tokens_are_blank.Given as goal

-- those passed
abbrev pub invariant-loop-p : goal.invariant-loop-p
invariant-loop-p l = record {
  coded : l.blank ≡ true → (q : ℕ) → l.from ≤ q → q < l.p → token_coded l.w q ≡ true;
  blank : (m : Machine) → Codes l.w m → l.blank ≡ for_all token_is_blank (take (l.p - l.from) (drop l.from m.tokens));
}
