use mathlib.Core.Path.{◌≡◌}
use lib.ListN.{take}
use Rattle.model.specs.declared.token.Slot.{Slot}
use Rattle.model.specs.declared.record.Machine.{Machine}
use Rattle.model.specs.Machine.Rules.{slot_in_range}
use Rattle.model.specs.Machine.Blank.{token_at}
use Rattle.job.specs.Test.{for_all}
use Rattle.row_rules.specs.ValuesFit.{ValuesFit}
use Rattle.row_rules.proofs.range.binds_in_range.Given as goal

abbrev pub invariant-loop-x : goal.invariant-loop-x
invariant-loop-x l =
    (m : Machine) → ValuesFit l.w m → l.ok ≡ for_all (slot_in_range 32) (take l.x (token_at m.tokens l.p).binds)
