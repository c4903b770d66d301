use mathlib.Core.List.{map}
use mathlib.Core.Path.{◌≡◌}
use Prim.Native.Nat.{◌+◌}
use lib.ListN.{get_or, take}
use Rattle.model.specs.Machine.Blank.{token_at}
use Rattle.model.specs.Machine.Step.{formals_bound}
use Rattle.model.specs.declared.record.Machine.{Machine}
use Rattle.record.specs.Holds.{Codes}
use Rattle.sites.specs.Row.{params_at}
use Rattle.record.specs.Layout.{slot_words}
use Rattle.tail_writes.proofs.passing.passed_slots.Given as goal

abbrev pub invariant-loop-i : goal.invariant-loop-i
invariant-loop-i l = (l.count ≡ get_or l.dag (l.actor.row + 3) 0)
    × ((m : Machine) → Codes l.w m
    → l.slots ≡ map slot_words (formals_bound (token_at m.tokens l.actor.token).binds (take l.i (params_at l.dag l.actor.row))))
