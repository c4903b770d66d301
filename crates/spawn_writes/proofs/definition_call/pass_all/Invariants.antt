use Rattle.sites.specs.Row.{params_at}
use Rattle.record.specs.Holds.{Holds}
use Rattle.record.specs.Changes.{with_binds}
use Rattle.model.specs.declared.record.Machine.{Machine}
use Rattle.model.specs.Machine.Update.{put}
use Rattle.model.specs.Machine.Step.{formals_bound}
use Rattle.model.specs.Machine.Blank.{blank_token, token_at}
use lib.ListN.{get_or, take}
use Prim.Native.Nat.{◌+◌}
use mathlib.Core.Path.{◌≡◌}
use Rattle.spawn_writes.proofs.definition_call.pass_all.Given as goal

abbrev pub invariant-loop-i : goal.invariant-loop-i
invariant-loop-i l = (l.count ≡ get_or l.dag (l.actor.row + 3) 0)
    × ((m : Machine) → Holds l.initial.w (put l.new blank_token m) → (l.actor.token ≡ l.new → ⊥)
    → Holds l.w (put l.new (with_binds (formals_bound (token_at m.tokens l.actor.token).binds (take l.i (params_at l.dag l.actor.row))) blank_token) m))
