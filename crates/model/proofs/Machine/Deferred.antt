-- What a call of rwait does, by when it falls due: never, by now, or later. By the test that its definition makes. Assumes nothing.
use mathlib.Core.Path.{◌≡◌, refl}
use mathlib.Core.Bool.{Bool, true, false}
use mathlib.Core.List.{[], ◌∷◌, ◌++◌}
use mathlib.Core.Option.{Option, some, none}
use Prim.Native.Nat.{ℕ, ◌<◌, ◌≤◌}
use lib.Dec.{ltb}
use lib.IntN.{pos}
use Rattle.std.specs.Prelude.{Some}
use Rattle.model.specs.Machine.Reply.{Effect, moves}
use Rattle.model.specs.Machine.Update.{with_node, with_value, with_state, with_timers, timers_of, put}
use Rattle.model.specs.Machine.Step.{ended, goes_on, deferred}
use Rattle.model.specs.declared.token.State.TheVariants as states
use Rattle.model.specs.declared.token.Token.{Token}
use Rattle.model.specs.declared.record.Machine.{Machine}
use Rattle.job.proofs.Test.{ltb-lt, not-ltb-le}

module _ (m : Machine) (p : ℕ) (t : Token) (next : ℕ) where
  -- the token goes on with 0
  abbrev pub at_once : Effect
  at_once = goes_on m p (with_node next (with_value (Some (pos 0)) t))

  -- it is due later
  abbrev pub in_time : (due : ℕ) → Machine
  in_time due = with_timers (timers_of m ++ (p ∷ [])) (put p (with_node next (with_state (states.Due due) t)) m)

  pub deferred-cases : (P : Option ℕ → Effect → Type 0)
      → P none (moves (ended m p))
      → ((due : ℕ) → due ≤ m.clock → P (some due) at_once)
      → ((due : ℕ) → m.clock < due → P (some due) (moves (in_time due)))
      → (o : Option ℕ) → P o (deferred m p t next o)
  unfolding deferred
  deferred-cases P never now later none = never
  deferred-cases P never now later (some due) = go (ltb m.clock due) refl
    where
      go : (b : Bool) → ltb m.clock due ≡ b → P (some due) (elim b [ false ↦ at_once | true ↦ moves (in_time due) ])
      go false e = now due (not-ltb-le m.clock due e)
      go true e = later due (ltb-lt m.clock due e)
