-- The last part of demand 3 is false of the machine in which a woken token goes to the front of the queue and not to its back. Of
-- (let(x) | let(2)) <x< let(1) the token at let(2) stands behind the one at choke, so that none would be before it after the choke; but
-- let(x) waits for x, and in this machine it wakes before let(2). Assumes nothing.
use mathlib.Core.Path.{◌≡◌, refl, subst}
use mathlib.Core.Bool.{Bool, false, not}
use mathlib.Core.List.{List, [], ◌∷◌, ◌++◌}
use Prim.Native.Nat.{ℕ}
use native.Mathlib.Omega.{arith}
use Rattle.job.specs.Test.{select}
use Rattle.job.specs.Syntax.{Program}
use Rattle.job.specs.Encode.{encode}
use Rattle.job.specs.Node.{Dag}
use Rattle.job.specs.Construct.{construct}
use Rattle.model.specs.Machine.Limits.{Limits, paper}
use Rattle.model.specs.Machine.Blank.{token_at}
use Rattle.model.specs.Machine.State.{is_waiting}
use Rattle.model.specs.Machine.Reply.{is_refused}
use Rattle.model.specs.Machine.Start as Start
use Rattle.model.specs.Machine.Step as Step
use Rattle.model.specs.Machine.Update.{queue_of, waits_of, with_orders}
use Rattle.model.specs.Machine.Answer as Answer
use Rattle.model.specs.Machine.Clock as Clock
use Rattle.job.specs.Notation.{◌∥◌, ◌<[◌]<◌, v, #, let', goal}
use Rattle.model.specs.Run.Call.{Call, Runner, outcome_of, machine_after}
use Rattle.model.specs.Run.Follow.{fate, stays, survivors, front_ends, ends_token, cell_set, Stands, House, Followed}
use Rattle.model.specs.Run.Demand3.{Last}
use Rattle.model.specs.declared.record.Machine.{Machine}
use Rattle.model.specs.declared.reply.Outcome.{Outcome}
use Rattle.job.proofs.Test.{never, clash}
use Rattle.model.proofs.Run.Computing.{computing}
use Rattle.model.proofs.Run.Worked.{house, after}

-- the machine after a step, with the tokens that waited before it in front of its queue
unfoldable pub woken_first : (before after : Machine) → Machine
woken_first before after =
    let woken : ℕ → Bool = λ p. is_waiting (token_at before.tokens p).state in
    with_orders
    (select woken (queue_of after) ++ select (λ (p : ℕ). not (woken p)) (queue_of after))
    (waits_of after)
    after

-- no token that a step finds in the queue waits, so that only a choke's step differs from document 01's
unfoldable pub jumping_step : Limits → Dag → Machine → (place : ℕ) → Outcome
jumping_step lim d m place =
    let o = Step.step lim d m place in record { reply = o.reply; values = o.values; machine = woken_first m o.machine }

abbrev pub jumping : Runner
jumping = record { start = Start.start; step = jumping_step; answer = Answer.answer; advance = Clock.advance }

-- a token that a step leaves in the queue is not followed past it, if it does not stand where it should
module _ (R : Runner) (lim : Limits) (d : Dag) where
  pub not-followed :
      {m : Machine} {k k' n : ℕ} {later : List Call}
      → is_refused (outcome_of R lim d m (Call.step 0)).reply ≡ false → fate d m k ≡ stays k'
      → (Stands m k (outcome_of R lim d m (Call.step 0)).machine k' → ⊥)
      → Followed R lim d m k (Call.step 0 ∷ later) n → ⊥
  not-followed ok f lost (Followed.refused e) = clash e ok
  not-followed ok f lost (Followed.acted e g x) = never cc
  not-followed ok f lost (Followed.pruned e g x) = never cc
  not-followed {m} {k} {k'} ok f lost (Followed.passed {k' = j} e g s rest) =
      let same : j ≡ k' = cc in lost (subst (λ i. Stands m k (outcome_of R lim d m (Call.step 0)).machine i) same s)

-- (let(x) | let(2)) <x< let(1)
abbrev pub overtaking : Program
overtaking = goal ((let' (v 0) ∥ let' (# 2)) <[ 0 ]< let' (# 1))

-- after five steps the queue has the token at choke, then the one that has the 2; let(x) waits
abbrev choking : Machine
choking = after jumping overtaking (house 5)

-- the place at the front after the choke is let(x)'s, and not the 2's
overtaken : Stands choking 1 (outcome_of jumping paper (construct overtaking) choking (Call.step 0)).machine 0 → ⊥
unfolding computing outcome_of machine_after jumping_step woken_first
overtaken s = let z : ◌≡◌ {A = ℕ} 0 2 = s.place in omega arith

pub jumping-is-unfair : Last jumping → ⊥
unfolding computing outcome_of machine_after jumping_step woken_first fate survivors front_ends ends_token cell_set
jumping-is-unfair last =
    let followed = (last (encode overtaking) overtaking refl).1 (house 5) (Call.step 0 ∷ []) (House.front House.none) 1 (omega arith) in
    not-followed jumping paper (construct overtaking) refl refl overtaken followed.1
