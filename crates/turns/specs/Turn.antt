-- One turn of a house run, by how many tokens are in the queue before it. Assumes nothing: these are definitions.
use Rattle.std.specs.Prelude.{Bool, true, false, List, ℕ, suc, ◌+◌, take, drop, eqb, ltb, Result, Ok, Err}
use Rattle.job.specs.Number.{number}
use Rattle.job.specs.Node.{Dag}
use Rattle.model.specs.Machine.Limits.{paper}
use Rattle.model.specs.Machine.Reply.{is_refused}
use Rattle.model.specs.Machine.Step as Step
use Rattle.model.specs.Output.Orcrun.{delivered}
use Rattle.model.specs.declared.record.Machine.{Machine}
use Rattle.model.specs.declared.reply.Refusal.{Refusal}
use Rattle.model.specs.declared.reply.Refusal.TheVariants as refusals
use Rattle.model.specs.declared.reply.Reply.{Reply}
use Rattle.model.specs.declared.reply.Reply.TheVariants as replies
use Rattle.model.specs.declared.reply.Outcome.{Outcome}

-- no token is ready, and fewer bytes are left than a record has
unfoldable pub is_last : (queued left : ℕ) → Bool
is_last queued left = elim (eqb queued 0) [ true ↦ ltb left 8 | false ↦ false ]

-- "with 100,000 steps made and a token ready"
unfoldable pub is_limit : (queued steps : ℕ) → Bool
is_limit queued steps = elim (eqb queued 0) [ true ↦ false | false ↦ eqb steps 100000 ]

-- "a refused step ends the run, a refused answer doesn't", nor does a refused clock move
unfoldable pub is_over : (queued : ℕ) → Reply → Bool
is_over queued r = elim (eqb queued 0) [ true ↦ false | false ↦ is_refused r ]

-- a reply that is printed
unfoldable pub has_line : Reply → Bool
has_line replies.Done = false
has_line replies.Waits = false
has_line (replies.Published v) = true
has_line (replies.Called h s n) = true
has_line (replies.Refused r) = true

-- "it runs house order; with the queue empty it delivers a record"
unfoldable pub turn_outcome : Dag → Machine → (rest : List ℕ) (at : ℕ) → Outcome
turn_outcome d m rest at =
    elim (eqb m.queued 0) [
      | true ↦ delivered paper d m (number (take 4 (drop at rest))) (number (take 4 (drop (at + 4) rest)))
      | false ↦ Step.step paper d m 0
    ]

-- a record is taken, or refused with 12 or 15
pub data IsDelivery : Result Unit Refusal → Type 0 where
  taken : IsDelivery (Ok tt)
  not_open : IsDelivery (Err refusals.NotOpen)
  wrong_time : IsDelivery (Err refusals.WrongTime)

-- "8-byte records": the one that was delivered is behind
unfoldable pub next_at : (queued at : ℕ) → ℕ
next_at queued at = elim (eqb queued 0) [ true ↦ at + 8 | false ↦ at ]

-- "accepted steps": a turn that goes on is one, unless it delivered a record
unfoldable pub next_steps : (queued steps : ℕ) → ℕ
next_steps queued steps = elim (eqb queued 0) [ true ↦ steps | false ↦ suc steps ]
