-- The calls of a run, the run, and its event list. Assumes nothing: these are definitions.
use Rattle.std.specs.Prelude.{Bool, true, false, List, [], ◌∷◌, ◌++◌, ℕ, take, ℤ}
use Rattle.job.specs.Number.{Signed32}
use Rattle.job.specs.Node.{Dag}
use Rattle.model.specs.Machine.Limits.{Limits}
use Rattle.model.specs.Machine.Reply.{is_refused}
use Rattle.model.specs.Machine.Start as Start
use Rattle.model.specs.Machine.Step as Step
use Rattle.model.specs.Machine.Answer as Answer
use Rattle.model.specs.Machine.Clock as Clock
use Rattle.calculus.specs.Event.{Event}
use Rattle.model.specs.declared.record.Machine.{Machine}
use Rattle.model.specs.declared.reply.Reply.{Reply}
use Rattle.model.specs.declared.reply.Reply.TheVariants as replies
use Rattle.model.specs.declared.reply.Outcome.{Outcome}

-- "steps, each with the queue place it picks, and answers, each with handle and value" (docs/DECISIONS.md, "A call of a run")
pub data Call : Type 0 where
  step : (place : ℕ) → Call
  answer : (handle : ℕ) (v : ℤ) → Signed32 v → Call
  -- document 02, request 1: "A run's calls now hold clock moves"
  advance : (time : ℕ) → Call

-- what runs: the calls of a machine. Demand 3 is stated over these, so that it can be tried on wrong ones
pub record Runner : Type 0 where
  pub start : Limits → Dag → Outcome
  pub step : Limits → Dag → Machine → (place : ℕ) → Outcome
  pub answer : Limits → Dag → Machine → (handle : ℕ) → (value : ℤ) → Outcome
  pub advance : Limits → Dag → Machine → (time : ℕ) → Outcome

-- the machine of document 01, with the clock of document 02
abbrev pub runner : Runner
runner = record { start = Start.start; step = Step.step; answer = Answer.answer; advance = Clock.advance }

-- what a call and its reply give: "an outside call gives handle, site and parameter values, a publish step its value,
-- an accepted answer its handle and value; other accepted steps and all refused calls give nothing"; document 02, request 1: "an accepted
-- [clock move] is an event (its time)"
unfoldable pub events_of : Call → Reply → (values : List ℤ) → List Event
events_of (step place) replies.Done vs = []
events_of (step place) replies.Waits vs = []
events_of (step place) (replies.Published v) vs = Event.publish v ∷ []
events_of (step place) (replies.Called h s n) vs = Event.call h s (take n vs) ∷ []
events_of (step place) (replies.Refused r) vs = []
events_of (answer h v fits) r vs = elim (is_refused r) [ true ↦ [] | false ↦ Event.answer h v ∷ [] ]
events_of (advance time) r vs = elim (is_refused r) [ true ↦ [] | false ↦ Event.move time ∷ [] ]

module _ (R : Runner) (lim : Limits) (d : Dag) where
  unfoldable pub outcome_of : Machine → Call → Outcome
  outcome_of m (step place) = R.step lim d m place
  outcome_of m (answer h v fits) = R.answer lim d m h v
  outcome_of m (advance time) = R.advance lim d m time

  -- "each later one [gets] the record that the call before returned, or left when refused"
  unfoldable pub machine_after : Machine → List Call → Machine
  machine_after m [] = m
  machine_after m (c ∷ cs) = machine_after (outcome_of m c).machine cs

  -- document 01: event list. "read from calls and replies alone, in order"
  unfoldable pub events_from : Machine → List Call → List Event
  events_from m [] = []
  events_from m (c ∷ cs) =
      let o = outcome_of m c in events_of c o.reply o.values ++ events_from o.machine cs

  unfoldable pub none_refused : Machine → List Call → Bool
  none_refused m [] = true
  none_refused m (c ∷ cs) =
      let o = outcome_of m c in elim (is_refused o.reply) [ true ↦ false | false ↦ none_refused o.machine cs ]

  -- "the start on its dag, then any list of calls"
  abbrev pub started : Machine
  started = (R.start lim d).machine
