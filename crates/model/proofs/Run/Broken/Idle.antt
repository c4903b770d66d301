-- The middle part of demand 3 is false of the machine whose steps do nothing. For the goal signal() the list of one publishing is allowed;
-- but only a step publishes, so that a run of this machine, with whatever limits, shows answers and clock moves alone. Assumes nothing.
use mathlib.Core.Path.{◌≡◌, refl, ap}
use mathlib.Core.Bool.{Bool, true, false}
use mathlib.Core.List.{List, [], ◌∷◌, ◌++◌}
use Prim.Native.Nat.{ℕ}
use native.Mathlib.Omega.{arith}
use lib.IntN.{ℤ, pos}
use Rattle.job.specs.Number.{Signed32}
use Rattle.job.specs.Test.{◌or◌, for_some}
use Rattle.job.specs.Encode.{encode}
use Rattle.job.specs.Node.{Dag}
use Rattle.job.specs.Construct.{construct}
use Rattle.model.specs.Machine.Limits.{Limits}
use Rattle.model.specs.Machine.Reply.{report_values, is_refused}
use Rattle.model.specs.Machine.Start as Start
use Rattle.model.specs.Machine.Answer as Answer
use Rattle.model.specs.Machine.Clock as Clock
use Rattle.calculus.specs.Event.{Event}
use Rattle.calculus.specs.Allowed.{Allowed}
use Rattle.calculus.specs.Meaning.{meaning}
use Rattle.model.specs.Run.Call.{Call, Runner, outcome_of, events_of, events_from}
use Rattle.model.specs.Run.Demand3.{Middle}
use Rattle.model.specs.declared.record.Machine.{Machine}
use Rattle.model.specs.declared.reply.Reply.{Reply}
use Rattle.model.specs.declared.reply.Reply.TheVariants as replies
use Rattle.model.specs.declared.reply.Outcome.{Outcome}
use Rattle.job.proofs.Test.{clash}
use Rattle.calculus.proofs.Computing.{meant, rewritten}
use Rattle.calculus.proofs.Search.{searching, allowed}
use Rattle.calculus.proofs.Programs.{one-signal}
use Rattle.model.proofs.Run.Computing.{computing}

-- every step is accepted, and leaves the machine as it was
unfoldable pub idle_step : Limits → Dag → Machine → (place : ℕ) → Outcome
idle_step lim d m place = record { reply = replies.Done; values = report_values []; machine = m }

abbrev pub idle : Runner
idle = record { start = Start.start; step = idle_step; answer = Answer.answer; advance = Clock.advance }

is_publishing : Event → Bool
is_publishing (Event.publish v) = true
is_publishing (Event.call h s vs) = false
is_publishing (Event.answer h v) = false
is_publishing (Event.move time) = false

-- what an answer or a clock move shows, in front of others
module _ (r : Reply) (vs : List ℤ) (es : List Event) (rest : for_some is_publishing es ≡ false) where
  answer-shows : (h : ℕ) (v : ℤ) (fits : Signed32 v) → for_some is_publishing (events_of (Call.answer h v fits) r vs ++ es) ≡ false
  unfolding events_of for_some ◌or◌ is_publishing
  answer-shows h v fits = go (is_refused r) refl
    where
      go : (b : Bool) → is_refused r ≡ b → for_some is_publishing (events_of (Call.answer h v fits) r vs ++ es) ≡ false
      go true e = rw (e, events_of) rest
      go false e = rw (e, events_of) rest

  move-shows : (time : ℕ) → for_some is_publishing (events_of (Call.advance time) r vs ++ es) ≡ false
  unfolding events_of for_some ◌or◌ is_publishing
  move-shows time = go (is_refused r) refl
    where
      go : (b : Bool) → is_refused r ≡ b → for_some is_publishing (events_of (Call.advance time) r vs ++ es) ≡ false
      go true e = rw (e, events_of) rest
      go false e = rw (e, events_of) rest

module _ (lim : Limits) (d : Dag) where
  never-publishes : (calls : List Call) (m : Machine) → for_some is_publishing (events_from idle lim d m calls) ≡ false
  unfolding events_from events_of outcome_of idle_step for_some
  never-publishes [] m = refl
  never-publishes (Call.step place ∷ calls) m = never-publishes calls m
  never-publishes (Call.answer h v fits ∷ calls) m =
      let o : Outcome = Answer.answer lim d m h v in
      answer-shows o.reply o.values _ (never-publishes calls o.machine) h v fits
  never-publishes (Call.advance time ∷ calls) m =
      let o : Outcome = Clock.advance lim d m time in
      move-shows o.reply o.values _ (never-publishes calls o.machine) time

-- signal() publishes 0
signal-published : Allowed (meaning one-signal) (Event.publish (pos 0) ∷ [])
unfolding meant rewritten searching
signal-published = allowed (meaning one-signal) 20 refl

pub idle-is-incomplete : Middle idle → ⊥
unfolding computing is_publishing
idle-is-incomplete middle =
    let m = middle (encode one-signal) one-signal refl (Event.publish (pos 0) ∷ []) signal-published in
    let shown = m.3 m.0 m.1 m.2 (omega arith) (omega arith) (omega arith) in
    clash (ap (for_some is_publishing) shown.3) (never-publishes _ (construct one-signal) shown.1 _)
