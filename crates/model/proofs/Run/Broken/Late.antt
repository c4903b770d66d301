-- The first part of demand 3 is false of the machine that takes an answer after its call was pruned: a handle that was given and is no
-- longer open is accepted, and changes nothing. In the run that document 01 prints, the answers (1, 42) and (0, 7) are then both taken, but
-- the 42 prunes call 0. Assumes nothing.
use mathlib.Core.Path.{◌≡◌, refl}
use mathlib.Core.Bool.{Bool, true, false}
use mathlib.Core.List.{List, [], ◌∷◌, ◌++◌}
use Prim.Native.Nat.{ℕ}
use native.Mathlib.Omega.{arith}
use lib.Dec.{ltb}
use lib.IntN.{ℤ, pos}
use Rattle.job.specs.Test.{◌and◌}
use Rattle.job.specs.Encode.{encode}
use Rattle.job.specs.Node.{Dag}
use Rattle.model.specs.Machine.Limits.{Limits}
use Rattle.model.specs.Machine.Reply.{report_values}
use Rattle.model.specs.Machine.Start as Start
use Rattle.model.specs.Machine.Step as Step
use Rattle.model.specs.Machine.Answer as Answer
use Rattle.model.specs.Machine.Clock as Clock
use Rattle.calculus.specs.Event.{Event}
use Rattle.model.specs.Run.Call.{Call, Runner, outcome_of, events_of, events_from}
use Rattle.model.specs.Run.Demand3.{First}
use Rattle.model.specs.declared.record.Machine.{Machine}
use Rattle.model.specs.declared.reply.Refusal.{Refusal}
use Rattle.model.specs.declared.reply.Refusal.TheVariants as refusals
use Rattle.model.specs.declared.reply.Reply.{Reply}
use Rattle.model.specs.declared.reply.Reply.TheVariants as replies
use Rattle.model.specs.declared.reply.Outcome.{Outcome}
use Rattle.calculus.proofs.Programs.{first-answer}
use Rattle.calculus.proofs.NotAllowed.{no-answer-to-pruned-call}
use Rattle.model.proofs.Run.Computing.{computing}
use Rattle.model.proofs.Run.Worked.{house, answering, events}

-- "12: answer to a handle that is not open"
unfoldable pub is_not_open : Refusal → Bool
is_not_open refusals.NoToken = false
is_not_open refusals.TokenLimit = false
is_not_open refusals.CellLimit = false
is_not_open refusals.NotOpen = true
is_not_open refusals.CallLimit = false
is_not_open refusals.Rule = false
is_not_open refusals.WrongTime = false

unfoldable pub says_not_open : Reply → Bool
says_not_open replies.Done = false
says_not_open replies.Waits = false
says_not_open (replies.Published v) = false
says_not_open (replies.Called h s n) = false
says_not_open (replies.Refused r) = is_not_open r

-- where document 01's machine refuses with 12 a handle that was given, this one says Done and leaves the machine as it was
unfoldable pub late_answer : Limits → Dag → Machine → (handle : ℕ) → (value : ℤ) → Outcome
late_answer lim d m h v =
    let o = Answer.answer lim d m h v in
    elim (says_not_open o.reply and ltb h m.calls) [
      | true ↦ record { reply = replies.Done; values = report_values []; machine = m }
      | false ↦ o
    ]

abbrev pub late : Runner
late = record { start = Start.start; step = Step.step; answer = late_answer; advance = Clock.advance }

-- where, let(x) waits, fork, both calls; the answer 42; choke, let(x), remove, publish; the late answer 7
abbrev late-calls : List Call
late-calls = house 5 ++ (answering 1 42 (omega arith) ∷ house 4 ++ (answering 0 7 (omega arith) ∷ []))

late-events :
    events late first-answer late-calls
    ≡ Event.call 0 16 (pos 5 ∷ []) ∷ Event.call 1 17 [] ∷ Event.answer 1 (pos 42) ∷ Event.publish (pos 42) ∷ Event.answer 0 (pos 7) ∷ []
unfolding computing outcome_of events_of events_from is_not_open says_not_open late_answer
late-events = refl

pub late-is-not-allowed : First late → ⊥
unfolding computing
late-is-not-allowed first =
    (no-answer-to-pruned-call (pos 7)).not-then
    (rw late-events at ((first (encode first-answer) first-answer refl 64 32 1000000 (omega arith)).1 late-calls))
