-- What is known where a token acts, and what its act leaves. Assumes nothing: these are definitions.
use Rattle.std.specs.Prelude.{◌≡◌, Bool, true, List, [], ℕ, ◌<◌, length, get_or, Some, Result, Ok, Err}
use Rattle.job.specs.Words.{dag_of}
use Rattle.model.specs.Machine.Blank.{token_at}
use Rattle.model.specs.Machine.InUse.{tokens_used}
use Rattle.model.specs.Machine.Limits.{paper}
use Rattle.model.specs.Machine.Reply.{report_values}
use Rattle.model.specs.Machine.Rules.{rules_hold}
use Rattle.model.specs.declared.record.Machine.{Machine}
use Rattle.model.specs.declared.reply.Outcome.{Outcome}
use Rattle.model.specs.declared.reply.Refusal.{Refusal}
use Rattle.model.specs.declared.reply.Reply.{Reply}
use Rattle.model.specs.declared.reply.Reply.TheVariants as replies
use Rattle.model.specs.declared.reply.Report.{Report}
use Rattle.model.specs.declared.token.State.TheVariants as states
use Rattle.record.specs.Holds.{Holds}
use Rattle.reach.specs.Marks.{MarksOf}
use Rattle.reach.specs.declared.used.Marks.{Marks}
use Rattle.sites.specs.Row.{row_of}
use Rattle.writes.specs.declared.actor.Actor.{Actor}

-- there is such a record
pub record SomeMachine (P : Machine → Type 0) : Type 0 where
  pub machine : Machine
  pub is : P machine

-- the words hold the record m, whose index rules hold, and the marks are its own
pub record Lawful (ws : List ℕ) (used : Marks) (dag : List ℕ) (m : Machine) : Type 0 where
  pub holds : Holds ws m
  pub rules : rules_hold paper (dag_of dag) m ≡ true
  pub marks : MarksOf m used
  pub size : length dag ≡ 12331

-- .. and the queue has a token at `place`
pub record QueueHasToken (ws : List ℕ) (used : Marks) (dag : List ℕ) (place : ℕ) (m : Machine) : Type 0 where
  pub lawful : Lawful ws used dag m
  pub queued : place < m.queued

-- .. the one that acts
pub record Taking (ws : List ℕ) (used : Marks) (dag : List ℕ) (actor : Actor) (m : Machine) : Type 0 where
  pub lawful : Lawful ws used dag m
  pub queued : actor.place < m.queued
  pub token : actor.token ≡ get_or m.queue actor.place 0

-- .. at its node's row, which is of this kind
pub record Acting (ws : List ℕ) (used : Marks) (dag : List ℕ) (actor : Actor) (k : ℕ) (m : Machine) : Type 0 where
  pub taking : Taking ws used dag actor m
  pub row : actor.row ≡ row_of (token_at m.tokens actor.token).node
  pub kind : get_or dag actor.row 0 ≡ k

-- every caller of a token in use is a frame: so it is in each record of a run
abbrev pub CallersAreFrames : Machine → Type 0
CallersAreFrames m =
    (i j : ℕ) → get_or (tokens_used m) i true ≡ true → (token_at m.tokens i).caller ≡ Some j
    → (token_at m.tokens j).state ≡ states.Frame

-- a call's report and the words after it are those of an outcome; the marks too, where callers are frames
pub record Gives (o : Outcome) (m : Machine) (ws : List ℕ) (used : Marks) (r : Report) : Type 0 where
  pub reply : r.reply ≡ o.reply
  pub values : r.values ≡ o.values
  pub holds : Holds ws o.machine
  pub marks : CallersAreFrames m → MarksOf o.machine used

-- a report without values
abbrev pub plain : Reply → Report
plain r = record { reply = r; values = report_values [] }

-- an answer's or a clock move's: it is done, or it is refused
abbrev pub call_report : Result Unit Refusal → Report
call_report (Ok done) = plain replies.Done
call_report (Err refusal) = plain (replies.Refused refusal)
