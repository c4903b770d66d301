-- A loop in tail position runs in bounded tables, stated. Its proof is another file's. Assumes nothing: these are definitions.
use Rattle.std.specs.Prelude.{◌≡◌, true, List, ℕ, ◌<◌, ◌≤◌}
use Rattle.job.specs.Syntax.{Program}
use Rattle.job.specs.Read.{read_table, accepted}
use Rattle.job.specs.Construct.{construct}
use Rattle.model.specs.Machine.Limits.{Limits, limits}
use Rattle.model.specs.Machine.InUse.{tokens_used, cells_used, marked}
use Rattle.model.specs.Machine.Reply.{refusal_of}
use Rattle.model.specs.Run.Call.{Call, step, runner, outcome_of, machine_after, started}
use Rattle.model.specs.declared.record.Machine.{Machine}
use Rattle.model.specs.declared.reply.Refusal.{Refusal}
use Rattle.model.specs.declared.reply.Reply.{Reply}
use Rattle.model.specs.declared.reply.Reply.TheVariants as replies
use Rattle.loops.specs.Looping.{loops}
use Rattle.loops.specs.Needed.{tokens_needed, cells_needed}

-- the record after some calls of a run of a program's table
abbrev pub record_after : Limits → Program → List Call → Machine
record_after lim p calls = machine_after runner lim (construct p) (started runner lim (construct p)) calls

-- the reply to one more call
abbrev pub reply_after : Limits → Program → List Call → Call → Reply
reply_after lim p calls c = (outcome_of runner lim (construct p) (record_after lim p calls) c).reply

-- At no moment of a run are more tokens or cells in use than the table says, however long the run and whatever is picked and answered when:
-- with any numbers of tokens, cells and calls, if there is a token
abbrev pub InUseBounded : (top : ℕ) → Program → Type 0
InUseBounded top p =
    (t c k : ℕ) → 1 ≤ t → (calls : List Call)
    → (marked (tokens_used (record_after (limits t c k) p calls)) ≤ tokens_needed top p)
    × (marked (cells_used (record_after (limits t c k) p calls)) ≤ cells_needed p)

-- So in tables of that size no call of a run is refused with 10 or 11
abbrev pub NeverFull : (top : ℕ) → Program → Type 0
NeverFull top p =
    (t c k : ℕ) → 1 ≤ t → tokens_needed top p ≤ t → cells_needed p ≤ c → (calls : List Call) (next : Call)
    → (reply_after (limits t c k) p calls next ≡ replies.Refused (refusal_of 10) → ⊥)
    × (reply_after (limits t c k) p calls next ≡ replies.Refused (refusal_of 11) → ⊥)

-- nor is a step that takes a token of the queue refused at all, but with 13: house order goes on while a token is ready and outside calls
-- are left. (With no place for a cell nothing lawful can be said: docs/DECISIONS.md, "Sizes and limits".)
abbrev pub GoesOn : (top : ℕ) → Program → Type 0
GoesOn top p =
    (t c k : ℕ) → 1 ≤ t → 1 ≤ c → tokens_needed top p ≤ t → cells_needed p ≤ c → (calls : List Call) (place : ℕ)
    → place < (record_after (limits t c k) p calls).queued
    → (r : Refusal) → reply_after (limits t c k) p calls (step place) ≡ replies.Refused r → r ≡ refusal_of 13

-- of every accepted table whose definitions loop in tail position, by some ranks
pub record Bounded : Type 0 where
  pub in_use : (table : List ℕ) (p : Program) → read_table table ≡ accepted p → (rank : ℕ → ℕ) (top : ℕ) → loops rank top p ≡ true
      → InUseBounded top p
  pub never-full : (table : List ℕ) (p : Program) → read_table table ≡ accepted p → (rank : ℕ → ℕ) (top : ℕ) → loops rank top p ≡ true
      → NeverFull top p
  pub goes_on : (table : List ℕ) (p : Program) → read_table table ≡ accepted p → (rank : ℕ → ℕ) (top : ℕ) → loops rank top p ≡ true
      → GoesOn top p
