-- What a call does, and what a host reads of it, case by case. Assumes nothing: these are definitions.
use Rattle.std.specs.Prelude.{Bool, true, false, List, [], ◌∷◌, ℕ, ◌-◌, length, get_or, ℤ, pos}
use Rattle.job.specs.Bounds.{parameter_limit}
use Rattle.job.specs.Test.{padded}
use Rattle.model.specs.Machine.InUse.{sweep}
use Rattle.model.specs.declared.record.Machine.{Machine}
use Rattle.model.specs.declared.reply.Refusal.{Refusal}
use Rattle.model.specs.declared.reply.Refusal.TheVariants as refusals
use Rattle.model.specs.declared.reply.Reply.{Reply}
use Rattle.model.specs.declared.reply.Reply.TheVariants as replies
use Rattle.model.specs.declared.reply.Outcome.{Outcome}

-- an accepted call, with the machine before blanking; or a refused one, by its number
pub data Effect : Type 0 where
  moves : Machine → Effect
  waits : Machine → Effect
  publishes : ℤ → Machine → Effect
  calls : (handle site : ℕ) → List ℤ → Machine → Effect
  refuses : (number : ℕ) → Effect

-- document 01's number for each case of the enum; 15 is document 02's
unfoldable pub number_of : Refusal → ℕ
number_of refusals.NoToken = 9
number_of refusals.TokenLimit = 10
number_of refusals.CellLimit = 11
number_of refusals.NotOpen = 12
number_of refusals.CallLimit = 13
number_of refusals.Rule = 14
number_of refusals.WrongTime = 15

-- the case that a number from 9 to 15 is handed back as. (Definitions refuse with no other number.)
abbrev pub refusal_table : List Refusal
refusal_table =
    refusals.NoToken
    ∷ refusals.TokenLimit
    ∷ refusals.CellLimit
    ∷ refusals.NotOpen
    ∷ refusals.CallLimit
    ∷ refusals.Rule
    ∷ refusals.WrongTime
    ∷ []

abbrev pub refusal_of : ℕ → Refusal
refusal_of n = get_or refusal_table (n - 9) refusals.Rule

-- the values beside a reply: the call's in order, then zeros (docs/DECISIONS.md, "The values beside a reply")
abbrev pub report_values : List ℤ → List ℤ
report_values vs = padded (pos 0) parameter_limit vs

unfoldable pub accepted : Reply → List ℤ → Machine → Outcome
accepted r vs m = record { reply = r; values = report_values vs; machine = sweep m }

-- the outcome of a call on the machine `before`: an accepted one ends in `sweep`; "a refusal leaves machine and dag as before the call"
unfoldable pub outcome : (before : Machine) → Effect → Outcome
outcome before (moves m) = accepted replies.Done [] m
outcome before (waits m) = accepted replies.Waits [] m
outcome before (publishes v m) = accepted (replies.Published v) [] m
outcome before (calls h s vs m) = accepted (replies.Called h s (length vs)) vs m
outcome before (refuses n) = record { reply = replies.Refused (refusal_of n); values = report_values []; machine = before }

-- the test holds, or the call is refused
unfoldable pub unless : Bool → (number : ℕ) → Effect → Effect
unless true n e = e
unless false n e = refuses n

unfoldable pub is_refused : Reply → Bool
is_refused replies.Done = false
is_refused replies.Waits = false
is_refused (replies.Published v) = false
is_refused (replies.Called h s n) = false
is_refused (replies.Refused r) = true
