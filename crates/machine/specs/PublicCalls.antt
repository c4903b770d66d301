-- What a public call gives, from the words that it is lent, the words of the dag and its arguments alone. Assumes nothing: these are
-- definitions.
use Rattle.std.specs.Prelude.{◌≡◌, true, false, List, ℕ, ℤ}
use Rattle.job.specs.Words.{dag_of}
use Rattle.model.specs.Machine.Answer as Answer
use Rattle.model.specs.Machine.Clock as Clock
use Rattle.model.specs.Machine.Limits.{paper}
use Rattle.model.specs.Machine.Reply.{outcome, refuses, is_refused}
use Rattle.model.specs.Machine.Start as Start
use Rattle.model.specs.Machine.Step as Step
use Rattle.model.specs.declared.reply.Outcome.{Outcome}
use Rattle.model.specs.declared.reply.Reply.{Reply}
use Rattle.model.specs.declared.reply.Report.{Report}
use Rattle.record.specs.LayoutDecoded.{machine_of}
use Rattle.record.specs.Layout.{words_of}
use Rattle.coded.specs.IsRecord.{is_record}

-- a reply, the values beside it, and the words of the record after the call
pub record Result : Type 0 where
  pub reply : Reply
  pub values : List ℤ
  pub words : List ℕ

-- "A refusal leaves machine and dag as before the call": every word stays
unfoldable pub after : (before : List ℕ) → Outcome → Result
after ws o =
    record { reply = o.reply; values = o.values; words = elim (is_refused o.reply) [ true ↦ ws | false ↦ words_of o.machine ] }

-- words that are no record's break the index rules: 14
unfoldable pub of_record : List ℕ → Outcome → Outcome
of_record ws o = elim (is_record ws) [ true ↦ o | false ↦ outcome (machine_of ws) (refuses 14) ]

-- "The start tests 14"
unfoldable pub start_on : (dag ws : List ℕ) → Result
start_on dag ws = after ws (Start.start paper (dag_of dag))

-- "A step tests 14, 9, then 10, 11 or 13"
unfoldable pub step_on : (dag ws : List ℕ) → (place : ℕ) → Result
step_on dag ws place = after ws (of_record ws (Step.step paper (dag_of dag) (machine_of ws) place))

-- "An answer tests 14, 12"
unfoldable pub answer_on : (dag ws : List ℕ) → (handle : ℕ) → (value : ℤ) → Result
answer_on dag ws handle v = after ws (of_record ws (Answer.answer paper (dag_of dag) (machine_of ws) handle v))

-- document 02, request 1: "Checks: 15, .. after 14"
unfoldable pub advance_on : (dag ws : List ℕ) → (time : ℕ) → Result
advance_on dag ws time = after ws (of_record ws (Clock.advance paper (dag_of dag) (machine_of ws) time))

-- a call's report and the words after it are these
pub record HasResult (g : Result) (r : Report) (ws : List ℕ) : Type 0 where
  pub reply : r.reply ≡ g.reply
  pub values : r.values ≡ g.values
  pub words : ws ≡ g.words
