-- `orcrun`: from the bytes of its input to its lines. Assumes nothing: these are definitions.
use Rattle.std.specs.Prelude.{true, false, List, [], ◌∷◌, ◌++◌, ℕ, zero, suc, ◌+◌, length, take, drop, ltb, leb, eqb, ℤ}
use Rattle.job.specs.Number.{number, signed}
use Rattle.job.specs.Node.{Dag}
use Rattle.job.specs.Entry.{table_length}
use Rattle.job.specs.Read.{Answer, accepted, declined, read_table}
use Rattle.job.specs.Construct.{construct}
use Rattle.model.specs.Machine.Limits.{Limits, paper}
use Rattle.model.specs.Machine.Reply.{number_of, is_refused}
use Rattle.model.specs.Machine.Start.{start}
use Rattle.model.specs.Machine.Step.{step}
use Rattle.model.specs.Machine.Answer.{answer}
use Rattle.model.specs.Machine.Clock.{advance}
use Rattle.model.specs.Output.Line.{Line, call, publish, refused, table, end, limit, short, long, text_of_all}
use Rattle.model.specs.declared.record.Machine.{Machine}
use Rattle.model.specs.declared.reply.Reply.{Reply}
use Rattle.model.specs.declared.reply.Reply.TheVariants as replies
use Rattle.model.specs.declared.reply.Outcome.{Outcome}

-- the lines of a reply, with the values beside it
unfoldable pub reported_lines : Reply → (values : List ℤ) → List Line
reported_lines replies.Done vs = []
reported_lines replies.Waits vs = []
reported_lines (replies.Published v) vs = publish v ∷ []
reported_lines (replies.Called h s n) vs = call h s (take n vs) ∷ []
reported_lines (replies.Refused r) vs = refused (number_of r) ∷ []

-- where a run stands: the machine, the accepted steps, and the bytes not yet delivered
pub record Standing : Type 0 where
  pub machine : Machine
  pub steps : ℕ
  pub rest : List ℕ

-- a turn prints lines, and the run goes on or is over
pub data Turn : Type 0 where
  on : List Line → Standing → Turn
  over : List Line → Turn

-- document 02, request 1: "a record with handle 4294967295 names the time"
abbrev pub clock_handle : ℕ
clock_handle = 4294967295

-- a record, its handle and its value as a number below 4294967296: a clock move or an answer. (A negative value is a number above
-- 2147483647, so that a clock move to it is 15.)
unfoldable pub delivered : Limits → Dag → Machine → (handle value : ℕ) → Outcome
delivered lim d m h v = elim (eqb h clock_handle) [ true ↦ advance lim d m v | false ↦ answer lim d m h (signed v) ]

-- "with the queue empty it delivers a record": "handle and signed value, each little-endian"; a refused answer doesn't end the run, nor
-- does a refused clock move
unfoldable pub deliver_turn : Limits → Dag → Standing → Turn
deliver_turn lim d s =
    let o = delivered lim d s.machine (number (take 4 s.rest)) (number (take 4 (drop 4 s.rest))) in
    on (reported_lines o.reply o.values) (record { machine = o.machine; steps = s.steps; rest = drop 8 s.rest })

-- (docs/DECISIONS.md, "`short`") "A trailing piece prints `short`"; "last .. `end` and accepted steps"
unfoldable pub last_turn : Standing → Turn
last_turn s =
    elim (eqb (length s.rest) 0) [
      | true ↦ over (end s.steps ∷ [])
      | false ↦ over (short ∷ end s.steps ∷ [])
    ]

module _ (lim : Limits) (most : ℕ) (d : Dag) where
  -- (docs/DECISIONS.md, "`limit` before any refusal") "It runs house order"; "a refused step ends the run"; "with 100,000 steps made and a
  -- token ready: `limit`, then `end`"
  unfoldable pub step_turn : Standing → Turn
  step_turn s =
      elim (ltb s.steps most) [
        | false ↦ over (limit ∷ end s.steps ∷ [])
        | true ↦
            (let o = step lim d s.machine 0 in
            let ls = reported_lines o.reply o.values in
            elim (is_refused o.reply) [
              | true ↦ over (ls ++ (end s.steps ∷ []))
              | false ↦ on ls (record { machine = o.machine; steps = suc s.steps; rest = s.rest })
            ])
      ]

  unfoldable pub turn : Standing → Turn
  turn s =
      elim (eqb s.machine.queued 0) [
        | false ↦ step_turn s
        | true ↦ elim (leb 8 (length s.rest)) [ true ↦ deliver_turn lim d s | false ↦ last_turn s ]
      ]

  -- so many turns at most
  unfoldable pub turn_lines : ℕ → Standing → List Line
  turn_lines zero s = []
  turn_lines (suc n) s = elim (turn s) [ over ls ↦ ls | on ls s' ↦ ls ++ turn_lines n s' ]

-- each turn makes a step, or takes a record, or is the last. (An accepted table's start is accepted: its reply is not looked at.)
unfoldable pub run_lines : Limits → (most : ℕ) → Dag → List ℕ → List Line
run_lines lim most d rest =
    turn_lines lim most d (most + length rest + 1) (record { machine = (start lim d).machine; steps = 0; rest = rest })

unfoldable pub table_lines : Limits → (most : ℕ) → List ℕ → Answer → List Line
table_lines lim most rest (declined n e) = table n e ∷ []
table_lines lim most rest (accepted p) = run_lines lim most (construct p) rest

-- "at most 65,536 bytes (else the line `long` only): a table (the first 4 + 5N bytes, or all if there are fewer), then 8-byte records"
unfoldable pub input_lines : Limits → (most : ℕ) → List ℕ → List Line
input_lines lim most input =
    elim (leb (length input) 65536) [
      | false ↦ long ∷ []
      | true ↦ table_lines lim most (drop (table_length input) input) (read_table (take (table_length input) input))
    ]

-- the program: from the bytes of standard input to those of standard output
unfoldable pub orcrun : List ℕ → List ℕ
orcrun input = text_of_all (input_lines paper 100000 input)
