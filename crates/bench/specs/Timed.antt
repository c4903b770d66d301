-- What the calls that are timed give, from their arguments alone. Assumes nothing: these are definitions.
use Rattle.std.specs.Prelude.{true, false, List, ℕ, zero, suc, ltb, pos, length, get_or}
use Rattle.job.specs.Construct.{construct}
use Rattle.job.specs.Read.{Answer, accepted, declined}
use Rattle.job.specs.Words.{dag_of}
use Rattle.model.specs.Machine.Limits.{paper}
use Rattle.model.specs.Machine.Start.{start_machine}
use Rattle.record.specs.Layout.{words_of}
use Rattle.record.specs.LayoutDecoded.{machine_of}
use Rattle.machine.specs.PublicCalls.{start_on, step_on, answer_on}

-- the number of nodes; 0 for a refused table
unfoldable pub answer_nodes : Answer → ℕ
answer_nodes (accepted p) = length (construct p).nodes
answer_nodes (declined n e) = 0

-- the words of a start at the goal of a dag, which is not tested
unfoldable pub words_of_start : (dag : List ℕ) → List ℕ
words_of_start dag = words_of (start_machine paper (dag_of dag).goal)

-- how many calls were made, and the words of the record after them
pub record Made : Type 0 where
  pub count : ℕ
  pub words : List ℕ

module _ (dag handles : List ℕ) where
  -- at most so many calls, behind `count` others: "House order takes place 0"; with the queue empty an answer of 7 to the next handle, if
  -- there is one
  unfoldable pub calls_from : (most count at : ℕ) → List ℕ → Made
  calls_from zero count at ws = record { count = count; words = ws }
  calls_from (suc most) count at ws =
      elim (ltb 0 (machine_of ws).queued) [
        | true ↦ calls_from most (suc count) at (step_on dag ws 0).words
        | false ↦
            elim (ltb at (length handles)) [
              | true ↦ calls_from most (suc count) (suc at) (answer_on dag ws (get_or handles at 0) (pos 7)).words
              | false ↦ record { count = count; words = ws }
            ]
      ]

  -- the start on the words that there are, then at most so many calls
  unfoldable pub one_round : (most : ℕ) → List ℕ → Made
  one_round most ws = calls_from most 0 0 (start_on dag ws).words

  unfoldable pub rounds_from : (most rounds : ℕ) → Made → Made
  rounds_from most zero made = made
  rounds_from most (suc rounds) made = rounds_from most rounds (one_round most made.words)
