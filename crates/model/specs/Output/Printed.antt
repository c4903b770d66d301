-- What a run of `orcrun` prints, said by the calls that it makes: their lines, then how it ends. Nothing here speaks of turns. Assumes
-- nothing: these are definitions.
use Rattle.std.specs.Prelude.{◌≡◌, true, false, List, [], ◌∷◌, ◌++◌, ℕ, suc, ◌<◌, ◌≤◌, length, take, drop}
use Rattle.job.specs.Number.{number, signed, Signed32}
use Rattle.job.specs.Node.{Dag}
use Rattle.model.specs.Machine.Limits.{Limits}
use Rattle.model.specs.Machine.Reply.{is_refused}
use Rattle.model.specs.Output.Line.{Line, end, limit, short}
use Rattle.model.specs.Output.Orcrun.{reported_lines, clock_handle}
use Rattle.model.specs.Run.Call.{Call, step, answer, advance, runner, outcome_of, machine_after}
use Rattle.model.specs.declared.record.Machine.{Machine}

module _ (lim : Limits) (d : Dag) where
  -- the lines of calls, one after another
  unfoldable pub call_lines : Machine → List Call → List Line
  call_lines m [] = []
  call_lines m (c ∷ cs) = let o = outcome_of runner lim d m c in reported_lines o.reply o.values ++ call_lines o.machine cs

  -- how many of the calls are accepted steps
  unfoldable pub accepted_steps : Machine → List Call → ℕ
  accepted_steps m [] = 0
  accepted_steps m (step place ∷ cs) =
      let o = outcome_of runner lim d m (step place) in
      let rest = accepted_steps o.machine cs in
      elim (is_refused o.reply) as (λ b. ℕ) [ true ↦ rest | false ↦ suc rest ]
  accepted_steps m (answer h v fits ∷ cs) = accepted_steps (outcome_of runner lim d m (answer h v fits)).machine cs
  accepted_steps m (advance time ∷ cs) = accepted_steps (outcome_of runner lim d m (advance time)).machine cs

  -- the calls that `orcrun` makes: "it runs house order; with the queue empty it delivers a record", handle and signed value; what is left
  -- of the records' bytes behind them
  pub data HouseCalls : Machine → (bytes : List ℕ) → List Call → (left : List ℕ) → Type 0 where
    none : {m : Machine} {bytes : List ℕ} → HouseCalls m bytes [] bytes
    steps : {m : Machine} {bytes left : List ℕ} {cs : List Call} → 0 < m.queued
        → is_refused (outcome_of runner lim d m (step 0)).reply ≡ false
        → HouseCalls (outcome_of runner lim d m (step 0)).machine bytes cs left → HouseCalls m bytes (step 0 ∷ cs) left
    delivers : {m : Machine} {bytes left : List ℕ} {cs : List Call} (fits : Signed32 (signed (number (take 4 (drop 4 bytes)))))
        → m.queued ≡ 0 → 8 ≤ length bytes → (number (take 4 bytes) ≡ clock_handle → ⊥)
        → HouseCalls (outcome_of runner lim d m (answer (number (take 4 bytes)) (signed (number (take 4 (drop 4 bytes)))) fits)).machine
        (drop 8 bytes) cs left
        → HouseCalls m bytes (answer (number (take 4 bytes)) (signed (number (take 4 (drop 4 bytes)))) fits ∷ cs) left
    -- document 02, request 1: "a record with handle 4294967295 names the time"
    ticks : {m : Machine} {bytes left : List ℕ} {cs : List Call}
        → m.queued ≡ 0 → 8 ≤ length bytes → number (take 4 bytes) ≡ clock_handle
        → HouseCalls (outcome_of runner lim d m (advance (number (take 4 (drop 4 bytes))))).machine (drop 8 bytes) cs left
        → HouseCalls m bytes (advance (number (take 4 (drop 4 bytes))) ∷ cs) left

  -- how a run ends, after so many accepted steps and with so many bytes left: the lines before the last
  pub data Ends (most : ℕ) (m : Machine) (steps bytes : ℕ) : List Line → Type 0 where
    -- "a refused step ends the run"
    refused : 0 < m.queued → steps < most → is_refused (outcome_of runner lim d m (step 0)).reply ≡ true
        → Ends most m steps bytes (call_lines m (step 0 ∷ []))
    -- "with 100,000 steps made and a token ready: `limit`"
    limited : 0 < m.queued → steps ≡ most → Ends most m steps bytes (limit ∷ [])
    -- "a trailing piece prints `short`"
    shortened : m.queued ≡ 0 → 0 < bytes → bytes < 8 → Ends most m steps bytes (short ∷ [])
    finished : m.queued ≡ 0 → bytes ≡ 0 → Ends most m steps bytes []

  -- The lines of a run from a machine on, with these bytes of records: those of its calls, how it ends, and "last .. `end` and accepted
  -- steps"
  pub record Printed (most : ℕ) (m : Machine) (bytes : List ℕ) (lines : List Line) : Type 0 where
    pub calls : List Call
    pub left : List ℕ
    pub before : List Line
    pub made : HouseCalls m bytes calls left
    pub few : accepted_steps m calls ≤ most
    pub ends : Ends most (machine_after runner lim d m calls) (accepted_steps m calls) (length left) before
    pub prints : lines ≡ call_lines m calls ++ (before ++ (end (accepted_steps m calls) ∷ []))
