-- Document 02, request 1: a clock move. Assumes nothing: these are definitions.
use Rattle.std.specs.Prelude.{Bool, true, false, not, List, [], ◌∷◌, ◌++◌, map, ℕ, leb, pos, Some}
use Rattle.job.specs.Test.{◌and◌, select}
use Rattle.job.specs.Site.{last_time}
use Rattle.job.specs.Node.{Dag}
use Rattle.model.specs.Machine.Limits.{Limits}
use Rattle.model.specs.Machine.Blank.{token_at}
use Rattle.model.specs.Machine.Rules.{rules_hold}
use Rattle.model.specs.Machine.State.{is_due_by, due_time_of}
use Rattle.model.specs.Machine.Reply.{moves, unless, outcome}
use Rattle.model.specs.Machine.Update.{with_value, with_state, with_tables, with_orders, with_timers, with_clock}
use Rattle.model.specs.Machine.Update.{queue_of, waits_of, timers_of}
use Rattle.model.specs.declared.token.State.TheVariants as states
use Rattle.model.specs.declared.token.Token.{Token}
use Rattle.model.specs.declared.record.Machine.{Machine}
use Rattle.model.specs.declared.reply.Outcome.{Outcome}

-- "those now due, with value 0": a token at the new time
unfoldable pub woken_by : (time : ℕ) → Token → Token
woken_by time t =
    elim (is_due_by time t.state) [
      | true ↦ with_state states.Ready (with_value (Some (pos 0)) t)
      | false ↦ t
    ]

-- "by due time, then by order of call": places sorted by the time of each. One goes in front of those that are due no earlier: of equal
-- times the first called is first
module _ (time : ℕ → ℕ) where
  unfoldable pub insert_by_time : ℕ → List ℕ → List ℕ
  insert_by_time p [] = p ∷ []
  insert_by_time p (q ∷ l) = elim (leb (time p) (time q)) [ true ↦ p ∷ q ∷ l | false ↦ q ∷ insert_by_time p l ]

  unfoldable pub sort_by_time : List ℕ → List ℕ
  sort_by_time [] = []
  sort_by_time (p ∷ l) = insert_by_time p (sort_by_time l)

-- is the token at this place due by a time
unfoldable pub place_due_by : Machine → (time place : ℕ) → Bool
place_due_by m time p = is_due_by time (token_at m.tokens p).state

-- those that join the queue, and those that stay in the order of call
unfoldable pub joining : Machine → (time : ℕ) → List ℕ
joining m time = sort_by_time (λ p. due_time_of (token_at m.tokens p).state) (select (place_due_by m time) (timers_of m))

unfoldable pub staying : Machine → (time : ℕ) → List ℕ
staying m time = select (λ p. not (place_due_by m time p)) (timers_of m)

-- "A clock move adds those now due, with value 0, by due time, then by order of call": at the back of the queue
unfoldable pub after_advance : Machine → (time : ℕ) → Machine
after_advance m time =
    with_clock time
    (with_timers (staying m time)
    (with_orders (queue_of m ++ joining m time) (waits_of m) (with_tables (map (woken_by time) m.tokens) m.cells m)))

-- "15, the clock would go back or leave its range": "0 to 2147483647"
unfoldable pub takes_time : Machine → (time : ℕ) → Bool
takes_time m time = leb m.clock time and leb time last_time

-- "Checks: 15, .. after 14"
unfoldable pub advance : Limits → Dag → Machine → (time : ℕ) → Outcome
advance lim d m time =
    outcome m (unless (rules_hold lim d m) 14 (unless (takes_time m time) 15 (moves (after_advance m time))))
