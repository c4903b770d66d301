-- A clock move in the steps of the code: the first of those due earliest wakes, until none is due. Assumes nothing: these are definitions.
use Rattle.std.specs.Prelude.{Some, ◌≡◌, ◌++◌, map, ℕ, ◌+◌, ◌<◌, ◌≤◌, pos, get_or, Option, MatchOption}
use Rattle.job.specs.Test.{occurrences, once, without}
use Rattle.model.specs.Machine.Blank.{token_at}
use Rattle.model.specs.Machine.Clock.{woken_by, joining, staying}
use Rattle.model.specs.Machine.State.{is_due, due_time_of}
use Rattle.model.specs.Machine.Update.{with_value, with_state, with_tables, with_orders, with_timers}
use Rattle.model.specs.Machine.Update.{queue_of, waits_of, timers_of, put, enqueue}
use Rattle.model.specs.declared.token.State.TheVariants as states
use Rattle.model.specs.declared.token.Token.{Token}
use Rattle.model.specs.declared.record.Machine.{Machine}

-- the order of call names each token that is due later once, and the queue has room for all of them
pub record ClockFacts (m : Machine) : Type 0 where
  pub named : (p : ℕ) → occurrences p (timers_of m) ≡ once (is_due (token_at m.tokens p).state)
  pub room : m.queued + m.timed ≤ 64

-- the due time of the token that the order of call names at an index
abbrev pub due_at : Machine → (i : ℕ) → ℕ
due_at m i = due_time_of (token_at m.tokens (get_or (timers_of m) i 0)).state

-- of n due times, i is the first of the earliest, and not after a time
pub record FirstDue (due : ℕ → ℕ) (n time i : ℕ) : Type 0 where
  pub inside : i < n
  pub in_time : due i ≤ time
  pub least : (j : ℕ) → j < n → due i ≤ due j
  pub before : (j : ℕ) → j < i → due i < due j

-- .. and there is none where all are after it
abbrev pub Earliest : (due : ℕ → ℕ) (n time : ℕ) → Option ℕ → Type 0
Earliest due n time found = MatchOption found ((j : ℕ) → j < n → time < due j) (λ i. FirstDue due n time i)

-- ready, with value 0
abbrev pub awake : Token → Token
awake t = with_state states.Ready (with_value (Some (pos 0)) t)

-- the token that the order of call names at an index leaves it for the queue
abbrev pub wake_at : (i : ℕ) → Machine → Machine
wake_at i m =
    let p = get_or (timers_of m) i 0 in
    enqueue p (put p (awake (token_at m.tokens p)) (with_timers (without i (timers_of m)) m))

-- a clock move, but for the clock
abbrev pub all_woken : Machine → (time : ℕ) → Machine
all_woken m time =
    with_timers (staying m time)
    (with_orders (queue_of m ++ joining m time) (waits_of m) (with_tables (map (woken_by time) m.tokens) m.cells m))
