-- A choke in the steps of the code: the rows one by one, then the orders. Assumes nothing: these are definitions.
use Rattle.std.specs.Prelude.{◌++◌, ℕ, ◌+◌, ◌<◌, ◌≤◌}
use Rattle.job.specs.Test.{select}
use Rattle.model.specs.Machine.Blank.{token_at}
use Rattle.model.specs.Machine.State.{is_ready, is_waiting, is_due}
use Rattle.model.specs.Machine.Update.{with_orders, with_timers, queue_of, waits_of, timers_of}
use Rattle.model.specs.Machine.Step.{choke_token}
use Rattle.model.specs.declared.record.Machine.{Machine}
use Rattle.sites.specs.Rows.{rows_mapped}

-- the record after the first p rows
abbrev pub rows_choked : (c p : ℕ) → Machine → Machine
rows_choked c p m = rows_mapped (choke_token m.cells c) p m

-- the orders by the states that the tokens have: those of both that are ready, the queue's first; those that wait
abbrev pub reordered : Machine → Machine
reordered m =
    with_orders
    (select (λ (p : ℕ). is_ready (token_at m.tokens p).state) (queue_of m ++ waits_of m))
    (select (λ (p : ℕ). is_waiting (token_at m.tokens p).state) (waits_of m))
    m

-- the order of call by the states that the tokens have: those that are due later
abbrev pub still_due : Machine → Machine
still_due m = with_timers (select (λ (p : ℕ). is_due (token_at m.tokens p).state) (timers_of m)) m

-- the queue has a name at the place, and room for those that wait
pub record ChokeFacts (m : Machine) (place : ℕ) : Type 0 where
  pub queued : place < m.queued
  pub room : m.queued + m.waiting ≤ 64
