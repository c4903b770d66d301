-- Words that hold a machine record. Assumes nothing: these are definitions.
use Rattle.std.specs.Prelude.{◌≡◌, List, ℕ, length}
use Rattle.job.specs.Test.{padded}
use Rattle.model.specs.Machine.Blank.{token_at}
use Rattle.model.specs.Machine.Update.{queue_of, waits_of, timers_of}
use Rattle.model.specs.declared.record.Machine.{Machine}
use Rattle.record.specs.Layout.{words_of}

-- tables, orders and bindings are as long as the paper says
pub record Shaped (m : Machine) : Type 0 where
  pub tokens : length m.tokens ≡ 64
  pub cells : length m.cells ≡ 32
  pub queue : length m.queue ≡ 64
  pub waits : length m.waits ≡ 64
  pub timers : length m.timers ≡ 64
  pub binds : (p : ℕ) → length (token_at m.tokens p).binds ≡ 8

-- the words are those of the record
pub record Codes (ws : List ℕ) (m : Machine) : Type 0 where
  pub words : ws ≡ words_of m
  pub shaped : Shaped m

-- an order is the first numbers of its array; what stands behind them is 0
pub record Ordered (m : Machine) : Type 0 where
  pub queue : m.queue ≡ padded 0 (length m.tokens) (queue_of m)
  pub queued : m.queued ≡ length (queue_of m)
  pub waits : m.waits ≡ padded 0 (length m.tokens) (waits_of m)
  pub waiting : m.waiting ≡ length (waits_of m)
  pub timers : m.timers ≡ padded 0 (length m.tokens) (timers_of m)
  pub timed : m.timed ≡ length (timers_of m)

-- .. and the record's orders are in order
pub record Holds (ws : List ℕ) (m : Machine) : Type 0 where
  pub codes : Codes ws m
  pub ordered : Ordered m
