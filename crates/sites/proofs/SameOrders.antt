-- The orders that a record has, put in again, leave it as it is. Assumes nothing.
use mathlib.Core.Path.{◌≡◌, sym, ap₂, ◌∙◌}
use mathlib.Core.List.{List}
use Prim.Native.Nat.{ℕ}
use lib.ListN.{length}
use Rattle.job.specs.Test.{padded}
use Rattle.model.specs.Machine.Update.{with_orders, with_timers, queue_of, waits_of, timers_of}
use Rattle.model.specs.declared.record.Machine.{Machine}
use Rattle.record.specs.Holds.{Holds}

module _ {ws : List ℕ} {m : Machine} (h : Holds ws m) where
  made : (queue : List ℕ) (queued : ℕ) (waits : List ℕ) (waiting : ℕ) (timers : List ℕ) (timed : ℕ) → Machine
  made queue queued waits waiting timers timed =
      record {
        tokens = m.tokens;
        cells = m.cells;
        queue = queue;
        queued = queued;
        waits = waits;
        waiting = waiting;
        calls = m.calls;
        lasttoken = m.lasttoken;
        lastcell = m.lastcell;
        timers = timers;
        timed = timed;
        clock = m.clock;
      }

  pub orders-again : with_orders (queue_of m) (waits_of m) m ≡ m
  unfolding with_orders made
  orders-again =
      let o = h.ordered in
      ap₂ (λ a i. made a i (padded 0 (length m.tokens) (waits_of m)) (length (waits_of m)) m.timers m.timed) (sym o.queue)
      (sym o.queued)
      ∙ ap₂ (λ b j. made m.queue m.queued b j m.timers m.timed) (sym o.waits) (sym o.waiting)

  pub timers-again : with_timers (timers_of m) m ≡ m
  unfolding with_timers made
  timers-again = let o = h.ordered in ap₂ (made m.queue m.queued m.waits m.waiting) (sym o.timers) (sym o.timed)
