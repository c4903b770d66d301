-- A clock move keeps the facts: who wakes leaves the order of call for the queue, once, and whoever stays due is due after the new time. By
-- the cases of what becomes of a token. Assumes nothing.
use mathlib.Core.Path.{◌≡◌, refl, sym, ◌∙◌, ap, subst}
use mathlib.Core.Bool.{Bool, true, false}
use mathlib.Core.List.{List, ◌++◌, map}
use Prim.Native.Nat.{ℕ, ◌≤◌}
use native.Mathlib.Omega.{arith}
use lib.ListN.{length-map}
use Rattle.job.specs.Test.{occurrences, once}
use Rattle.job.specs.Site.{last_time}
use Rattle.job.specs.Node.{Dag}
use Rattle.model.specs.Machine.Limits.{Limits}
use Rattle.model.specs.Machine.Blank.{token_at}
use Rattle.model.specs.Machine.State.{is_ready, is_waiting, is_due, is_due_by}
use Rattle.model.specs.Machine.Update.{with_state, with_tables, with_orders, with_timers, with_clock, queue_of, waits_of}
use Rattle.model.specs.Machine.Clock.{woken_by, place_due_by, joining, staying, after_advance, takes_time}
use Rattle.model.specs.declared.token.State.{State}
use Rattle.model.specs.declared.token.State.TheVariants as states
use Rattle.model.specs.declared.token.Token.{Token}
use Rattle.model.specs.declared.record.Machine.{Machine}
use Rattle.job.proofs.Test.{clash, leb-le, and_right, occurrences-append}
use Rattle.model.proofs.Machine.WrittenTokens.{Woken, wakes, stays, woken-cases}
use Rattle.model.proofs.Machine.Clock.{woken-at, due-joins, due-leaves, later-stays, later-joins-not}
use Rattle.model.proofs.Keeps.NamedOnce.{Lines}
use Rattle.model.proofs.Keeps.Orders.{Orders, Timers, queue-is, waits-are, timers-are, orders-with, orders-timers, orders-clock}
use Rattle.model.proofs.Keeps.Orders.{timers-with, timers-clock}
use Rattle.model.proofs.Keeps.TableFacts.{tables-woken}
use Rattle.model.proofs.Keeps.Facts.{Facts}

-- a token that is due by a time is due, and so neither ready nor waiting
pub due-by-due : (time : ℕ) (s : State) → is_due_by time s ≡ true → (is_due s ≡ true) × (is_ready s ≡ false) × (is_waiting s ≡ false)
unfolding is_due_by is_due is_ready is_waiting
due-by-due time states.Blank e = clash e refl
due-by-due time states.Ready e = clash e refl
due-by-due time (states.Waiting c) e = clash e refl
due-by-due time (states.Called h) e = clash e refl
due-by-due time (states.Due d) e = (refl, refl, refl)
due-by-due time states.Frame e = clash e refl

module _ (m : Machine) (time : ℕ) {queue waits timers : List ℕ} (o : Timers m timers) (l : Lines m.tokens queue waits timers) where
  abbrev then : List Token
  then = map (woken_by time) m.tokens

  abbrev was : ℕ → Token
  was r = token_at m.tokens r

  -- a count that is right for what a token becomes
  counted : (of : State → Bool) (n r : ℕ) → n ≡ once (of (woken_by time (was r)).state) → n ≡ once (of (token_at then r).state)
  counted of n r h = h ∙ ap (λ (t : Token). once (of t.state)) (sym (woken-at time m.tokens r))

  ready-now : (r : ℕ) {u : Token} → Woken time (was r) u → occurrences r (queue ++ joining m time) ≡ once (is_ready u.state)
  unfolding place_due_by with_state is_ready
  ready-now r (wakes x) =
      let s = due-by-due time (was r).state x in
      let a = occurrences-append r queue (joining m time) in
      let b : occurrences r queue ≡ 0 = l.ready r ∙ ap once s.1 in
      let c : occurrences r (joining m time) ≡ 1 =
      due-joins m time r x ∙ (ap (occurrences r) (timers-are o) ∙ (l.due r ∙ ap once s.0)) in
      omega arith
  ready-now r (stays x) =
      let a = occurrences-append r queue (joining m time) in
      let b = l.ready r in
      let c = later-joins-not m time r x in
      omega arith

  waiting-now : (r : ℕ) {u : Token} → Woken time (was r) u → occurrences r waits ≡ once (is_waiting u.state)
  unfolding with_state is_waiting
  waiting-now r (wakes x) = l.waiting r ∙ ap once (due-by-due time (was r).state x).2
  waiting-now r (stays x) = l.waiting r

  due-now : (r : ℕ) {u : Token} → Woken time (was r) u → occurrences r (staying m time) ≡ once (is_due u.state)
  unfolding place_due_by with_state is_due
  due-now r (wakes x) = due-leaves m time r x
  due-now r (stays x) = later-stays m time r x ∙ (ap (occurrences r) (timers-are o) ∙ l.due r)

  pub lines-woken : Lines then (queue ++ joining m time) waits (staying m time)
  lines-woken =
      record {
        ready = λ r. counted is_ready (occurrences r (queue ++ joining m time)) r (ready-now r (woken-cases time (was r)));
        waiting = λ r. counted is_waiting (occurrences r waits) r (waiting-now r (woken-cases time (was r)));
        due = λ r. counted is_due (occurrences r (staying m time)) r (due-now r (woken-cases time (was r)));
      }

-- the orders after a clock move
module _ (m : Machine) (time : ℕ) where
  pub advanced-orders : Orders (after_advance m time) (queue_of m ++ joining m time) (waits_of m)
  unfolding after_advance
  advanced-orders = orders-clock (orders-timers (orders-with (queue_of m ++ joining m time) (waits_of m) _) (staying m time)) time

  pub advanced-timers : Timers (after_advance m time) (staying m time)
  unfolding after_advance
  advanced-timers = timers-clock (timers-with (staying m time) _) time

-- "15, the clock would .. leave its range"
pub takes-last : (m : Machine) (time : ℕ) → takes_time m time ≡ true → time ≤ last_time
unfolding takes_time
takes-last m time e = leb-le time last_time (and_right _ _ e)

module _ {lim : Limits} {d : Dag} (m : Machine) (F : Facts lim d m) (time : ℕ) where
  pub advanced-facts : takes_time m time ≡ true → Facts lim d (after_advance m time)
  unfolding after_advance with_clock with_timers with_orders with_tables
  advanced-facts e =
      record {
        sizes =
            record {
              token_places = length-map m.tokens (woken_by time) ∙ F.sizes.token_places;
              cell_places = F.sizes.cell_places;
              calls = F.sizes.calls;
              lasttoken = F.sizes.lasttoken;
              lastcell = F.sizes.lastcell;
              clock = takes-last m time e;
            };
        queue = queue_of m ++ joining m time;
        waits = waits_of m;
        timers = staying m time;
        orders = advanced-orders m time;
        timed = advanced-timers m time;
        lines =
            lines-woken m time F.timed
            (subst (λ q. Lines m.tokens q (waits_of m) F.timers) (sym (queue-is F.orders))
            (subst (λ w. Lines m.tokens F.queue w F.timers) (sym (waits-are F.orders)) F.lines));
        tables = tables-woken F.tables time;
      }
