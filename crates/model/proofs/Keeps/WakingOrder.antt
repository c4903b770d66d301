-- Whom a clock move wakes: each token that is due by then stands once in the order of call, so it joins the queue once, sorted. And what a
-- choke leaves of a token within its cell: a blank place that no order names, so that no clock move wakes it. Assumes nothing.
use mathlib.Core.Path.{◌≡◌, refl, ◌∙◌, ap}
use mathlib.Core.Logic.{◌⊎◌, inl, inr}
use mathlib.Core.Bool.{Bool, true, false}
use mathlib.Core.List.{List, ◌++◌, map}
use Prim.Native.Nat.{ℕ, ◌≤◌}
use native.Mathlib.Omega.{arith}
use lib.ListN.{set}
use lib.Dec.{eqb}
use Rattle.job.specs.Test.{select, occurrences, once}
use Rattle.job.specs.Node.{Dag}
use Rattle.model.specs.Machine.Limits.{Limits}
use Rattle.model.specs.Machine.Blank.{blank_token, token_at, cell_at}
use Rattle.model.specs.Machine.Active.{within}
use Rattle.model.specs.Machine.InUse.{tokens_used, sweep}
use Rattle.model.specs.Machine.State.{is_ready, is_waiting, is_due, is_due_by, due_time_of}
use Rattle.model.specs.Machine.Update.{with_tables, with_orders, with_timers, with_clock, queue_of, waits_of, timers_of}
use Rattle.model.specs.Machine.Step.{choke_token, after_choke}
use Rattle.model.specs.Machine.Clock.{woken_by, place_due_by, joining, staying, after_advance}
use Rattle.model.specs.Machine.WakingOrder.{due_at, due_then, WakesInOrder, Gone, OrdersApart}
use Rattle.model.specs.Machine.Held.{Held}
use Rattle.model.specs.declared.token.State.{State}
use Rattle.model.specs.declared.token.State.TheVariants as states
use Rattle.model.specs.declared.token.Token.{Token}
use Rattle.model.specs.declared.record.Machine.{Machine}
use Rattle.job.proofs.Test.{clash, eqb-eq, le-leb, once-true, occurrences-append}
use Rattle.model.proofs.Machine.Rules.{EachRuleHolds}
use Rattle.model.proofs.Machine.Blanking.{kept-cases}
use Rattle.model.proofs.Machine.Selected.{occurrences-dropped, select-twice}
use Rattle.model.proofs.Machine.WrittenTokens.{woken-blank}
use Rattle.model.proofs.Machine.Choke.{choke-at, choke-ends}
use Rattle.model.proofs.Machine.Clock.{woken-at, joining-ascends, joining-stable, join-or-stay, due-joins, later-joins-not}
use Rattle.model.proofs.Keeps.NamedOnce.{Lines, rules-lines, lines-apart}
use Rattle.model.proofs.Keeps.Orders.{queue-is, waits-are, orders-with, timers-are, timers-with, timers-orders}
use Rattle.model.proofs.Keeps.Clock.{due-by-due, advanced-orders, advanced-timers}

-- "names each .. once": no two orders share a name
pub rules-apart : (lim : Limits) (d : Dag) (m : Machine) → EachRuleHolds lim d m → OrdersApart m
rules-apart lim d m rules = lines-apart (rules-lines lim d m rules)

-- a token that is due, at a time no later than this one
due-in-time : (time : ℕ) (s : State) → is_due s ≡ true → due_time_of s ≤ time → is_due_by time s ≡ true
unfolding is_due is_due_by due_time_of
due-in-time time states.Blank e l = clash e refl
due-in-time time states.Ready e l = clash e refl
due-in-time time (states.Waiting c) e l = clash e refl
due-in-time time (states.Called h) e l = clash e refl
due-in-time time (states.Due d) e l = le-leb d time l
due-in-time time states.Frame e l = clash e refl

module _ (lim : Limits) (d : Dag) (m : Machine) (rules : EachRuleHolds lim d m) (time : ℕ) where
  lines : Lines m.tokens (queue_of m) (waits_of m) (timers_of m)
  lines = rules-lines lim d m rules

  abbrev was : ℕ → Token
  was p = token_at m.tokens p

  each : (p : ℕ) → occurrences p (joining m time) ≡ once (place_due_by m time p)
  unfolding place_due_by
  each p = go (is_due_by time (was p).state) refl
    where
      go : (b : Bool) → is_due_by time (was p).state ≡ b → occurrences p (joining m time) ≡ once b
      go true e = due-joins m time p e ∙ (lines.due p ∙ ap once (due-by-due time (was p).state e).0)
      go false e = later-joins-not m time p e

  by_call_lem : (due : ℕ) → due ≤ time → due_then m due (joining m time) ≡ due_then m due (timers_of m)
  unfolding place_due_by
  by_call_lem due l =
      joining-stable m time due
      ∙ select-twice (λ p. eqb (due_at m p) due) (place_due_by m time) (timers_of m)
      (λ p k e.
      let n = lines.due p in
      let t : due_time_of (was p).state ≡ due = eqb-eq (due_at m p) due e in
      due-in-time time (was p).state (once-true _ (omega arith)) (omega arith))

  pub advanced-wakes : WakesInOrder m time (after_advance m time)
  unfolding after_advance place_due_by with_clock with_timers with_orders with_tables
  advanced-wakes =
      record {
        joined = joining m time;
        queue = queue-is (advanced-orders m time);
        each = each;
        by_time = joining-ascends m time;
        by_call = by_call_lem;
        woken = λ p e. woken-at time m.tokens p ∙ unfold woken_by in rw (e, woken_by) refl;
        others = λ p e. woken-at time m.tokens p ∙ unfold woken_by in rw (e, woken_by) refl;
      }

-- "all tokens of it and of its descendants end": those due later too
module _ (c : ℕ) (v : Held) (m : Machine) (p : ℕ) (inside : within m.cells c (token_at m.tokens p).cell ≡ true) where
  abbrev then : List Token
  then = map (choke_token m.cells c) m.tokens

  abbrev tables : Machine
  tables = with_tables then (set m.cells c (record { parent = (cell_at m.cells c).parent; value = v })) m

  abbrev still : (State → Bool) → List ℕ → List ℕ
  still of l = select (λ (r : ℕ). of (token_at then r).state) l

  ends : token_at then p ≡ blank_token
  ends = choke-at m.cells c m.tokens p ∙ choke-ends m.cells c (token_at m.tokens p) inside

  not_named : (of : State → Bool) → of states.Blank ≡ false → (l : List ℕ) → occurrences p (still of l) ≡ 0
  not_named of none l = occurrences-dropped _ p l (ap (λ (t : Token). of t.state) ends ∙ none)

  pub choke-gone : Gone (after_choke c v m) p
  unfolding after_choke with_tables with_timers with_orders is_ready is_waiting is_due
  choke-gone =
      let q = still is_ready (queue_of m ++ waits_of m) in
      let w = still is_waiting (waits_of m) in
      let l = still is_due (timers_of m) in
      let o = orders-with q w (with_timers l tables) in
      record {
        blank = ends;
        queue = ap (occurrences p) (queue-is o) ∙ not_named is_ready refl (queue_of m ++ waits_of m);
        waits = ap (occurrences p) (waits-are o) ∙ not_named is_waiting refl (waits_of m);
        timers =
            ap (occurrences p) (timers-are (timers-orders (timers-with l tables) q w)) ∙ not_named is_due refl (timers_of m);
      }

module _ {m : Machine} {p : ℕ} (gone : Gone m p) where
  pub gone-swept : Gone (sweep m) p
  unfolding sweep token_at queue_of waits_of timers_of
  gone-swept =
      record {
        blank = go (kept-cases blank_token (tokens_used m) m.tokens p);
        queue = gone.queue;
        waits = gone.waits;
        timers = gone.timers;
      }
    where
      now : Token
      now = token_at (sweep m).tokens p

      go : (now ≡ token_at m.tokens p) ⊎ (now ≡ blank_token) → now ≡ blank_token
      go (inl e) = e ∙ gone.blank
      go (inr e) = e

  -- its time wakes nobody: a clock move leaves the place as it is
  pub gone-advanced : (time : ℕ) → Gone (after_advance m time) p
  unfolding after_advance with_clock with_timers with_orders with_tables
  gone-advanced time =
      let a = join-or-stay m time p in
      let t = gone.timers in
      let q = gone.queue in
      let b = occurrences-append p (queue_of m) (joining m time) in
      record {
        blank = woken-at time m.tokens p ∙ (ap (woken_by time) gone.blank ∙ woken-blank time);
        queue =
            ap (occurrences p) (queue-is (advanced-orders m time))
            ∙ (let z : occurrences p (queue_of m ++ joining m time) ≡ 0 = omega arith in z);
        waits = ap (occurrences p) (waits-are (advanced-orders m time)) ∙ gone.waits;
        timers = ap (occurrences p) (timers-are (advanced-timers m time)) ∙ (let z : occurrences p (staying m time) ≡ 0 = omega arith in z);
      }
