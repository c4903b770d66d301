-- A ready token that does not act: what a step writes at other places leaves it as it is, at its position and active, so that
-- blanking keeps it. One lemma for each change of a machine. Assumes nothing.
use mathlib.Core.Path.{◌≡◌, refl, sym, ◌∙◌, subst}
use mathlib.Core.Logic.{◌⊎◌, inl, inr}
use mathlib.Core.Bool.{true, false}
use mathlib.Core.List.{List, [], ◌∷◌, ◌++◌}
use Prim.Native.Nat.{ℕ, ◌<◌}
use native.Mathlib.Omega.{arith}
use lib.ListN.{length, get_or, length-append, length-take, get_or-append}
use lib.Seq.{get_or-take, take-append_seam}
use Rattle.job.specs.Test.{padded}
use Rattle.job.specs.Node.{Dag}
use Rattle.model.specs.Machine.Limits.{Limits}
use Rattle.model.specs.Machine.Blank.{blank_token, token_at}
use Rattle.model.specs.Machine.Active.{under_set, is_active}
use Rattle.model.specs.Machine.InUse.{tokens_used, sweep}
use Rattle.model.specs.Machine.State.{is_ready}
use Rattle.model.specs.Machine.Rules.{rules_hold}
use Rattle.model.specs.Machine.Reply.{Effect, outcome, is_refused}
use Rattle.model.specs.Machine.Update.{with_tables, with_orders, with_counts, with_timers, with_clock, queue_of, waits_of}
use Rattle.model.specs.Machine.Update.{put, enqueue, new_token, new_cell}
use Rattle.model.specs.Run.Follow.{Stands, queued_token}
use Rattle.model.specs.Machine.Held.{Place}
use Rattle.model.specs.declared.token.Token.{Token}
use Rattle.model.specs.declared.record.Machine.{Machine}
use Rattle.model.specs.declared.reply.Outcome.{Outcome}
use Rattle.job.proofs.Test.{holds-or-fails}
use Rattle.model.proofs.Machine.Refused.{After, after-outcome}
use Rattle.model.proofs.Machine.Inside.{live-active}
use Rattle.model.proofs.Machine.Rules.{ready-live}
use Rattle.model.proofs.Machine.Marks.{Marked}
use Rattle.model.proofs.Machine.InUse.{tokens-used}
use Rattle.model.proofs.Machine.Blanking.{kept-marked}
use Rattle.model.proofs.Run.Queue.{QueueRulesHold, queue-rules-hold}
use Rattle.model.proofs.Run.Chain.{unset_cell, new-cell-clear}
use Rattle.model.proofs.Machine.TableRows.{token-other}

-- the token u is at place p and not under a set cell
pub record Unharmed (u : Token) (p : ℕ) (m : Machine) : Type 0 where
  pub token : token_at m.tokens p ≡ u
  pub clear : under_set m.cells u.cell ≡ false

-- and its place is at position k of the queue
pub record Untouched (u : Token) (p k : ℕ) (m : Machine) : Type 0 where
  pub queued : k < length (queue_of m)
  pub place : get_or (queue_of m) k 0 ≡ p
  pub unharmed : Unharmed u p m

module _ {u : Token} {p : ℕ} where
  pub unharmed-orders : (q w : List ℕ) (m : Machine) → Unharmed u p m → Unharmed u p (with_orders q w m)
  unfolding with_orders
  unharmed-orders q w m h = record { token = h.token; clear = h.clear }

  pub unharmed-put : (q : ℕ) (t : Token) (m : Machine) → (p ≡ q → ⊥) → Unharmed u p m → Unharmed u p (put q t m)
  unfolding put with_tables
  unharmed-put q t m n h = record { token = token-other m.tokens q p t n ∙ h.token; clear = h.clear }

  pub unharmed-counts : (n a c : ℕ) (m : Machine) → Unharmed u p m → Unharmed u p (with_counts n a c m)
  unfolding with_counts
  unharmed-counts n a c m h = record { token = h.token; clear = h.clear }

  pub unharmed-timers : (l : List ℕ) (m : Machine) → Unharmed u p m → Unharmed u p (with_timers l m)
  unfolding with_timers
  unharmed-timers l m h = record { token = h.token; clear = h.clear }

  pub unharmed-cell :
      (c : ℕ) (above : Place) (m : Machine)
      → under_set m.cells above ≡ false
      → Unharmed u p m
      → Unharmed u p (new_cell c (unset_cell above) m)
  unfolding new_cell with_tables with_counts
  unharmed-cell c above m e h =
      record { token = h.token; clear = new-cell-clear m.cells c above u.cell h.clear e }

pub queue-orders : (q w : List ℕ) (m : Machine) → queue_of (with_orders q w m) ≡ q
unfolding queue_of with_orders padded
queue-orders q w m = take-append_seam q _

module _ {u : Token} {p k : ℕ} where
  -- a queue that has p at position k
  pub untouched-orders :
      (q w : List ℕ) (m : Machine) → k < length q → get_or q k 0 ≡ p → Unharmed u p m → Untouched u p k (with_orders q w m)
  untouched-orders q w m l e h =
      record {
        queued = subst (λ xs. k < length xs) (sym (queue-orders q w m)) l;
        place = subst (λ xs. get_or xs k 0 ≡ p) (sym (queue-orders q w m)) e;
        unharmed = unharmed-orders q w m h;
      }

  -- only the wait order changes
  pub untouched-waits : (w : List ℕ) (m : Machine) → Untouched u p k m → Untouched u p k (with_orders (queue_of m) w m)
  untouched-waits w m h = untouched-orders (queue_of m) w m h.queued h.place h.unharmed

  -- others go to the back
  pub untouched-joined :
      (qs w : List ℕ) (m : Machine) → Untouched u p k m → Untouched u p k (with_orders (queue_of m ++ qs) w m)
  untouched-joined qs w m h =
      untouched-orders (queue_of m ++ qs) w m
      (let z = length-append (queue_of m) qs in let l = h.queued in omega arith)
      (get_or-append (queue_of m) qs 0 k h.queued ∙ h.place)
      h.unharmed

  pub untouched-enqueue : (q : ℕ) (m : Machine) → Untouched u p k m → Untouched u p k (enqueue q m)
  unfolding enqueue
  untouched-enqueue q m h = untouched-joined (q ∷ []) (waits_of m) m h

  -- the order of call and the clock change nothing of it
  pub untouched-timers : (l : List ℕ) (m : Machine) → Untouched u p k m → Untouched u p k (with_timers l m)
  unfolding with_timers queue_of
  untouched-timers l m h = record { queued = h.queued; place = h.place; unharmed = unharmed-timers l m h.unharmed }

  pub untouched-clock : (time : ℕ) (m : Machine) → Untouched u p k m → Untouched u p k (with_clock time m)
  unfolding with_clock queue_of
  untouched-clock time m h =
      record {
        queued = h.queued;
        place = h.place;
        unharmed = record { token = h.unharmed.token; clear = h.unharmed.clear };
      }

  pub untouched-put : (q : ℕ) (t : Token) (m : Machine) → (p ≡ q → ⊥) → Untouched u p k m → Untouched u p k (put q t m)
  unfolding put with_tables queue_of
  untouched-put q t m n h = record { queued = h.queued; place = h.place; unharmed = unharmed-put q t m n h.unharmed }

  pub untouched-counts : (n a c : ℕ) (m : Machine) → Untouched u p k m → Untouched u p k (with_counts n a c m)
  unfolding with_counts queue_of
  untouched-counts n a c m h = record { queued = h.queued; place = h.place; unharmed = unharmed-counts n a c m h.unharmed }

  pub untouched-token : (q : ℕ) (t : Token) (m : Machine) → (p ≡ q → ⊥) → Untouched u p k m → Untouched u p k (new_token q t m)
  unfolding new_token
  untouched-token q t m n h = untouched-counts m.calls q m.lastcell (put q t m) (untouched-put q t m n h)

  pub untouched-cell :
      (c : ℕ) (above : Place) (m : Machine) → under_set m.cells above ≡ false
      → Untouched u p k m → Untouched u p k (new_cell c (unset_cell above) m)
  unfolding new_cell with_tables with_counts queue_of
  untouched-cell c above m e h =
      record { queued = h.queued; place = h.place; unharmed = unharmed-cell c above m e h.unharmed }

-- a ready token under no set cell is active, so it is in use, and blanking keeps it
module _ {u : Token} {p : ℕ} (ready : is_ready u.state ≡ true) where
  pub unharmed-marked : (m : Machine) → Unharmed u p m → Marked (tokens_used m) p
  unharmed-marked m h =
      (tokens-used m.tokens m.cells).active p
      (subst (λ (t : Token). is_active m.cells t ≡ true) (sym h.token)
      (live-active m.cells u (ready-live u.state ready) h.clear))

  pub unharmed-sweep : (m : Machine) → Unharmed u p m → token_at (sweep m).tokens p ≡ u
  unfolding sweep token_at
  unharmed-sweep m h =
      kept-marked blank_token (tokens_used m) m.tokens p (tokens-used m.tokens m.cells).size (unharmed-marked m h) ∙ h.token

-- the token at a position of the queue, unharmed by the rules; and standing, once it is untouched
pub queued-unharmed : (m : Machine) → QueueRulesHold m → (k : ℕ) → k < m.queued → Unharmed (queued_token m k) (get_or m.queue k 0) m
queued-unharmed m h k l = record { token = refl; clear = h.clear k l }

pub queued-untouched :
    (m : Machine) → QueueRulesHold m → (k : ℕ) → k < m.queued → Untouched (queued_token m k) (get_or m.queue k 0) k m
unfolding queue_of
queued-untouched m h k l =
    record {
      queued = let z = length-take m.queued m.queue in let s = h.short in omega arith;
      place = get_or-take m.queued m.queue k 0 l;
      unharmed = queued-unharmed m h k l;
    }

pub untouched-stands :
    (m : Machine) (k : ℕ) (after : Machine) (k' : ℕ)
    → is_ready (queued_token m k).state ≡ true
    → Untouched (queued_token m k) (get_or m.queue k 0) k' after
    → Stands m k (sweep after) k'
unfolding sweep queue_of
untouched-stands m k after k' r h =
    record {
      queued = inside;
      place = named;
      token = subst (λ p. token_at (sweep after).tokens p ≡ queued_token m k) (sym named) (unharmed-sweep r after h.unharmed);
    }
  where
    inside : k' < after.queued
    inside = let z = length-take after.queued after.queue in let l = h.queued in omega arith

    named : get_or after.queue k' 0 ≡ get_or m.queue k 0
    named = sym (get_or-take after.queued after.queue k' 0 inside) ∙ h.place

-- a call that is no step: refused it leaves the machine, accepted it tested the rules and did this
pub call-stands :
    (lim : Limits) (d : Dag) (m : Machine) (k : ℕ) (o : Outcome) (e : Effect)
    → k < m.queued
    → (is_refused o.reply ≡ true → o.machine ≡ m)
    → (is_refused o.reply ≡ false → (rules_hold lim d m ≡ true) × (o ≡ outcome m e))
    → (QueueRulesHold m → After (Untouched (queued_token m k) (get_or m.queue k 0) k) e)
    → Stands m k o.machine k
call-stands lim d m k o e l left did leaves = go (holds-or-fails (is_refused o.reply))
  where
    accepted : is_refused o.reply ≡ false → (rules_hold lim d m ≡ true) × (o ≡ outcome m e) → Stands m k o.machine k
    accepted ok (holds, does) =
        let h : QueueRulesHold m = queue-rules-hold lim d m holds in
        subst (λ (o : Outcome). Stands m k o.machine k) (sym does)
        (after-outcome (Untouched (queued_token m k) (get_or m.queue k 0) k) (λ o. Stands m k o k)
        (λ o u. untouched-stands m k o k (h.ready k l) u) m e (leaves h)
        (subst (λ (o : Outcome). is_refused o.reply ≡ false) does ok))

    go : (is_refused o.reply ≡ true) ⊎ (is_refused o.reply ≡ false) → Stands m k o.machine k
    go (inl no') =
        subst (λ (o : Machine). Stands m k o k) (sym (left no')) (record { queued = l; place = refl; token = refl })
    go (inr ok) = accepted ok (did ok)
