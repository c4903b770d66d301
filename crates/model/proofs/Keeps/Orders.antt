-- What the orders of a machine, the queue, the wait order and the order of call, are after each way to write it: the lists that were put
-- in, padded with 0. With lines that name each token of their kind once, that is what the index rules ask of the orders. Assumes nothing.
use mathlib.Core.Path.{◌≡◌, refl, sym, ◌∙◌, ap, subst}
use mathlib.Core.Bool.{Bool, true, false}
use mathlib.Core.List.{List, [], ◌∷◌, ◌++◌}
use Prim.Native.Nat.{ℕ}
use lib.ListN.{length, take, length-set}
use lib.Seq.{take-append_seam}
use Rattle.job.specs.Test.{padded}
use Rattle.model.specs.Machine.Rules.{names_once}
use Rattle.model.specs.Machine.State.{is_ready, is_waiting, is_due}
use Rattle.model.specs.Machine.Update.{with_tables, with_orders, with_counts, with_timers, with_clock, queue_of, waits_of, timers_of}
use Rattle.model.specs.Machine.Update.{put, enqueue, new_token, new_cell}
use Rattle.model.specs.declared.token.State.{State}
use Rattle.model.specs.declared.token.State.TheVariants as states
use Rattle.model.specs.declared.token.Token.{Token}
use Rattle.model.specs.declared.cell.Cell.{Cell}
use Rattle.model.specs.declared.record.Machine.{Machine}
use Rattle.model.proofs.Keeps.NamedOnce.{Names, Lines, line-names}

pub record Orders (m : Machine) (q w : List ℕ) : Type 0 where
  pub queue : m.queue ≡ padded 0 (length m.tokens) q
  pub queued : m.queued ≡ length q
  pub waits : m.waits ≡ padded 0 (length m.tokens) w
  pub waiting : m.waiting ≡ length w

-- the order of call
pub record Timers (m : Machine) (l : List ℕ) : Type 0 where
  pub timers : m.timers ≡ padded 0 (length m.tokens) l
  pub timed : m.timed ≡ length l

module _ {m : Machine} {queue waits : List ℕ} (o : Orders m queue waits) where
  pub queue-is : queue_of m ≡ queue
  unfolding queue_of padded
  queue-is = ap (λ n. take n m.queue) o.queued ∙ (ap (take (length queue)) o.queue ∙ take-append_seam queue _)

  pub waits-are : waits_of m ≡ waits
  unfolding waits_of padded
  waits-are = ap (λ n. take n m.waits) o.waiting ∙ (ap (take (length waits)) o.waits ∙ take-append_seam waits _)

  -- tables of the same size, and counts, do not matter
  pub orders-tables : (ts : List Token) (cs : List Cell) → length ts ≡ length m.tokens → Orders (with_tables ts cs m) queue waits
  unfolding with_tables
  orders-tables ts cs e =
      record {
        queue = o.queue ∙ ap (λ n. padded 0 n queue) (sym e);
        queued = o.queued;
        waits = o.waits ∙ ap (λ n. padded 0 n waits) (sym e);
        waiting = o.waiting;
      }

  pub orders-counts : (n p c : ℕ) → Orders (with_counts n p c m) queue waits
  unfolding with_counts
  orders-counts n p c = record { queue = o.queue; queued = o.queued; waits = o.waits; waiting = o.waiting }

  -- nor do the order of call and the clock
  pub orders-timers : (l : List ℕ) → Orders (with_timers l m) queue waits
  unfolding with_timers
  orders-timers l = record { queue = o.queue; queued = o.queued; waits = o.waits; waiting = o.waiting }

  pub orders-clock : (time : ℕ) → Orders (with_clock time m) queue waits
  unfolding with_clock
  orders-clock time = record { queue = o.queue; queued = o.queued; waits = o.waits; waiting = o.waiting }

pub orders-with : (queue waits : List ℕ) (m : Machine) → Orders (with_orders queue waits m) queue waits
unfolding with_orders
orders-with queue waits m = record { queue = refl; queued = refl; waits = refl; waiting = refl }

-- an array that is a line padded, and its count: they name each token of the kind once
order-names : (of : State → Bool) → of states.Blank ≡ false → (ts : List Token) (l : List ℕ) {array : List ℕ} {n : ℕ}
    → array ≡ padded 0 (length ts) l → n ≡ length l → Names of ts l → names_once of ts array n ≡ true
order-names of none ts l {array} {n} a k h =
    subst (λ x. names_once of ts x n ≡ true) (sym a)
    (subst (λ i. names_once of ts (padded 0 (length ts) l) i ≡ true) (sym k) (line-names of none ts l h))

module _ {m : Machine} {queue waits : List ℕ} (o : Orders m queue waits) where
  pub orders-put : (p : ℕ) (t : Token) → Orders (put p t m) queue waits
  unfolding put
  orders-put p t = orders-tables o _ _ (length-set m.tokens p t)

  pub orders-enqueue : (p : ℕ) → Orders (enqueue p m) (queue ++ (p ∷ [])) waits
  unfolding enqueue
  orders-enqueue p =
      subst (λ w. Orders (with_orders (queue_of m ++ (p ∷ [])) (waits_of m) m) (queue ++ (p ∷ [])) w) (waits-are o)
      (subst (λ q. Orders (with_orders (queue_of m ++ (p ∷ [])) (waits_of m) m) (q ++ (p ∷ [])) (waits_of m)) (queue-is o)
      (orders-with (queue_of m ++ (p ∷ [])) (waits_of m) m))

  pub orders-token : (p : ℕ) (t : Token) → Orders (new_token p t m) queue waits
  unfolding new_token
  orders-token p t = orders-counts (orders-put p t) _ _ _

  pub orders-cell : (c : ℕ) (k : Cell) → Orders (new_cell c k m) queue waits
  unfolding new_cell
  orders-cell c k = orders-counts (orders-tables o _ _ refl) _ _ _

  -- "the queue names each ready token once and nothing else"; "the wait order names each waiting token once"
  module _ {timers : List ℕ} (l : Lines m.tokens queue waits timers) where
    pub queue-names : names_once is_ready m.tokens m.queue m.queued ≡ true
    unfolding is_ready
    queue-names = order-names is_ready refl m.tokens queue o.queue o.queued l.ready

    pub waits-name : names_once is_waiting m.tokens m.waits m.waiting ≡ true
    unfolding is_waiting
    waits-name = order-names is_waiting refl m.tokens waits o.waits o.waiting l.waiting

-- the order of call: as the others
module _ {m : Machine} {l : List ℕ} (o : Timers m l) where
  pub timers-are : timers_of m ≡ l
  unfolding timers_of padded
  timers-are = ap (λ n. take n m.timers) o.timed ∙ (ap (take (length l)) o.timers ∙ take-append_seam l _)

  pub timers-tables : (ts : List Token) (cs : List Cell) → length ts ≡ length m.tokens → Timers (with_tables ts cs m) l
  unfolding with_tables
  timers-tables ts cs e = record { timers = o.timers ∙ ap (λ n. padded 0 n l) (sym e); timed = o.timed }

  pub timers-counts : (n p c : ℕ) → Timers (with_counts n p c m) l
  unfolding with_counts
  timers-counts n p c = record { timers = o.timers; timed = o.timed }

  pub timers-orders : (queue waits : List ℕ) → Timers (with_orders queue waits m) l
  unfolding with_orders
  timers-orders queue waits = record { timers = o.timers; timed = o.timed }

  pub timers-clock : (time : ℕ) → Timers (with_clock time m) l
  unfolding with_clock
  timers-clock time = record { timers = o.timers; timed = o.timed }

pub timers-with : (l : List ℕ) (m : Machine) → Timers (with_timers l m) l
unfolding with_timers
timers-with l m = record { timers = refl; timed = refl }

module _ {m : Machine} {l : List ℕ} (o : Timers m l) where
  pub timers-put : (p : ℕ) (t : Token) → Timers (put p t m) l
  unfolding put
  timers-put p t = timers-tables o _ _ (length-set m.tokens p t)

  pub timers-enqueue : (p : ℕ) → Timers (enqueue p m) l
  unfolding enqueue
  timers-enqueue p = timers-orders o _ _

  pub timers-token : (p : ℕ) (t : Token) → Timers (new_token p t m) l
  unfolding new_token
  timers-token p t = timers-counts (timers-put p t) _ _ _

  pub timers-cell : (c : ℕ) (k : Cell) → Timers (new_cell c k m) l
  unfolding new_cell
  timers-cell c k = timers-counts (timers-tables o _ _ refl) _ _ _

  -- "an order of call that names such tokens" once each
  pub timers-name : Names is_due m.tokens l → names_once is_due m.tokens m.timers m.timed ≡ true
  unfolding is_due
  timers-name h = order-names is_due refl m.tokens l o.timers o.timed h
