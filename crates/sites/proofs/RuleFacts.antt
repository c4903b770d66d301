-- What the index rules say of the record, as the instructions ask it: sizes, and room in the orders, because an order names a token once
-- and no token is named in two. Assumes nothing.
use mathlib.Core.Path.{◌≡◌, sym, ap, subst, ◌∙◌}
use mathlib.Core.Bool.{Bool, true, false}
use mathlib.Core.List.{List, [], ◌∷◌, ◌++◌}
use Prim.Native.Nat.{ℕ, ◌+◌, ◌<◌, ◌≤◌}
use native.Mathlib.Omega.{arith}
use lib.ListN.{length, take, length-append}
use lib.Seq.{length-take-le}
use lib.Dec.{ltb, eqb}
use Rattle.job.specs.Test.{for_all, occurrences, once}
use Rattle.job.specs.Node.{Dag, is_node}
use Rattle.model.specs.Machine.Limits.{paper}
use Rattle.model.specs.Machine.Blank.{blank_token, token_at}
use Rattle.model.specs.Machine.Rules as rules
use Rattle.model.specs.Machine.Rules.{rules_hold, token_in_range, cell_in_range}
use Rattle.model.specs.Machine.State.{is_ready, is_waiting, is_due}
use Rattle.model.specs.declared.token.State.{State}
use Rattle.model.specs.declared.token.State.TheVariants as states
use Rattle.model.specs.declared.cell.Cell.{Cell}
use Rattle.model.specs.declared.record.Machine.{Machine}
use Rattle.job.proofs.Test.{and_left, and_right, all-at, all_head, all_tail, all_nil, all_cons, all_append, occurrences-append}
use Rattle.model.proofs.Machine.Rules.{EachRuleHolds, each-rule-holds, NamesOnce, names-once, tokens-sized, cells-sized}
use Rattle.sites.specs.Look.{LookFacts}
use Rattle.sites.proofs.OrderCounting.{names-few, names-fewer}
use Rattle.job.proofs.Test.{once-small}

all-implied : {A : Type 0} (f g : A → Bool) → ((x : A) → f x ≡ true → g x ≡ true) → (xs : List A) → for_all f xs ≡ true
    → for_all g xs ≡ true
all-implied f g h [] e = all_nil g
all-implied f g h (x ∷ xs) e = all_cons g x xs (h x (all_head f x xs e)) (all-implied f g h xs (all_tail f x xs e))

-- no token is named in two orders
one-order : (s : State) → once (is_ready s) + (once (is_waiting s) + once (is_due s)) ≤ 1
unfolding is_ready is_waiting is_due
one-order states.Blank = omega arith
one-order states.Ready = omega arith
one-order (states.Waiting c) = omega arith
one-order (states.Called h) = omega arith
one-order (states.Due t) = omega arith
one-order states.Frame = omega arith

module _ (d : Dag) (m : Machine) (k : rules_hold paper d m ≡ true) where
  holds : EachRuleHolds paper d m
  holds = each-rule-holds paper d m k

  pub tokens-size : length m.tokens ≡ 64
  tokens-size = tokens-sized paper d m k

  pub cells-size : length m.cells ≡ 32
  cells-size = cells-sized paper d m k

  queue : NamesOnce is_ready m.tokens m.queue m.queued
  queue = names-once is_ready m.tokens m.queue m.queued holds.queue

  waits : NamesOnce is_waiting m.tokens m.waits m.waiting
  waits = names-once is_waiting m.tokens m.waits m.waiting holds.waits

  timers : NamesOnce is_due m.tokens m.timers m.timed
  timers = names-once is_due m.tokens m.timers m.timed holds.timers

  below : (of : State → Bool) (array : List ℕ) (n : ℕ) → NamesOnce of m.tokens array n
      → for_all (λ (p : ℕ). ltb p 64) (take n array) ≡ true
  below of array n o = subst (λ i. for_all (λ (p : ℕ). ltb p i) (take n array) ≡ true) tokens-size o.inside

  pub queue-below : for_all (λ (p : ℕ). ltb p 64) (take m.queued m.queue) ≡ true
  queue-below = below is_ready m.queue m.queued queue

  queue-counts : (p : ℕ) → p < 64 → occurrences p (take m.queued m.queue) ≡ once (is_ready (token_at m.tokens p).state)
  queue-counts p l = let t : length m.tokens ≡ 64 = tokens-size in queue.counts p (omega arith)

  -- an order's length
  pub queue-length : m.queued ≡ length (take m.queued m.queue)
  queue-length = let f : m.queued ≤ length m.queue = queue.fits in sym (length-take-le m.queued m.queue f)

  -- room for the names of another order behind those of the queue
  together : (of : State → Bool) (array : List ℕ) (n : ℕ) → NamesOnce of m.tokens array n
      → ((s : State) → once (is_ready s) + once (of s) ≤ 1) → m.queued + n ≤ 64
  together of array n o alone =
      let q = take m.queued m.queue in
      let w = take n array in
      let t : length m.tokens ≡ 64 = tokens-size in
      let a : m.queued ≡ length q = queue-length in
      let b : length w ≡ n = length-take-le n array o.fits in
      let s : length (q ++ w) ≡ length q + length w = length-append q w in
      let few : length (q ++ w) ≤ 64 =
      names-few 64 (q ++ w) (all_append (λ (p : ℕ). ltb p 64) q w queue-below (below of array n o))
      (λ p l.
      let c : occurrences p (q ++ w) ≡ occurrences p q + occurrences p w = occurrences-append p q w in
      let x : occurrences p q ≡ once (is_ready (token_at m.tokens p).state) = queue-counts p l in
      let y : occurrences p w ≡ once (of (token_at m.tokens p).state) = o.counts p (omega arith) in
      let z = alone (token_at m.tokens p).state in
      omega arith) in
      omega arith

  -- those that wait, those that are due later
  pub room : m.queued + m.waiting ≤ 64
  room = together is_waiting m.waits m.waiting waits (λ s. let z = one-order s in omega arith)

  due-room : m.queued + m.timed ≤ 64
  due-room = together is_due m.timers m.timed timers (λ s. let z = one-order s in omega arith)

  pub waits-room : (place : ℕ) → place < m.queued → m.waiting < 64
  waits-room place l = let z : m.queued + m.waiting ≤ 64 = room in omega arith

  pub timers-room : (place : ℕ) → place < m.queued → m.timed < 64
  timers-room place l = let z : m.queued + m.timed ≤ 64 = due-room in omega arith

  -- room for one more where a token is not ready
  pub queue-room : (q : ℕ) → q < 64 → is_ready (token_at m.tokens q).state ≡ false → m.queued < 64
  queue-room q l e =
      let xs = take m.queued m.queue in
      let a : m.queued ≡ length xs = queue-length in
      let c : occurrences q xs ≡ 0 = queue-counts q l ∙ ap once e in
      let few : length xs < 64 =
      names-fewer 64 xs queue-below
      (λ p l.
      let x : occurrences p xs ≡ once (is_ready (token_at m.tokens p).state) = queue-counts p l in
      let y = once-small (is_ready (token_at m.tokens p).state) in
      omega arith)
      q l c in
      omega arith

  -- a token's own ranges
  pub token-range : (p : ℕ) → p < 64 → token_in_range paper d m.calls (token_at m.tokens p) ≡ true
  unfolding token_at
  token-range p l =
      let t : length m.tokens ≡ 64 = tokens-size in
      all-at (token_in_range paper d m.calls) m.tokens p blank_token holds.tokens (omega arith)

  -- what a look-up needs of the record
  pub look-facts : (p : ℕ) → p < 64 → LookFacts m p
  unfolding token_in_range cell_in_range
  look-facts p l =
      let t = token_at m.tokens p in
      let a = and_right (eqb (length t.binds) 8) _ (and_right (is_node d t.node) _ (token-range p l)) in
      record {
        slots = and_left _ _ a;
        cells = all-implied (cell_in_range paper) (λ (c : Cell). rules.held_in_range c.value)
            (λ c e. and_right (rules.place_in_range 32 c.parent) _ e) m.cells holds.cells;
      }
