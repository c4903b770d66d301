-- What makes words hold a record after a change: the words are those of the changed record, and its lengths and orders are as before.
-- Assumes nothing.
use mathlib.Core.Path.{◌≡◌, sym, ap, ap₂, ◌∙◌}
use mathlib.Core.List.{List, [], ◌∷◌}
use Prim.Native.Nat.{ℕ, ◌-◌, ◌<◌, ◌≤◌}
use native.Mathlib.Decide.{ℕ_discrete}
use native.Mathlib.Omega.{arith}
use lib.ListN.{length, get_or, set, take, replicate, length-append}
use lib.Seq.{get_or-set_same, get_or-set_other, take-append_seam}
use Rattle.job.specs.Test.{padded}
use Rattle.model.specs.Machine.Blank.{blank_token, token_at}
use Rattle.model.specs.Machine.Update.{with_tables, with_counts, with_orders, with_timers, with_clock, queue_of, waits_of, timers_of}
use Rattle.model.specs.declared.token.Token.{Token}
use Rattle.model.specs.declared.cell.Cell.{Cell}
use Rattle.model.specs.declared.record.Machine.{Machine}
use Rattle.record.specs.Layout.{count_words, clock_words, parts, words_of}
use Rattle.record.specs.Holds.{Shaped, Ordered, Holds}
use Rattle.orders.proofs.NamesPadded.{padded-long}

padded-short : (xs : List ℕ) (n : ℕ) → length (padded 0 n xs) ≡ n → length xs ≤ n
unfolding padded
padded-short xs n l = let a = length-append xs (replicate (n - length xs) 0) in omega (arith, a)

-- the names of an array that was made of them
pub names-are : (xs : List ℕ) (n : ℕ) → xs ≡ take (length xs) (padded 0 n xs)
unfolding padded
names-are xs n = sym (take-append_seam xs _)

module _ {ws : List ℕ} {m : Machine} (h : Holds ws m) where
  pub shaped : Shaped m
  shaped = h.codes.shaped

  abbrev o : Ordered m
  o = h.ordered

  fit : (array names : List ℕ) → length array ≡ 64 → array ≡ padded 0 (length m.tokens) names → length names ≤ 64
  fit array names l e =
      padded-short names 64 (ap (λ n. length (padded 0 n names)) (sym shaped.tokens) ∙ ap length (sym e) ∙ l)

  pub queue-fits : length (queue_of m) ≤ 64
  queue-fits = fit m.queue (queue_of m) shaped.queue o.queue

  pub waits-fit : length (waits_of m) ≤ 64
  waits-fit = fit m.waits (waits_of m) shaped.waits o.waits

  pub timers-fit : length (timers_of m) ≤ 64
  timers-fit = fit m.timers (timers_of m) shaped.timers o.timers

  -- other tables
  pub tables-hold : (ts : List Token) (cs : List Cell) {xs : List ℕ}
      → xs ≡ parts ts cs m.queue m.waits (count_words m) m.timers (clock_words m) → length ts ≡ 64 → length cs ≡ 32
      → ((p : ℕ) → length (token_at ts p).binds ≡ 8) → Holds xs (with_tables ts cs m)
  unfolding with_tables words_of count_words clock_words queue_of waits_of timers_of
  tables-hold ts cs e l k b =
      let n : length m.tokens ≡ length ts = shaped.tokens ∙ sym l in
      record {
        codes =
            record {
              words = e;
              shaped =
                  record {
                    tokens = l;
                    cells = k;
                    queue = shaped.queue;
                    waits = shaped.waits;
                    timers = shaped.timers;
                    binds = b;
                  };
            };
        ordered =
            record {
              queue = o.queue ∙ ap (λ i. padded 0 i (queue_of m)) n;
              queued = o.queued;
              waits = o.waits ∙ ap (λ i. padded 0 i (waits_of m)) n;
              waiting = o.waiting;
              timers = o.timers ∙ ap (λ i. padded 0 i (timers_of m)) n;
              timed = o.timed;
            };
      }

  -- other counts
  pub counts-hold : (n p c : ℕ) {xs : List ℕ}
      → xs ≡ parts m.tokens m.cells m.queue m.waits (m.queued ∷ m.waiting ∷ n ∷ p ∷ c ∷ []) m.timers (clock_words m)
      → Holds xs (with_counts n p c m)
  unfolding with_counts words_of count_words clock_words queue_of waits_of timers_of
  counts-hold n p c e =
      record {
        codes =
            record {
              words = e;
              shaped =
                  record {
                    tokens = shaped.tokens;
                    cells = shaped.cells;
                    queue = shaped.queue;
                    waits = shaped.waits;
                    timers = shaped.timers;
                    binds = shaped.binds;
                  };
            };
        ordered =
            record {
              queue = o.queue;
              queued = o.queued;
              waits = o.waits;
              waiting = o.waiting;
              timers = o.timers;
              timed = o.timed;
            };
      }

  -- another time
  pub clock-holds : (t : ℕ) {xs : List ℕ}
      → xs ≡ parts m.tokens m.cells m.queue m.waits (count_words m) m.timers (m.timed ∷ t ∷ []) → Holds xs (with_clock t m)
  unfolding with_clock words_of count_words clock_words queue_of waits_of timers_of
  clock-holds t e =
      record {
        codes =
            record {
              words = e;
              shaped =
                  record {
                    tokens = shaped.tokens;
                    cells = shaped.cells;
                    queue = shaped.queue;
                    waits = shaped.waits;
                    timers = shaped.timers;
                    binds = shaped.binds;
                  };
            };
        ordered =
            record {
              queue = o.queue;
              queued = o.queued;
              waits = o.waits;
              waiting = o.waiting;
              timers = o.timers;
              timed = o.timed;
            };
      }

  -- an order of these names
  of-names : (xs : List ℕ) → padded 0 64 xs ≡ padded 0 (length m.tokens) xs
  of-names xs = ap (λ k. padded 0 k xs) (sym shaped.tokens)

  of_size : (xs : List ℕ) → length xs ≤ 64 → length (padded 0 (length m.tokens) xs) ≡ 64
  of_size xs l = ap length (sym (of-names xs)) ∙ padded-long xs 64 l

  -- other orders
  pub orders-hold : (q w : List ℕ) {xs : List ℕ} → length q ≤ 64 → length w ≤ 64
      → xs
      ≡ parts m.tokens m.cells (padded 0 64 q) (padded 0 64 w) (length q ∷ length w ∷ m.calls ∷ m.lasttoken ∷ m.lastcell ∷ [])
      m.timers (clock_words m) → Holds xs (with_orders q w m)
  unfolding with_orders words_of count_words clock_words queue_of waits_of timers_of
  orders-hold q w {xs} a b e =
      let n = length m.tokens in
      record {
        codes =
            record {
              words =
                  e
                  ∙ ap₂
                  (λ x y.
                  parts m.tokens m.cells x y (length q ∷ length w ∷ m.calls ∷ m.lasttoken ∷ m.lastcell ∷ []) m.timers
                  (clock_words m)) (of-names q) (of-names w);
              shaped =
                  record {
                    tokens = shaped.tokens;
                    cells = shaped.cells;
                    queue = of_size q a;
                    waits = of_size w b;
                    timers = shaped.timers;
                    binds = shaped.binds;
                  };
            };
        ordered =
            record {
              queue = ap (padded 0 n) (names-are q n);
              queued = ap length (names-are q n);
              waits = ap (padded 0 n) (names-are w n);
              waiting = ap length (names-are w n);
              timers = o.timers;
              timed = o.timed;
            };
      }

  -- another order of call
  pub timers-hold : (l : List ℕ) {xs : List ℕ} → length l ≤ 64
      → xs ≡ parts m.tokens m.cells m.queue m.waits (count_words m) (padded 0 64 l) (length l ∷ m.clock ∷ [])
      → Holds xs (with_timers l m)
  unfolding with_timers words_of count_words clock_words queue_of waits_of timers_of
  timers-hold l a e =
      let n = length m.tokens in
      record {
        codes =
            record {
              words =
                  e
                  ∙ ap (λ x. parts m.tokens m.cells m.queue m.waits (count_words m) x (length l ∷ m.clock ∷ [])) (of-names l);
              shaped =
                  record {
                    tokens = shaped.tokens;
                    cells = shaped.cells;
                    queue = shaped.queue;
                    waits = shaped.waits;
                    timers = of_size l a;
                    binds = shaped.binds;
                  };
            };
        ordered =
            record {
              queue = o.queue;
              queued = o.queued;
              waits = o.waits;
              waiting = o.waiting;
              timers = ap (padded 0 n) (names-are l n);
              timed = ap length (names-are l n);
            };
      }

-- a token in its place
pub binds-after : (ts : List Token) (p : ℕ) (t : Token) → length t.binds ≡ 8
    → ((i : ℕ) → length (token_at ts i).binds ≡ 8) → (i : ℕ) → length (token_at (set ts p t) i).binds ≡ 8
unfolding token_at
binds-after ts p t l all i = go (ℕ_discrete i p)
  where
    here : Dec (p < length ts) → i ≡ p → length (get_or (set ts p t) i blank_token).binds ≡ 8
    here (yes s) e = rw (e, get_or-set_same ts p t blank_token s) l
    here (no s) e = ap (λ (r : List Token). length (get_or r i blank_token).binds) (lib.Seq.set_out ts p t (omega arith)) ∙ all i

    go : Dec (i ≡ p) → length (get_or (set ts p t) i blank_token).binds ≡ 8
    go (yes e) = here (native.Mathlib.Decide.dec_lt p (length ts)) e
    go (no n) = rw (get_or-set_other ts p i t blank_token n) (all i)
