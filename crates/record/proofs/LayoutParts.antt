-- The seven parts of the words: what is read and written in one of them. They stand one behind the other, so an index is in one of them
-- only. Assumes nothing.
use mathlib.Core.Path.{◌≡◌, refl, sym, ap, ap₂, ◌∙◌}
use mathlib.Core.List.{List, [], ◌++◌, append_assoc, append-nil}
use Prim.Native.Nat.{ℕ, ◌+◌, ◌-◌, ◌*◌, ◌<◌}
use native.Mathlib.Omega.{arith}
use lib.ListN.{length, get_or, set, take, drop, length-append, length-set, get_or-append}
use lib.Seq.{set-append_left, paste, take-append-le, drop-append-le}
use Rattle.model.specs.Machine.Blank.{blank_token, blank_cell}
use Rattle.model.specs.declared.token.Token.{Token}
use Rattle.model.specs.declared.cell.Cell.{Cell}
use Rattle.model.specs.declared.record.Machine.{Machine}
use Rattle.record.specs.Layout.{row_of, cell_row, table_words, parts, count_words, clock_words}
use Rattle.record.specs.Holds.{Shaped}
use Rattle.record.proofs.LayoutTable.{rows-length, rows_get, rows-set, rows-set2, rows-paste, get-behind, set-behind}
use Rattle.record.proofs.LayoutPart.{Stands}

pub row-wide : (t : Token) → length (row_of t) ≡ 24
unfolding row_of
row-wide t = refl

pub cell-wide : (c : Cell) → length (cell_row c) ≡ 4
unfolding cell_row
cell-wide c = refl

-- how long each part is
pub record Sized (ts : List Token) (cs : List Cell) (q w k l c : List ℕ) : Type 0 where
  pub tokens : length ts ≡ 64
  pub cells : length cs ≡ 32
  pub queue : length q ≡ 64
  pub waits : length w ≡ 64
  pub counts : length k ≡ 5
  pub timers : length l ≡ 64
  pub clock : length c ≡ 2

pub sized : {m : Machine} → Shaped m
    → Sized m.tokens m.cells m.queue m.waits (count_words m) m.timers (clock_words m)
unfolding count_words clock_words
sized s =
    record {
      tokens = s.tokens;
      cells = s.cells;
      queue = s.queue;
      waits = s.waits;
      counts = refl;
      timers = s.timers;
      clock = refl;
    }

module _ {ts : List Token} {cs : List Cell} {q w k l c : List ℕ} (z : Sized ts cs q w k l c) where
  abbrev rows : List ℕ
  rows = table_words row_of ts

  abbrev cell_rows : List ℕ
  cell_rows = table_words cell_row cs

  tokens-long : length rows ≡ 1536
  tokens-long = rows-length row_of 24 row-wide ts ∙ ap (λ n. 24 * n) z.tokens

  cells-long : length cell_rows ≡ 128
  cells-long = rows-length cell_row 4 cell-wide cs ∙ ap (λ n. 4 * n) z.cells

  further : (xs ys : List ℕ) (n i : ℕ) → length xs ≡ n → length ys ≡ i → length (xs ++ ys) ≡ n + i
  further xs ys n i a b = length-append xs ys ∙ ap₂ (λ a b. a + b) a b

  -- what stands before the queue, the wait order, the counts, the order of call and the clock
  abbrev before_queue : List ℕ
  before_queue = rows ++ cell_rows

  abbrev before_waits : List ℕ
  before_waits = before_queue ++ q

  abbrev before_counts : List ℕ
  before_counts = before_waits ++ w

  abbrev before_timers : List ℕ
  before_timers = before_counts ++ k

  abbrev before_clock : List ℕ
  before_clock = before_timers ++ l

  queue-split : (r : List ℕ) → rows ++ (cell_rows ++ r) ≡ before_queue ++ r
  queue-split r = sym (append_assoc rows cell_rows r)

  waits-split : (r : List ℕ) → rows ++ (cell_rows ++ (q ++ r)) ≡ before_waits ++ r
  waits-split r = queue-split (q ++ r) ∙ sym (append_assoc before_queue q r)

  counts-split : (r : List ℕ) → rows ++ (cell_rows ++ (q ++ (w ++ r))) ≡ before_counts ++ r
  counts-split r = waits-split (w ++ r) ∙ sym (append_assoc before_waits w r)

  timers-split : (r : List ℕ) → rows ++ (cell_rows ++ (q ++ (w ++ (k ++ r)))) ≡ before_timers ++ r
  timers-split r = counts-split (k ++ r) ∙ sym (append_assoc before_counts k r)

  clock-split : (r : List ℕ) → rows ++ (cell_rows ++ (q ++ (w ++ (k ++ (l ++ r))))) ≡ before_clock ++ r
  clock-split r = timers-split (l ++ r) ∙ sym (append_assoc before_timers l r)

  queue-at : length before_queue ≡ 1664
  queue-at = further rows cell_rows 1536 128 tokens-long cells-long

  waits-at : length before_waits ≡ 1728
  waits-at = further before_queue q 1664 64 queue-at z.queue

  counts-at : length before_counts ≡ 1792
  counts-at = further before_waits w 1728 64 waits-at z.waits

  timers-at : length before_timers ≡ 1797
  timers-at = further before_counts k 1792 5 counts-at z.counts

  clock-at : length before_clock ≡ 1861
  clock-at = further before_timers l 1797 64 timers-at z.timers

  pub queue-stands : Stands (λ x. parts ts cs x w k l c) 1664
  unfolding parts
  queue-stands = record { before = before_queue; after = w ++ (k ++ (l ++ c)); long = queue-at; split = λ x. queue-split _ }

  pub waits-stand : Stands (λ x. parts ts cs q x k l c) 1728
  unfolding parts
  waits-stand = record { before = before_waits; after = k ++ (l ++ c); long = waits-at; split = λ x. waits-split _ }

  pub counts-stand : Stands (λ x. parts ts cs q w x l c) 1792
  unfolding parts
  counts-stand = record { before = before_counts; after = l ++ c; long = counts-at; split = λ x. counts-split _ }

  pub timers-stand : Stands (λ x. parts ts cs q w k x c) 1797
  unfolding parts
  timers-stand = record { before = before_timers; after = c; long = timers-at; split = λ x. timers-split _ }

  pub clock-stands : Stands (λ x. parts ts cs q w k l x) 1861
  unfolding parts
  clock-stands =
      record {
        before = before_clock;
        after = [];
        long = clock-at;
        split = λ x. clock-split x ∙ ap (λ r. before_clock ++ r) (sym (append-nil x));
      }

  pub parts-long : length (parts ts cs q w k l c) ≡ 1863
  unfolding parts
  parts-long = ap length (clock-split c) ∙ further before_clock c 1861 2 clock-at z.clock

  -- what stands behind the tokens and behind the cells
  abbrev order_words : List ℕ
  order_words = q ++ (w ++ (k ++ (l ++ c)))

  -- tokens
  module _ (p j : ℕ) (b : p < 64) (s : j < 24) where
    token-there : p < length ts
    token-there = omega (arith, z.tokens)

    pub tokens-get : get_or (parts ts cs q w k l c) (24 * p + j) 0 ≡ get_or (row_of (get_or ts p blank_token)) j 0
    unfolding parts
    tokens-get =
        get_or-append rows _ 0 (24 * p + j) (omega (arith, tokens-long))
        ∙ rows_get row_of 24 row-wide blank_token ts p j token-there s

    pub tokens-set :
        (v : ℕ) (t : Token) → set (row_of (get_or ts p blank_token)) j v ≡ row_of t
        → set (parts ts cs q w k l c) (24 * p + j) v ≡ parts (set ts p t) cs q w k l c
    unfolding parts
    tokens-set v t e =
        set-append_left rows _ (24 * p + j) v (omega (arith, tokens-long))
        ∙ ap (λ r. r ++ (cell_rows ++ order_words)) (rows-set row_of 24 row-wide blank_token ts p j v t token-there s e)

  -- a whole row is written
  pub tokens-paste : (p : ℕ) (t : Token) → p < 64
      → paste (parts ts cs q w k l c) (24 * p) (row_of t) 24 ≡ parts (set ts p t) cs q w k l c
  unfolding parts
  tokens-paste p t b =
      ap₂ (λ a b. a ++ take 24 (row_of t) ++ b)
      (take-append-le (24 * p) rows _ (omega (arith, tokens-long)))
      (drop-append-le (24 * p + 24) rows _ (omega (arith, tokens-long)))
      ∙ sym (append_assoc (take (24 * p) rows ++ take 24 (row_of t)) (drop (24 * p + 24) rows) _)
      ∙ ap (λ r. r ++ (cell_rows ++ order_words)) (rows-paste row_of 24 row-wide ts p t (omega (arith, z.tokens)))

  -- cells
  module _ (x j : ℕ) (b : x < 32) (s : j < 4) where
    cell-there : x < length cs
    cell-there = omega (arith, z.cells)

    cell-index : 1536 + 4 * x + j ≡ 1536 + (4 * x + j)
    cell-index = omega arith

    pub cells-get : get_or (parts ts cs q w k l c) (1536 + 4 * x + j) 0 ≡ get_or (cell_row (get_or cs x blank_cell)) j 0
    unfolding parts
    cells-get =
        ap (λ i. get_or (parts ts cs q w k l c) i 0) cell-index
        ∙ get-behind rows _ 1536 tokens-long (4 * x + j) 0
        ∙ get_or-append cell_rows _ 0 (4 * x + j) (omega (arith, cells-long))
        ∙ rows_get cell_row 4 cell-wide blank_cell cs x j cell-there s

    pub cells-set :
        (v : ℕ) (y : Cell) → set (cell_row (get_or cs x blank_cell)) j v ≡ cell_row y
        → set (parts ts cs q w k l c) (1536 + 4 * x + j) v ≡ parts ts (set cs x y) q w k l c
    unfolding parts
    cells-set v y e =
        ap (λ i. set (parts ts cs q w k l c) i v) cell-index
        ∙ set-behind rows _ 1536 tokens-long (4 * x + j) v
        ∙ ap (λ r. rows ++ r)
        (set-append_left cell_rows _ (4 * x + j) v (omega (arith, cells-long))
        ∙ ap (λ r. r ++ order_words) (rows-set cell_row 4 cell-wide blank_cell cs x j v y cell-there s e))

  -- two words of a row are written
  pub tokens-set2 :
      (p j i u v : ℕ) (t : Token)
      → p < 64
      → j < 24
      → i < 24
      → set (set (row_of (get_or ts p blank_token)) j u) i v ≡ row_of t
      → set (set (parts ts cs q w k l c) (24 * p + j) u) (24 * p + i) v ≡ parts (set ts p t) cs q w k l c
  unfolding parts
  tokens-set2 p j i u v t b x y e =
      ap (λ r. set r (24 * p + i) v) (set-append_left rows _ (24 * p + j) u (omega (arith, tokens-long)))
      ∙ set-append_left (set rows (24 * p + j) u) _ (24 * p + i) v (omega (arith, tokens-long, length-set rows (24 * p + j) u))
      ∙ ap (λ r. r ++ (cell_rows ++ order_words))
      (rows-set2 row_of 24 row-wide blank_token ts p j i u v t (omega (arith, z.tokens)) x y e)

  pub cells-set2 :
      (x j i u v : ℕ) (y : Cell)
      → x < 32
      → j < 4
      → i < 4
      → set (set (cell_row (get_or cs x blank_cell)) j u) i v ≡ cell_row y
      → set (set (parts ts cs q w k l c) (1536 + 4 * x + j) u) (1536 + 4 * x + i) v ≡ parts ts (set cs x y) q w k l c
  unfolding parts
  cells-set2 x j i u v y b s t e =
      ap (λ r. set r (1536 + 4 * x + i) v)
      (ap (λ n. set (parts ts cs q w k l c) n u) (cell-index x j b s) ∙ set-behind rows _ 1536 tokens-long (4 * x + j) u)
      ∙ ap (λ n. set (rows ++ set (cell_rows ++ order_words) (4 * x + j) u) n v) (cell-index x i b t)
      ∙ set-behind rows _ 1536 tokens-long (4 * x + i) v
      ∙ ap (λ r. rows ++ r)
      (ap (λ r. set r (4 * x + i) v) (set-append_left cell_rows _ (4 * x + j) u (omega (arith, cells-long)))
      ∙ set-append_left (set cell_rows (4 * x + j) u) _ (4 * x + i) v (omega (arith, cells-long, length-set cell_rows (4 * x + j) u))
      ∙ ap (λ r. r ++ order_words) (rows-set2 cell_row 4 cell-wide blank_cell cs x j i u v y (omega (arith, z.cells)) s t e))
