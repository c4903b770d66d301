-- A cell's row: what its words say of the cell, and what writing them makes of it. Four words of the table, each at its index of the row.
-- Assumes nothing.
use mathlib.Core.Path.{◌≡◌, refl, sym, ap, ap₂, subst, ◌∙◌}
use mathlib.Core.List.{List}
use Prim.Native.Nat.{ℕ, ◌+◌, ◌-◌, ◌*◌, ◌<◌}
use native.Mathlib.Omega.{arith}
use lib.ListN.{length, get_or, set, length-set}
use lib.Seq.{get_or-set_same, set-set, set-get_or}
use Rattle.std.specs.Prelude.{None}
use Rattle.model.specs.Machine.Blank.{blank_cell, cell_at}
use Rattle.model.specs.Machine.Update.{with_tables}
use Rattle.model.specs.Machine.Held.{Held, Place}
use Rattle.model.specs.declared.cell.Cell.{Cell}
use Rattle.model.specs.declared.record.Machine.{Machine}
use Rattle.record.specs.Changes.{store_cell, unset_cell, set_cell}
use Rattle.record.specs.Layout.{cell_row, words_of, count_words, clock_words, parts, place_number, held_kind, held_number}
use Rattle.record.specs.Holds.{Codes, Holds}
use Rattle.record.proofs.LayoutParts as parts_laws
use Rattle.record.proofs.HoldsShape.{shaped, tables-hold}

module _ {ws : List ℕ} {m : Machine} (h : Codes ws m) (c : ℕ) (l : c < 32) where
  abbrev k : Cell
  k = cell_at m.cells c

  pub cell-word : (j : ℕ) → j < 4 → get_or ws (1536 + 4 * c + j) 0 ≡ get_or (cell_row k) j 0
  unfolding cell_at words_of
  cell-word j s =
      ap (λ r. get_or r (1536 + 4 * c + j) 0) h.words
      ∙ parts_laws.cells-get (parts_laws.sized h.shaped) c j l s

  pub parent-word : get_or ws (1536 + 4 * c) 0 ≡ place_number k.parent
  unfolding cell_row
  parent-word = let z : 1536 + 4 * c ≡ 1536 + 4 * c + 0 = omega arith in ap (λ i. get_or ws i 0) z ∙ cell-word 0 (omega arith)

  pub value-kind-word : get_or ws (1536 + 4 * c + 1) 0 ≡ held_kind k.value
  unfolding cell_row
  value-kind-word = cell-word 1 (omega arith)

  pub value-word : get_or ws (1536 + 4 * c + 2) 0 ≡ held_number k.value
  unfolding cell_row
  value-word = cell-word 2 (omega arith)

-- a cell may stand for itself
pub put_self : (m : Machine) (c : ℕ) → store_cell c (cell_at m.cells c) m ≡ m
unfolding with_tables cell_at
put_self m c = ap (λ cs. with_tables m.tokens cs m) (set-get_or m.cells c blank_cell)

-- writing: the cell k at c becomes another
module _ {ws : List ℕ} (m : Machine) (k : Cell) (c : ℕ) (h : Holds ws (store_cell c k m)) (l : c < 32) where
  cells-long : length m.cells ≡ 32
  unfolding with_tables
  cells-long = sym (length-set m.cells c k) ∙ (shaped h).cells

  here : get_or (set m.cells c k) c blank_cell ≡ k
  here = get_or-set_same m.cells c k blank_cell (omega (arith, cells-long))

  becomes : (x : Cell) {xs : List ℕ}
      → xs ≡ parts m.tokens (set (set m.cells c k) c x) m.queue m.waits (count_words m) m.timers (clock_words m)
      → Holds xs (store_cell c x m)
  unfolding with_tables count_words clock_words
  becomes x {xs} e =
      subst (λ cs. Holds xs (with_tables m.tokens cs m)) (set-set m.cells c k x)
      (tables-hold h m.tokens (set (set m.cells c k) c x) e (shaped h).tokens
      (length-set (set m.cells c k) c x ∙ (length-set m.cells c k ∙ cells-long)) (shaped h).binds)

  pub parent-put : (n : ℕ) (q : Place) → place_number q ≡ n
      → Holds (set ws (1536 + 4 * c) n) (store_cell c (record { parent = q; value = k.value }) m)
  unfolding with_tables words_of count_words clock_words cell_row
  parent-put n q e =
      let z : 1536 + 4 * c ≡ 1536 + 4 * c + 0 = omega arith in
      becomes (record { parent = q; value = k.value })
      (ap₂ (λ r i. set r i n) h.codes.words z
      ∙ parts_laws.cells-set (parts_laws.sized (shaped h)) c 0 l (omega arith) n
      (record { parent = q; value = k.value }) (ap (λ x. set (cell_row x) 0 n) here ∙ rw (← e)))

  pub value-put : (i n : ℕ) (v : Held) → held_kind v ≡ i → held_number v ≡ n
      → Holds (set (set ws (1536 + 4 * c + 1) i) (1536 + 4 * c + 2) n) (store_cell c (set_cell v k) m)
  unfolding with_tables words_of count_words clock_words cell_row
  value-put i n v e f =
      becomes (set_cell v k)
      (ap (λ r. set (set r (1536 + 4 * c + 1) i) (1536 + 4 * c + 2) n) h.codes.words
      ∙ parts_laws.cells-set2 (parts_laws.sized (shaped h)) c 1 2 i n (set_cell v k) l
      (omega arith)
      (omega arith) (ap (λ x. set (set (cell_row x) 1 i) 2 n) here ∙ rw (← e, ← f)))

module _ {ws : List ℕ} {m : Machine} (h : Holds ws m) (c : ℕ) (l : c < 32) where
  abbrev there : Cell
  there = cell_at m.cells c

  stays : Holds ws (store_cell c there m)
  stays = subst (Holds ws) (sym (put_self m c)) h

  pub set-put : (i n : ℕ) (v : Held) → held_kind v ≡ i → held_number v ≡ n
      → Holds (set (set ws (1536 + 4 * c + 1) i) (1536 + 4 * c + 2) n) (store_cell c (set_cell v there) m)
  set-put i n v e f = value-put m there c stays l i n v e f

  pub unset-put : (n : ℕ) (q : Place) → place_number q ≡ n
      → Holds (set (set (set ws (1536 + 4 * c) n) (1536 + 4 * c + 1) 0) (1536 + 4 * c + 2) 0) (store_cell c (unset_cell q) m)
  unset-put n q e = value-put m (record { parent = q; value = there.value }) c (parent-put m there c stays l n q e) l 0 0 None
      refl refl
