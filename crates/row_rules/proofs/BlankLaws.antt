-- A blank token's words are 0, and no other token's: field by field; so of a cell, and of all from a place on. Assumes nothing.
use mathlib.Core.Path.{◌≡◌, refl, sym, ◌∙◌, ap, ap₂}
use mathlib.Core.Bool.{Bool, true, not}
use mathlib.Core.List.{List}
use Prim.Native.Nat.{ℕ, zero, suc, ◌+◌, ◌-◌, ◌*◌, ◌<◌, ◌≤◌}
use native.Mathlib.Omega.{arith}
use lib.Dec.{eqb}
use lib.ListN.{length, get_or, take, drop}
use Rattle.std.specs.Prelude.{Some, None}
use Rattle.model.specs.declared.token.Slot.TheVariants as slots
use Rattle.model.specs.declared.token.State.TheVariants as states
use Rattle.job.specs.Test.{◌and◌, for_all}
use Rattle.model.specs.Machine.Blank.{empty, slot_at, is_bound, is_place, has_value}
use Rattle.model.specs.Machine.Blank.{token_is_blank, cell_is_blank, blank_token, blank_cell, cell_at}
use Rattle.model.specs.Machine.State.{is_blank_state}
use Rattle.model.specs.declared.token.Slot.{Slot}
use Rattle.model.specs.Machine.Held.{Held, Place}
use Rattle.model.specs.declared.token.State.{State}
use Rattle.model.specs.declared.token.Token.{Token}
use Rattle.model.specs.declared.cell.Cell.{Cell}
use Rattle.job.proofs.Both.{and-true}
use Rattle.job.proofs.Test.{ne_eqb, and_left, and_right, and_both}
use Rattle.record.specs.Layout.{row_of, cell_row, place_number, state_kind, state_number, held_kind, held_number, slot_kind, slot_number}
use Rattle.job.proofs.Lists.{table, listed, same-when, part-is}
use Rattle.model.specs.Machine.Blank.{token_at}
use Rattle.model.specs.declared.record.Machine.{Machine}
use Rattle.record.specs.Holds.{Codes}
use Rattle.record.proofs.CountLaws.{words_long}
use Rattle.record.proofs.LayoutParts.{row-wide, cell-wide}
use Rattle.record.proofs.CellRow.{cell-word}
use Rattle.record.proofs.TokenRow.{token-word}
use Rattle.coded.specs.WordTests.{token_coded, cell_at_coded}
use Rattle.coded.proofs.WordTests.{zero_row, zero_cell}
use Rattle.row_rules.proofs.ZeroRows.{zero_word, rows-zero}

state-zero : (s : State) (b : Bool) → (eqb 0 (state_kind s) and eqb 0 (state_number s) and b) ≡ (is_blank_state s and b)
unfolding is_blank_state ◌and◌
state-zero states.Blank b = refl
state-zero states.Ready b = refl
state-zero (states.Waiting c) b = refl
state-zero (states.Called h) b = refl
state-zero (states.Due d) b = refl
state-zero states.Frame b = refl

held-zero : (v : Held) (b : Bool) → (eqb 0 (held_kind v) and eqb 0 (held_number v) and b) ≡ (not (has_value v) and b)
unfolding has_value ◌and◌
held-zero None b = refl
held-zero (Some v) b = refl

slot-zero : (s : Slot) {a b : Bool} → a ≡ b → (eqb 0 (slot_kind s) and eqb 0 (slot_number s) and a) ≡ (not (is_bound s) and b)
unfolding is_bound ◌and◌
slot-zero slots.Empty e = e
slot-zero (slots.Value v) e = refl
slot-zero (slots.Cell c) e = refl

place-zero : (q : Place) → eqb 0 (place_number q) ≡ not (is_place q)
unfolding is_place
place-zero None = refl
place-zero (Some p) = ne_eqb 0 (p + 1) (λ e. omega arith)

zero_same : (n : ℕ) → eqb 0 n ≡ eqb n 0
zero_same zero = refl
zero_same (suc n) = ne_eqb 0 (suc n) (λ e. omega arith) ∙ sym (ne_eqb (suc n) 0 (λ e. omega arith))

-- the slots' words
abbrev slot_zero : Slot → Bool → Bool
slot_zero s b = eqb 0 (slot_kind s) and eqb 0 (slot_number s) and b

slots-zero : (bs : List Slot) → length bs ≡ 8
    → slot_zero (slot_at bs 0) (slot_zero (slot_at bs 1) (slot_zero (slot_at bs 2) (slot_zero (slot_at bs 3)
    (slot_zero (slot_at bs 4) (slot_zero (slot_at bs 5) (slot_zero (slot_at bs 6) (slot_zero (slot_at bs 7) true)))))))
    ≡ for_all (λ (b : Slot). not (is_bound b)) bs
unfolding for_all table slot_at
slots-zero bs l =
    slot-zero (slot_at bs 0) (slot-zero (slot_at bs 1) (slot-zero (slot_at bs 2) (slot-zero (slot_at bs 3)
    (slot-zero (slot_at bs 4) (slot-zero (slot_at bs 5) (slot-zero (slot_at bs 6) (slot-zero (slot_at bs 7) refl)))))))
    ∙ sym (ap (for_all (λ (b : Slot). not (is_bound b))) (listed empty 8 bs l))

-- a word that is always 0
spare : (b : Bool) → (true and b) ≡ b
unfolding ◌and◌
spare b = refl

reordered : (a n p c v s : Bool) → (a and n and p and c and v and s) ≡ (a and n and s and v and p and c)
reordered a n p c v s =
    same-when _ _ (λ e. search (and_left, and_right, and_both) depth 9) (λ e. search (and_left, and_right, and_both) depth 9)

pub row_zero : (t : Token) → length t.binds ≡ 8 → for_all (eqb 0) (row_of t) ≡ token_is_blank t
unfolding row_of for_all token_is_blank
row_zero t l =
    state-zero t.state _
    ∙ ap (◌and◌ (is_blank_state t.state))
    (ap₂ ◌and◌ (zero_same t.node)
    (ap₂ ◌and◌ (place-zero t.caller)
    (ap₂ ◌and◌ (place-zero t.cell)
    (held-zero t.value _ ∙ ap (◌and◌ (not (has_value t.value))) (spare _ ∙ slots-zero t.binds l)))))
    ∙ reordered _ _ _ _ _ _

-- the words of a place, from its first on
module _ (ws : List ℕ) (p : ℕ) where
  abbrev pub is_zero_row : Bool
  is_zero_row = for_all (eqb 0) (take (24 * p + 24 - 24 * p) (drop (24 * p) ws))

  as_row : is_zero_row ≡ for_all (eqb 0) (take 24 (drop (24 * p) ws))
  as_row = let e : 24 * p + 24 - 24 * p ≡ 24 = omega arith in ap (λ n. for_all (eqb 0) (take n (drop (24 * p) ws))) e

  pub zero-coded : length ws ≡ 1863 → p < 64 → is_zero_row ≡ true → token_coded ws p ≡ true
  zero-coded long l e = zero_row ws (24 * p) (λ k b. zero_word ws (24 * p) 24 k (omega arith) (sym as_row ∙ e) b)

  row-blank : p < 64 → (m : Machine) → Codes ws m
      → for_all (eqb 0) (take 24 (drop (24 * p) ws)) ≡ token_is_blank (token_at m.tokens p)
  row-blank l m h =
      let t = token_at m.tokens p in
      ap (for_all (eqb 0))
      (part-is ws (24 * p) 24 (row_of t) 0 (row-wide t) (omega (arith, words_long h)) (token-word h p l)) ∙ row_zero t (h.shaped.binds p)

  pub zero-blank : p < 64 → (m : Machine) → Codes ws m → is_zero_row ≡ token_is_blank (token_at m.tokens p)
  zero-blank l m h = as_row ∙ row-blank l m h

-- the words of all places from one on
module _ (ws : List ℕ) (from : ℕ) (l : from ≤ 64) where
  abbrev pub zero_tokens : Bool
  zero_tokens = for_all (eqb 0) (take (1536 - 24 * from) (drop (24 * from) ws))

  pub tokens-coded : length ws ≡ 1863 → zero_tokens ≡ true → (p : ℕ) → from ≤ p → p < 64 → token_coded ws p ≡ true
  tokens-coded long e p f b =
      zero_row ws (24 * p) (λ k c.
      let z : 24 * p + k ≡ 24 * from + (24 * (p - from) + k) = omega arith in
      ap (λ i. get_or ws i 0) z ∙ zero_word ws (24 * from) (1536 - 24 * from) (24 * (p - from) + k) (omega arith) e (omega arith))

  pub tokens-blank : (m : Machine) → Codes ws m → zero_tokens ≡ for_all token_is_blank (drop from m.tokens)
  unfolding token_at
  tokens-blank m h =
      let long = h.shaped.tokens in
      let z : 1536 - 24 * from ≡ 24 * (64 - from) = omega arith in
      ap (λ n. for_all (eqb 0) (take n (drop (24 * from) ws))) z
      ∙ rows-zero token_is_blank blank_token ws 24 (λ p. 24 * p) (λ p. omega arith) m.tokens
      (λ p b. row-blank ws p (omega (arith, long)) m h) (64 - from) from (omega (arith, long))

-- a blank cell's words are 0, and no other cell's
cell-zero : (c : Cell) → for_all (eqb 0) (cell_row c) ≡ cell_is_blank c
unfolding cell_row for_all cell_is_blank
cell-zero c =
    ap₂ ◌and◌ (place-zero c.parent) (held-zero c.value _ ∙ ap (◌and◌ (not (has_value c.value))) (spare true) ∙ and-true _)

module _ (ws : List ℕ) (from : ℕ) (l : from ≤ 32) where
  abbrev pub zero_cells : Bool
  zero_cells = for_all (eqb 0) (take (1664 - (1536 + 4 * from)) (drop (1536 + 4 * from) ws))

  pub cells-coded : length ws ≡ 1863 → zero_cells ≡ true → (c : ℕ) → from ≤ c → c < 32 → cell_at_coded ws c ≡ true
  cells-coded long e c f b =
      zero_cell ws (1536 + 4 * c)
      (λ j s.
      let z : 1536 + 4 * from + (4 * (c - from) + j) ≡ 1536 + 4 * c + j = omega arith in
      sym (ap (λ i. get_or ws i 0) z)
      ∙ zero_word ws (1536 + 4 * from) (1664 - (1536 + 4 * from)) (4 * (c - from) + j) (omega arith) e (omega arith))

  pub cells-blank : (m : Machine) → Codes ws m → zero_cells ≡ for_all cell_is_blank (drop from m.cells)
  unfolding cell_at
  cells-blank m h =
      let long = h.shaped.cells in
      let z : 1664 - (1536 + 4 * from) ≡ 4 * (32 - from) = omega arith in
      ap (λ n. for_all (eqb 0) (take n (drop (1536 + 4 * from) ws))) z
      ∙ rows-zero cell_is_blank blank_cell ws 4 (λ c. 1536 + 4 * c) (λ c. omega arith) m.cells
      (λ c b.
      let k = cell_at m.cells c in
      ap (for_all (eqb 0))
      (part-is ws (1536 + 4 * c) 4 (cell_row k) 0 (cell-wide k) (omega (arith, words_long h)) (cell-word h c (omega (arith, long))))
      ∙ cell-zero k) (32 - from) from (omega (arith, long))
