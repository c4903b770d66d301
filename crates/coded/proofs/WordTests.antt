-- The tests of words, one after the other. Each is the conjunction of its fields, tested in the order of the row. Assumes nothing.
use mathlib.Core.Path.{◌≡◌, refl, sym, ap, ap₂, ◌∙◌}
use mathlib.Core.Bool.{Bool, true, false, ◌&&◌}
use mathlib.Core.List.{List, ◌∷◌}
use Prim.Native.Nat.{ℕ, zero, suc, ◌+◌, ◌*◌, ◌<◌, ◌≤◌}
use native.Mathlib.Omega.{arith}
use lib.Dec.{eqb}
use lib.ListN.{length, get_or, take, drop, replicate, get_or-replicate, length-drop}
use lib.Seq.{get_or-drop, drop-drop, take-add, length-take-le, take_at, drop_at}
use native.Mathlib.Nat.{mul-zero, mul-suc}
use Rattle.std.specs.Simd.{first_chunks}
use Rattle.std.specs.List.{list_all}
use Rattle.job.specs.Test.{◌and◌}
use Rattle.job.specs.Rows.{words_in_rows}
use Rattle.job.proofs.Lists.{part_at}
use Rattle.coded.specs.WordTests.{slot_coded, held_coded, state_coded, binds_coded, row_coded, cell_coded, table_coded, record_coded}

-- the slots from k on
at_drop : (k j : ℕ) (ws : List ℕ) → get_or (drop k ws) j 0 ≡ get_or ws (k + j) 0
at_drop k j ws = get_or-drop k ws j 0

slots-step : (n k : ℕ) (ws : List ℕ)
    → binds_coded (suc n) (drop k ws) ≡ (slot_coded (get_or ws k 0) (get_or ws (k + 1) 0) and binds_coded n (drop (k + 2) ws))
unfolding binds_coded
slots-step n k ws =
    let z : k + 0 ≡ k = omega arith in
    ap₂ (λ a b. slot_coded a b and binds_coded n (drop 2 (drop k ws))) (at_drop k 0 ws ∙ ap (λ i. get_or ws i 0) z) (at_drop k 1 ws)
    ∙ ap (λ r. slot_coded (get_or ws k 0) (get_or ws (k + 1) 0) and binds_coded n r) (drop-drop 2 k ws)

-- a row
slots_same : (n : ℕ) (a b : List ℕ) → ((i : ℕ) → i < 2 * n → get_or a i 0 ≡ get_or b i 0) → binds_coded n a ≡ binds_coded n b
unfolding binds_coded
slots_same zero a b f = refl
slots_same (suc n) a b f =
    ap₂ (λ x y. slot_coded x y and binds_coded n (drop 2 a)) (f 0 (omega arith)) (f 1 (omega arith))
    ∙ ap (λ r. slot_coded (get_or b 0 0) (get_or b 1 0) and r)
    (slots_same n (drop 2 a) (drop 2 b) (λ i l. at_drop 2 i a ∙ f (2 + i) (omega arith) ∙ sym (at_drop 2 i b)))

module _ (ws : List ℕ) (at : ℕ) where
  abbrev row : List ℕ
  row = take 24 (drop at ws)

  in_row : (j : ℕ) → j < 24 → get_or row j 0 ≡ get_or ws (at + j) 0
  in_row j l = part_at ws at 24 j 0 l

  row-slots : binds_coded 8 (drop 8 row) ≡ binds_coded 8 (drop (at + 8) ws)
  row-slots =
      slots_same 8 (drop 8 row) (drop (at + 8) ws)
      (λ i l.
      let z : at + (8 + i) ≡ at + 8 + i = omega arith in
      at_drop 8 i row ∙ in_row (8 + i) (omega arith) ∙ ap (λ k. get_or ws k 0) z ∙ sym (at_drop (at + 8) i ws))

  row_is : row_coded row
      ≡ (state_coded (get_or ws at 0) (get_or ws (at + 1) 0)
      and (held_coded (get_or ws (at + 5) 0) (get_or ws (at + 6) 0) and (eqb (get_or ws (at + 7) 0) 0 and binds_coded 8 (drop (at + 8)
      ws))))
  unfolding row_coded
  row_is =
      let z : at + 0 ≡ at = omega arith in
      rw (
        in_row 0 (omega arith),
        in_row 1 (omega arith),
        in_row 5 (omega arith),
        in_row 6 (omega arith),
        in_row 7 (omega arith),
        row-slots,
        z,
      )

-- a row of zeros is a blank token's
pub zero_row : (ws : List ℕ) (at : ℕ) → ((k : ℕ) → k < 24 → get_or ws (at + k) 0 ≡ 0) → row_coded (take 24 (drop at ws)) ≡ true
unfolding binds_coded ◌and◌
zero_row ws at f =
    let first : get_or ws at 0 ≡ 0 = ap (λ k. get_or ws k 0) (let z : at ≡ at + 0 = omega arith in z) ∙ f 0 (omega arith) in
    row_is ws at
    ∙ rw (first, f 1 (omega arith), f 5 (omega arith), f 6 (omega arith), f 7 (omega arith))
    (slots_same 8 (drop (at + 8) ws) (replicate 16 0)
    (λ i l. let z : at + 8 + i ≡ at + (8 + i) = omega arith in
    at_drop (at + 8) i ws ∙ ap (λ k. get_or ws k 0) z ∙ f (8 + i) (omega arith) ∙ sym (get_or-replicate {A = ℕ} 16 i 0 0 (omega arith))))

-- a row of zeros is a blank cell's
pub zero_cell : (ws : List ℕ) (at : ℕ) → ((k : ℕ) → k < 4 → get_or ws (at + k) 0 ≡ 0) → cell_coded (take 4 (drop at ws)) ≡ true
unfolding cell_coded ◌and◌
zero_cell ws at f =
    let in_cell : (j : ℕ) → j < 4 → get_or (take 4 (drop at ws)) j 0 ≡ 0 = λ j l. part_at ws at 4 j 0 l ∙ f j l in
    rw (in_cell 1 (omega arith), in_cell 2 (omega arith), in_cell 3 (omega arith))

pub table-listed : (ok : List ℕ → Bool) (w n : ℕ) (ws : List ℕ) → list_all ok (words_in_rows w n ws) ≡ table_coded ok w n ws
unfolding words_in_rows table_coded ◌and◌
table-listed ok w zero ws = refl
table-listed ok w (suc n) ws = ap (λ r. ok (take w ws) && r) (table-listed ok w n (drop w ws))

abbrev pub bind_coded : List ℕ → Bool
bind_coded r = slot_coded (get_or r 0 0) (get_or r 1 0)

pub binds-listed : (n : ℕ) (ws : List ℕ) → list_all bind_coded (words_in_rows 2 n ws) ≡ binds_coded n ws
unfolding words_in_rows binds_coded ◌and◌
binds-listed zero ws = refl
binds-listed (suc n) ws =
    ap₂ (λ k m. slot_coded k m && list_all bind_coded (words_in_rows 2 n (drop 2 ws)))
    (part_at ws 0 2 0 0 (omega arith)) (part_at ws 0 2 1 0 (omega arith))
    ∙ ap (λ r. slot_coded (get_or ws 0 0) (get_or ws 1 0) && r) (binds-listed n (drop 2 ws))

pub all_coded : (ws : List ℕ) (a b : Bool) → a ≡ table_coded row_coded 24 64 ws → b ≡ table_coded cell_coded 4 32 (drop 1536 ws)
    → a ≡ true → b ≡ record_coded ws
unfolding record_coded ◌and◌
all_coded ws a b e f t = rw (← e, t) f

pub not-coded : (ws : List ℕ) (a : Bool) → a ≡ table_coded row_coded 24 64 ws → a ≡ false → false ≡ record_coded ws
unfolding record_coded ◌and◌
not-coded ws a e t = rw (← e, t)
