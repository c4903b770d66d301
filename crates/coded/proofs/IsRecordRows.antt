-- Row by row: words are a record's exactly when each token's and each cell's words pass. Assumes nothing.
use mathlib.Core.Path.{◌≡◌, refl, sym, ap, ◌∙◌}
use mathlib.Core.Bool.{Bool, true}
use mathlib.Core.List.{List}
use Prim.Native.Nat.{ℕ, zero, suc, ◌+◌, ◌*◌, ◌<◌}
use native.Mathlib.Nat.{mul-zero, mul-suc}
use native.Mathlib.Omega.{arith}
use lib.ListN.{length, take, drop}
use lib.Seq.{drop-drop}
use Rattle.model.specs.declared.record.Machine.{Machine}
use Rattle.job.proofs.Test.{and_left, and_right, and_both}
use Rattle.record.specs.Holds.{Codes}
use Rattle.coded.specs.WordTests.{row_coded, cell_coded, table_coded, token_coded, cell_at_coded, record_coded}
use Rattle.coded.specs.IsRecord.{is_record, RowByRow}
use Rattle.coded.proofs.IsRecord.{Small, words-pass, coded-record, record-codes}

module _ (ok : List ℕ → Bool) (w : ℕ) where
  abbrev row_at : List ℕ → ℕ → List ℕ
  row_at ws p = take w (drop (w * p) ws)

  -- the rows behind the first are those of what is left
  row_next : (ws : List ℕ) (p : ℕ) → row_at (drop w ws) p ≡ row_at ws (suc p)
  row_next ws p =
      let z : w + w * p ≡ w * suc p = omega (arith, mul-suc w p) in ap (take w) (drop-drop (w * p) w ws ∙ ap (λ k. drop k ws) z)

  row_first : (ws : List ℕ) → row_at ws 0 ≡ take w ws
  row_first ws = ap (λ k. take w (drop k ws)) (mul-zero w)

  table-each : (n : ℕ) (ws : List ℕ) → table_coded ok w n ws ≡ true → (p : ℕ) → p < n → ok (row_at ws p) ≡ true
  unfolding table_coded
  table-each zero ws e p l = absurd (omega arith)
  table-each (suc n) ws e zero l = ap ok (row_first ws) ∙ and_left (ok (take w ws)) _ e
  table-each (suc n) ws e (suc p) l =
      ap ok (sym (row_next ws p)) ∙ table-each n (drop w ws) (and_right (ok (take w ws)) _ e) p (omega arith)

  table-whole : (n : ℕ) (ws : List ℕ) → ((p : ℕ) → p < n → ok (row_at ws p) ≡ true) → table_coded ok w n ws ≡ true
  unfolding table_coded
  table-whole zero ws f = refl
  table-whole (suc n) ws f =
      and_both (ap ok (sym (row_first ws)) ∙ f 0 (omega arith))
      (table-whole n (drop w ws) (λ p l. ap ok (row_next ws p) ∙ f (suc p) (omega arith)))

pub cell_row : (ws : List ℕ) (c : ℕ) → row_at cell_coded 4 (drop 1536 ws) c ≡ take 4 (drop (1536 + 4 * c) ws)
cell_row ws c = ap (take 4) (drop-drop (4 * c) 1536 ws)

module _ {ws : List ℕ} {m : Machine} (h : Codes ws m) where
  passes : record_coded ws ≡ true
  passes = ap record_coded h.words ∙ words-pass m h.shaped.tokens h.shaped.cells

  pub codes-token : (p : ℕ) → p < 64 → token_coded ws p ≡ true
  unfolding record_coded
  codes-token p l = table-each row_coded 24 64 ws (and_left (table_coded row_coded 24 64 ws) _ passes) p l

  pub codes-cell : (c : ℕ) → c < 32 → cell_at_coded ws c ≡ true
  unfolding record_coded
  codes-cell c l =
      ap cell_coded (sym (cell_row ws c))
      ∙ table-each cell_coded 4 32 (drop 1536 ws) (and_right (table_coded row_coded 24 64 ws) _ passes) c l

pub all-coded-record : (ws : List ℕ) → length ws ≡ 1863 → Small ws → ((p : ℕ) → p < 64 → token_coded ws p ≡ true)
    → ((c : ℕ) → c < 32 → cell_at_coded ws c ≡ true) → is_record ws ≡ true
unfolding record_coded
all-coded-record ws long small f g =
    sym (coded-record ws long small)
    ∙ and_both (table-whole row_coded 24 64 ws f)
    (table-whole cell_coded 4 32 (drop 1536 ws) (λ c l. ap cell_coded (cell_row ws c) ∙ g c l))

pub row_by_row : (ws : List ℕ) → length ws ≡ 1863 → Small ws → RowByRow ws
row_by_row ws long small = record { codes = record-codes ws long; passes = all-coded-record ws long small }
