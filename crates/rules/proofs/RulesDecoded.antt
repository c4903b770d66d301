-- The record that words decode to has values of 32 bits only, since each is the signed reading of a word. Assumes nothing.
use mathlib.Core.Path.{◌≡◌, refl, sym, ap, ◌∙◌}
use mathlib.Core.Bool.{true}
use mathlib.Core.List.{List}
use Prim.Native.Nat.{ℕ, zero, suc}
use lib.IntN.{ℤ}
use lib.ListN.{get_or, drop}
use Rattle.model.specs.declared.token.Slot.TheVariants as slots
use Rattle.job.specs.Number.{signed, fits}
use Rattle.model.specs.Machine.Blank.{empty, blank_token, blank_cell, token_at, cell_at, slot_at}
use Rattle.model.specs.Machine.Rules.{held_in_range}
use Rattle.model.specs.declared.token.Slot.{Slot}
use Rattle.model.specs.declared.token.Token.{Token}
use Rattle.model.specs.declared.cell.Cell.{Cell}
use Rattle.job.proofs.Test.{never}
use Rattle.job.proofs.Number.{signed-fits}
use Rattle.record.specs.LayoutDecoded.{machine_of, token_from, cell_from, binds_from, held_from, slot_from}
use Rattle.record.specs.Holds.{Codes}
use Rattle.coded.proofs.IsRecord.{table-all}
use Rattle.row_rules.specs.ValuesFit.{ValuesFit}

held_fits : (k n : ℕ) → held_in_range (held_from k n) ≡ true
unfolding held_in_range held_from
held_fits zero n = refl
held_fits (suc k) n = signed-fits n

-- a slot that holds a value holds one of 32 bits
abbrev SlotFits : Slot → Type 0
SlotFits s = (v : ℤ) → s ≡ slots.Value v → fits v ≡ true

slot-fits : (k n : ℕ) → SlotFits (slot_from k n)
unfolding slot_from
slot-fits zero n v e = never cc
slot-fits (suc zero) n v e = let same : signed n ≡ v = cc in ap fits (sym same) ∙ signed-fits n
slot-fits (suc (suc k)) n v e = never cc

binds-fit : (n : ℕ) (ws : List ℕ) (x : ℕ) → SlotFits (get_or (binds_from n ws) x empty)
unfolding binds_from
binds-fit zero ws x v e = never cc
binds-fit (suc n) ws zero v e = slot-fits (get_or ws 0 0) (get_or ws 1 0) v e
binds-fit (suc n) ws (suc x) v e = binds-fit n (drop 2 ws) x v e

none-fits : (n x : ℕ) → SlotFits (get_or (lib.ListN.replicate n empty) x empty)
none-fits zero x v e = never cc
none-fits (suc n) zero v e = never cc
none-fits (suc n) (suc x) v e = none-fits n x v e

pub decoded : {ws : List ℕ} → Codes ws (machine_of ws) → ValuesFit ws (machine_of ws)
unfolding machine_of token_at cell_at slot_at token_from cell_from held_in_range
decoded {ws} h =
    record {
      codes = h;
      values =
          λ p.
          table-all token_from 24 (λ (t : Token). held_in_range t.value ≡ true) blank_token refl
          (λ r. held_fits (get_or r 5 0) (get_or r 6 0)) 64 ws p;
      slots =
          λ p x.
          table-all token_from 24 (λ (t : Token). SlotFits (get_or t.binds x empty)) blank_token (none-fits 8 x)
          (λ r. binds-fit 8 (drop 8 r) x) 64 ws p;
      cells =
          λ c.
          table-all cell_from 4 (λ (k : Cell). held_in_range k.value ≡ true) blank_cell refl (λ r. held_fits (get_or r 1 0) (get_or r 2
          0)) 32
          (drop 1536 ws) c;
    }
