-- Which changes of the cells put a chain under a set cell: an unset cell below a clear one does not, and a cell that is set does so only to
-- what is within it. A chain is followed cell by cell, so each is an induction over the links looked at. Assumes nothing.
use mathlib.Core.Path.{◌≡◌, refl, sym, ◌∙◌, ap, subst}
use mathlib.Core.Bool.{Bool, true, false}
use mathlib.Core.List.{List}
use Prim.Native.Nat.{ℕ, zero, suc, ◌<◌}
use native.Mathlib.Decide.{dec_lt, ℕ_discrete}
use native.Mathlib.Omega.{arith}
use lib.ListN.{length, set, length-set}
use lib.Seq.{set_out}
use lib.Dec.{eqb}
use Rattle.std.specs.Prelude.{Some, None}
use Rattle.model.specs.Machine.Blank.{blank_cell, cell_at, has_value}
use Rattle.model.specs.Machine.Active.{cell_is_set, upward, under_set, within}
use Rattle.model.specs.Machine.Held.{Place}
use Rattle.model.specs.declared.cell.Cell.{Cell}
use Rattle.job.proofs.Test.{clash, eqb-ne}
use Rattle.model.proofs.Machine.TableRows.{cell_same, cell_other}

-- a test that fails all the way up a chain fails at each cell of it, and back
module _ (test : ℕ → Cell → Bool) (cs : List Cell) where
  up-here : (n c : ℕ) → upward test cs (suc n) (Some c) ≡ false → test c (cell_at cs c) ≡ false
  unfolding upward
  up-here n c e = go (test c (cell_at cs c)) e
    where
      go : (b : Bool) → elim b as (λ b. Bool) [ true ↦ true | false ↦ upward test cs n (cell_at cs c).parent ] ≡ false → b ≡ false
      go true e = e
      go false e = refl

  up-further : (n c : ℕ) → upward test cs (suc n) (Some c) ≡ false → upward test cs n (cell_at cs c).parent ≡ false
  unfolding upward
  up-further n c e = go (test c (cell_at cs c)) e
    where
      go :
          (b : Bool) → elim b as (λ b. Bool) [ true ↦ true | false ↦ upward test cs n (cell_at cs c).parent ] ≡ false
          → upward test cs n (cell_at cs c).parent ≡ false
      go true e = clash refl e
      go false e = e

  up_none : (q : Place) → upward test cs 0 q ≡ false
  unfolding upward
  up_none q = refl

  up-nowhere : (n : ℕ) → upward test cs n None ≡ false
  unfolding upward
  up-nowhere zero = refl
  up-nowhere (suc n) = refl

  -- with the cell written for what it is equal to
  up_at :
      (n c : ℕ) (k : Cell) → cell_at cs c ≡ k → test c k ≡ false → upward test cs n k.parent ≡ false
      → upward test cs (suc n) (Some c) ≡ false
  unfolding upward
  up_at n c k p e f =
      subst (λ (k : Cell). elim (test c k) as (λ b. Bool) [ true ↦ true | false ↦ upward test cs n k.parent ] ≡ false) (sym p)
      (rw e f)

  up-less : (n : ℕ) (q : Place) → upward test cs (suc n) q ≡ false → upward test cs n q ≡ false
  up-less zero q e = up_none q
  up-less (suc n) None e = up-nowhere (suc n)
  up-less (suc n) (Some c) e =
      up_at n c (cell_at cs c) refl (up-here (suc n) c e) (up-less n (cell_at cs c).parent (up-further (suc n) c e))

abbrev set_test : ℕ → Cell → Bool
set_test c k = cell_is_set k

abbrev pub unset_cell : Place → Cell
unset_cell q = record { parent = q; value = None }

unset-cell : (q : Place) → cell_is_set (unset_cell q) ≡ false
unfolding cell_is_set has_value
unset-cell q = refl

-- a blank cell is under none
pub blank-cell-clear : (cs : List Cell) (c : ℕ) → cell_at cs c ≡ blank_cell → under_set cs (Some c) ≡ false
unfolding under_set
blank-cell-clear cs c e = go (length cs)
  where
    go : (n : ℕ) → upward set_test cs n (Some c) ≡ false
    go zero = up_none set_test cs (Some c)
    go (suc n) = up_at set_test cs n c blank_cell e (unset-cell None) (up-nowhere set_test cs n)

-- an unset cell below a cell that is under none puts nothing under a set cell
module _ (cs : List Cell) (c : ℕ) (above : Place) (inside : c < length cs) where
  new-cell-up :
      (n : ℕ) (q : Place) → upward set_test cs n q ≡ false → upward set_test cs n above ≡ false
      → upward set_test (set cs c (unset_cell above)) n q ≡ false
  new-cell-up zero q e f = up_none set_test (set cs c (unset_cell above)) q
  new-cell-up (suc n) None e f = up-nowhere set_test (set cs c (unset_cell above)) (suc n)
  new-cell-up (suc n) (Some b) e f =
      go (ℕ_discrete b c) (new-cell-up n (cell_at cs b).parent (up-further set_test cs n b e) shorter) (new-cell-up n above shorter shorter)
    where
      cs' : List Cell
      cs' = set cs c (unset_cell above)

      shorter : upward set_test cs n above ≡ false
      shorter = up-less set_test cs n above f

      go :
          Dec (b ≡ c) → upward set_test cs' n (cell_at cs b).parent ≡ false → upward set_test cs' n above ≡ false
          → upward set_test cs' (suc n) (Some b) ≡ false
      go (yes p) r s =
          up_at set_test cs' n b (unset_cell above) (ap (cell_at cs') p ∙ cell_same cs c (unset_cell above) inside) (unset-cell above) s
      go (no p) r s = up_at set_test cs' n b (cell_at cs b) (cell_other cs c b (unset_cell above) p) (up-here set_test cs n b e) r

pub new-cell-clear :
    (cs : List Cell) (c : ℕ) (above q : Place) → under_set cs q ≡ false → under_set cs above ≡ false
    → under_set (set cs c (unset_cell above)) q ≡ false
unfolding under_set
new-cell-clear cs c above q e f = go (dec_lt c (length cs))
  where
    go : Dec (c < length cs) → under_set (set cs c (unset_cell above)) q ≡ false
    go (yes l) =
        subst (λ n. upward set_test (set cs c (unset_cell above)) n q ≡ false) (sym (length-set cs c (unset_cell above)))
        (new-cell-up cs c above l (length cs) q e f)
    go (no l) = subst (λ ks. under_set ks q ≡ false) (sym (set_out cs c (unset_cell above) (omega arith))) e

-- a cell that is set puts under a set cell only what is within it
set-cell-up :
    (cs : List Cell) (c : ℕ) (k : Cell) (n : ℕ) (q : Place)
    → upward set_test cs n q ≡ false → upward (λ b j. eqb c b) cs n q ≡ false → upward set_test (set cs c k) n q ≡ false
set-cell-up cs c k zero q e f = up_none set_test (set cs c k) q
set-cell-up cs c k (suc n) None e f = up-nowhere set_test (set cs c k) (suc n)
set-cell-up cs c k (suc n) (Some b) e f =
    up_at set_test (set cs c k) n b (cell_at cs b)
    (cell_other cs c b k (λ p. eqb-ne c b (up-here (λ b j. eqb c b) cs n b f) (sym p)))
    (up-here set_test cs n b e)
    (set-cell-up cs c k n (cell_at cs b).parent (up-further set_test cs n b e) (up-further (λ b j. eqb c b) cs n b f))

pub set-cell-clear :
    (cs : List Cell) (c : ℕ) (k : Cell) (q : Place) → under_set cs q ≡ false → within cs c q ≡ false → under_set (set cs c k) q ≡ false
unfolding under_set within
set-cell-clear cs c k q e f =
    subst (λ n. upward set_test (set cs c k) n q ≡ false) (sym (length-set cs c k)) (set-cell-up cs c k (length cs) q e f)
