-- A chain of cells, followed link by link with as many links left as are left of the loop. By induction over the links. Assumes nothing.
use mathlib.Core.Path.{◌≡◌, refl, sym, ◌∙◌, ap}
use mathlib.Core.Bool.{true, false, not, ◌||◌}
use mathlib.Core.List.{List}
use Prim.Native.Nat.{ℕ, zero, suc, ◌+◌, ◌-◌, ◌<◌, ◌≤◌}
use native.Mathlib.Omega.{arith}
use lib.Dec.{eqb}
use lib.ListN.{length}
use Rattle.std.specs.Prelude.{Some, None}
use Rattle.model.specs.declared.token.State.TheVariants as states
use Rattle.job.specs.Test.{◌and◌}
use Rattle.model.specs.Machine.Blank.{cell_at, has_value, is_place}
use Rattle.model.specs.Machine.Active.{cell_is_set, under_set}
use Rattle.model.specs.Machine.State.{is_live}
use Rattle.model.specs.Machine.Rules.{chain_ends, not_under_set, waits_at_unset}
use Rattle.model.specs.Machine.Held.{Place}
use Rattle.model.specs.declared.token.State.{State}
use Rattle.model.specs.declared.token.Token.{Token}
use Rattle.model.specs.declared.cell.Cell.{Cell}
use Rattle.job.proofs.Test.{clash}
use Rattle.record.specs.Layout.{state_kind, state_number, held_kind}
use Rattle.row_rules.proofs.RangeLaws.{held_none}
use Rattle.model.proofs.Machine.TableRows.{cell-outside}

-- "each parent chain ends"
pub ends_nowhere : (cs : List Cell) (n : ℕ) → chain_ends cs n None ≡ true
unfolding chain_ends is_place
ends_nowhere cs zero = refl
ends_nowhere cs (suc n) = refl

module _ (cs : List Cell) (q : Place) (i : ℕ) (long : length cs ≡ 32) where
  pub ends-stop : q ≡ None → true ≡ chain_ends cs (32 - i) q
  ends-stop e = sym (ap (chain_ends cs (32 - i)) e ∙ ends_nowhere cs (32 - i))

  pub ends_last : 32 ≤ i → not (is_place q) ≡ chain_ends cs (32 - i) q
  unfolding chain_ends
  ends_last l = let e : 32 - i ≡ 0 = omega arith in rw e

  module _ (c : ℕ) (at : q ≡ Some c) (more : i < 32) where
    pub ends_on : chain_ends cs (32 - i) q ≡ chain_ends cs (32 - (i + 1)) (cell_at cs c).parent
    unfolding chain_ends
    ends_on = let e : 32 - i ≡ suc (32 - (i + 1)) = omega arith in rw (at, e)

    pub ends-past : 32 ≤ c → true ≡ chain_ends cs (32 - i) q
    ends-past l =
        sym (ends_on ∙ ap (λ (k : Cell). chain_ends cs (32 - (i + 1)) k.parent) (cell-outside cs c (omega arith))
        ∙ ends_nowhere cs (32 - (i + 1)))

-- the cell at which a token waits
module _ (cs : List Cell) (long : length cs ≡ 32) (k n : ℕ) (s : State) (kind : k ≡ state_kind s) (number : n ≡ state_number s) where
  waits_there : k ≡ 2 → waits_at_unset cs s ≡ not (has_value (cell_at cs n).value)
  unfolding waits_at_unset cell_is_set
  waits_there e = go s kind number
    where
      go : (s : State) → k ≡ state_kind s → n ≡ state_number s → waits_at_unset cs s ≡ not (has_value (cell_at cs n).value)
      go states.Blank a b = absurd (omega arith)
      go states.Ready a b = absurd (omega arith)
      go (states.Waiting c) a b = ap (λ i. not (has_value (cell_at cs i).value)) (sym b)
      go (states.Called h) a b = absurd (omega arith)
      go (states.Due d) a b = absurd (omega arith)
      go states.Frame a b = absurd (omega arith)

  pub waits-past : k ≡ 2 → 32 ≤ n → true ≡ waits_at_unset cs s
  unfolding has_value
  waits-past e l = sym (waits_there e ∙ ap (λ (c : Cell). not (has_value c.value)) (cell-outside cs n (omega arith)))

  pub waits-read : k ≡ 2 → {v : ℕ} → v ≡ held_kind (cell_at cs n).value → eqb v 0 ≡ waits_at_unset cs s
  waits-read e f = ap (λ i. eqb i 0) f ∙ held_none (cell_at cs n).value ∙ sym (waits_there e)

  pub waits-not : (k ≡ 2 → ⊥) → true ≡ waits_at_unset cs s
  unfolding waits_at_unset
  waits-not f = go s kind
    where
      go : (s : State) → k ≡ state_kind s → true ≡ waits_at_unset cs s
      go states.Blank a = refl
      go states.Ready a = refl
      go (states.Waiting c) a = absurd (f a)
      go (states.Called h) a = refl
      go (states.Due d) a = refl
      go states.Frame a = refl

-- a token that is blank or a frame, and any other
pub idle : (cs : List Cell) (t : Token) {k : ℕ} → k ≡ state_kind t.state → (eqb k 0 || eqb k 5) ≡ true
    → true ≡ (not_under_set cs t and waits_at_unset cs t.state)
unfolding not_under_set ◌and◌ is_live waits_at_unset
idle cs t e f = go t.state (ap (λ n. eqb n 0 || eqb n 5) (sym e) ∙ f)
  where
    go : (s : State) → (eqb (state_kind s) 0 || eqb (state_kind s) 5) ≡ true
        → true ≡ (elim (is_live s) [ true ↦ not (under_set cs t.cell) | false ↦ true ]) and waits_at_unset cs s
    go states.Blank f = refl
    go states.Ready f = clash f refl
    go (states.Waiting c) f = clash f refl
    go (states.Called h) f = clash f refl
    go (states.Due d) f = clash f refl
    go states.Frame f = refl

pub busy : (cs : List Cell) (t : Token) {k : ℕ} → k ≡ state_kind t.state → (eqb k 0 || eqb k 5) ≡ false
    → not (under_set cs t.cell) ≡ not_under_set cs t
unfolding not_under_set is_live
busy cs t e f = go t.state (ap (λ n. eqb n 0 || eqb n 5) (sym e) ∙ f)
  where
    go : (s : State) → (eqb (state_kind s) 0 || eqb (state_kind s) 5) ≡ false
        → not (under_set cs t.cell) ≡ (elim (is_live s) [ true ↦ not (under_set cs t.cell) | false ↦ true ])
    go states.Blank f = clash refl f
    go states.Ready f = refl
    go (states.Waiting c) f = refl
    go (states.Called h) f = refl
    go (states.Due d) f = refl
    go states.Frame f = clash refl f
