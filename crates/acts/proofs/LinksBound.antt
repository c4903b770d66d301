-- Whether a variable is bound to a cell: slot by slot, as the loop of `binds_cell` looks, and what it means where none is. Assumes nothing.
use mathlib.Core.Path.{◌≡◌, refl, sym, ◌∙◌, ap}
use mathlib.Core.Bool.{Bool, true, false}
use mathlib.Core.List.{List, [], ◌∷◌}
use Prim.Native.Nat.{ℕ, ◌<◌}
use native.Mathlib.Decide.{dec_lt, ℕ_discrete}
use borrow.Author.Tests.{eq-eqb, ne_eqb}
use lib.Dec.{eqb}
use Rattle.std.specs.List.{list_any, range_with_len}
use Rattle.job.specs.Test.{for_some, ◌or◌}
use native.Mathlib.Omega.{arith}
use lib.ListN.{length, get_or, get_or-eq_default}
use Rattle.model.specs.Machine.Blank.{empty, is_place, slot_at}
use Rattle.model.specs.Machine.InUse.{bound_cell}
use Rattle.model.specs.declared.token.Slot.{Slot}
use Rattle.model.specs.declared.token.Slot.TheVariants as slots
use Rattle.record.specs.Layout.{slot_kind}
use Rattle.job.proofs.Loop.{some_at}
use Rattle.job.proofs.Test.{clash}
use Rattle.acts.specs.Links.{BindsNoCell, to_cell, binds_cell}

-- a slot by its kind
is-cell : (b : Slot) (k : ℕ) → k ≡ slot_kind b → k ≡ 2 → to_cell b ≡ true
unfolding bound_cell is_place
is-cell b k e f = go b (sym e ∙ f)
  where
    go : (s : Slot) → slot_kind s ≡ 2 → to_cell s ≡ true
    go slots.Empty z = absurd (omega arith)
    go (slots.Value v) z = absurd (omega arith)
    go (slots.Cell c) z = refl

is-other : (b : Slot) (k : ℕ) → k ≡ slot_kind b → (k ≡ 2 → ⊥) → to_cell b ≡ false
unfolding bound_cell is_place
is-other b k e f = go b (λ z. f (e ∙ z))
  where
    go : (s : Slot) → (slot_kind s ≡ 2 → ⊥) → to_cell s ≡ false
    go slots.Empty n = refl
    go (slots.Value v) n = refl
    go (slots.Cell c) n = absurd (n refl)

-- a slot's test, by its kind
pub cell-test : (bs : List Slot) (x k : ℕ) (r : Bool) → k ≡ slot_kind (slot_at bs x) → r ≡ eqb k 2 → r ≡ to_cell (get_or bs x empty)
unfolding slot_at
cell-test bs x k r e f = f ∙ go (ℕ_discrete k 2)
  where
    go : Dec (k ≡ 2) → eqb k 2 ≡ to_cell (get_or bs x empty)
    go (yes z) = eq-eqb k 2 z ∙ sym (is-cell (get_or bs x empty) k e z)
    go (no z) = ne_eqb k 2 z ∙ sym (is-other (get_or bs x empty) k e z)

-- the tests of the eight slots, one by one
pub eight-slots : (bs : List Slot) → length bs ≡ 8 → list_any (λ x. to_cell (get_or bs x empty)) (range_with_len 0 8) ≡ binds_cell bs
unfolding for_some ◌or◌
eight-slots [] l = absurd (omega arith)
eight-slots (a ∷ []) l = absurd (omega arith)
eight-slots (a ∷ b ∷ []) l = absurd (omega arith)
eight-slots (a ∷ b ∷ c ∷ []) l = absurd (omega arith)
eight-slots (a ∷ b ∷ c ∷ d ∷ []) l = absurd (omega arith)
eight-slots (a ∷ b ∷ c ∷ d ∷ e ∷ []) l = absurd (omega arith)
eight-slots (a ∷ b ∷ c ∷ d ∷ e ∷ f ∷ []) l = absurd (omega arith)
eight-slots (a ∷ b ∷ c ∷ d ∷ e ∷ f ∷ g ∷ []) l = absurd (omega arith)
eight-slots (a ∷ b ∷ c ∷ d ∷ e ∷ f ∷ g ∷ h ∷ []) l = refl
eight-slots (a ∷ b ∷ c ∷ d ∷ e ∷ f ∷ g ∷ h ∷ i ∷ bs) l = absurd (omega arith)

-- what the answer means
pub binds-none : (bs : List Slot) → binds_cell bs ≡ false → BindsNoCell bs
unfolding slot_at bound_cell is_place
binds-none bs e x c f = go (dec_lt x (length bs))
  where
    there : slot_kind (get_or bs x empty) ≡ 2
    there = ap slot_kind f

    go : Dec (x < length bs) → ⊥
    go (yes l) = clash (some_at to_cell bs x empty l (is-cell (get_or bs x empty) 2 (sym there) refl)) e
    go (no l) =
        let blank = get_or-eq_default bs empty {n = x} (omega arith) in
        let z : slot_kind slots.Empty ≡ 2 = ap slot_kind (sym blank) ∙ there in
        omega arith
