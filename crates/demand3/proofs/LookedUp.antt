-- What a call's parameters come to: an unset cell that is found is that of a parameter, and if a parameter is bound to an unset cell, and
-- none is empty, an unset cell is found. By induction over the parameters. Assumes nothing.
use mathlib.Core.Path.{◌≡◌, refl, ◌∙◌, ap, subst}
use mathlib.Core.Bool.{true}
use mathlib.Core.List.Memᴰ
use mathlib.Core.List.{List, [], ◌∷◌, Memᴰ}
use Prim.Native.Nat.{ℕ}
use lib.IntN.{ℤ}
use Rattle.std.specs.Prelude.{Some, None}
use Rattle.job.specs.Test.{for_all}
use Rattle.job.specs.Syntax.{Param, variable, constant}
use Rattle.model.specs.Machine.Blank.{cell_at, slot_at, is_bound}
use Rattle.model.specs.Machine.Rules.{not_empty}
use Rattle.model.specs.Machine.Step.{LookUpResult, values, unset, and_then, look}
use Rattle.model.specs.declared.token.Slot.{Slot}
use Rattle.model.specs.declared.token.Slot.TheVariants as slots
use Rattle.model.specs.Machine.Held.{Held}
use Rattle.model.specs.declared.cell.Cell.{Cell}
use Rattle.job.proofs.Test.{never, clash, all_head, all_tail}

-- the first unset cell is that of a parameter
unset-then : (v : ℤ) (l : LookUpResult) (c : ℕ) → and_then v l ≡ unset c → l ≡ unset c
unfolding and_then
unset-then v (values vs) c e = never cc
unset-then v (unset b) c e = e

abbrev Asks : List Cell → List Slot → List Param → ℕ → Type 0
Asks cs bs ps c = (x : ℕ) × Memᴰ (variable x) ps × (slot_at bs x ≡ slots.Cell c) × ((cell_at cs c).value ≡ None)

asks-later : (cs : List Cell) (bs : List Slot) (p : Param) (ps : List Param) (c : ℕ) → Asks cs bs ps c → Asks cs bs (p ∷ ps) c
asks-later cs bs p ps c (x, m, e, f) = (x, Memᴰ.tail m, e, f)

module _ (cs : List Cell) (bs : List Slot) where
  cell-asks : (x : ℕ) (ps : List Param) (b : ℕ) → slot_at bs x ≡ slots.Cell b → (w : Held) → (cell_at cs b).value ≡ w → (c : ℕ)
      → (look cs bs ps ≡ unset c → Asks cs bs ps c)
      → elim w as (λ w. LookUpResult) [ None ↦ unset b | Some v ↦ and_then v (look cs bs ps) ] ≡ unset c
      → Asks cs bs (variable x ∷ ps) c
  cell-asks x ps b s None w c f e =
      let z : b ≡ c = cc in
      (x, Memᴰ.head refl, s ∙ ap slots.Cell z, subst (λ i. (cell_at cs i).value ≡ None) z w)
  cell-asks x ps b s (Some v) w c f e = asks-later cs bs (variable x) ps c (f (unset-then v (look cs bs ps) c e))

  slot-asks : (x : ℕ) (ps : List Param) (s : Slot) → slot_at bs x ≡ s → (c : ℕ)
      → (look cs bs ps ≡ unset c → Asks cs bs ps c)
      → elim s as (λ s. LookUpResult) [
        | slots.Empty ↦ values []
        | slots.Value v ↦ and_then v (look cs bs ps)
        | slots.Cell c ↦ elim (cell_at cs c).value [ None ↦ unset c | Some v ↦ and_then v (look cs bs ps) ]
      ]
      ≡ unset c
      → Asks cs bs (variable x ∷ ps) c
  slot-asks x ps slots.Empty s c f e = never cc
  slot-asks x ps (slots.Value v) s c f e = asks-later cs bs (variable x) ps c (f (unset-then v (look cs bs ps) c e))
  slot-asks x ps (slots.Cell b) s c f e = cell-asks x ps b s (cell_at cs b).value refl c f e

  pub look-unset : (ps : List Param) (c : ℕ) → look cs bs ps ≡ unset c → Asks cs bs ps c
  unfolding look
  look-unset [] c e = never cc
  look-unset (constant v ∷ ps) c e = asks-later cs bs (constant v) ps c (look-unset ps c (unset-then v (look cs bs ps) c e))
  look-unset (variable x ∷ ps) c e = slot-asks x ps (slot_at bs x) refl c (λ f. look-unset ps c f) e

-- the other way
abbrev Unset : LookUpResult → Type 0
Unset l = (c : ℕ) × (l ≡ unset c)

then-unset : (v : ℤ) (l : LookUpResult) → Unset l → Unset (and_then v l)
unfolding and_then
then-unset v l (c, e) = (c, ap (and_then v) e)

module _ (cs : List Cell) (bs : List Slot) where
  cell-unset : (b : ℕ) (w : Held) (l : LookUpResult) → Unset l → Unset (elim w [ None ↦ unset b | Some v ↦ and_then v l ])
  cell-unset b None l u = (b, refl)
  cell-unset b (Some v) l u = then-unset v l u

  slot-unset : (s : Slot) → is_bound s ≡ true → (l : LookUpResult) → Unset l
      → Unset
      (elim s [
        | slots.Empty ↦ values []
        | slots.Value v ↦ and_then v l
        | slots.Cell c ↦ elim (cell_at cs c).value [ None ↦ unset c | Some v ↦ and_then v l ]
      ])
  unfolding is_bound
  slot-unset slots.Empty k l u = clash k refl
  slot-unset (slots.Value v) k l u = then-unset v l u
  slot-unset (slots.Cell c) k l u = cell-unset c (cell_at cs c).value l u

  -- a parameter bound to an unset cell
  pub look-blocked : (ps : List Param) (x c : ℕ) → Memᴰ (variable x) ps → slot_at bs x ≡ slots.Cell c
      → (cell_at cs c).value ≡ None
      → for_all (not_empty bs) ps ≡ true → Unset (look cs bs ps)
  unfolding look not_empty
  look-blocked [] x c m s w k = absurd (Memᴰ.not-nil m)
  look-blocked (constant v ∷ ps) x c (Memᴰ.head e) s w k = never cc
  look-blocked (constant v ∷ ps) x c (Memᴰ.tail m) s w k =
      then-unset v (look cs bs ps) (look-blocked ps x c m s w (all_tail (not_empty bs) (constant v) ps k))
  look-blocked (variable y ∷ ps) x c (Memᴰ.tail m) s w k =
      slot-unset (slot_at bs y) (all_head (not_empty bs) (variable y) ps k) (look cs bs ps)
      (look-blocked ps x c m s w (all_tail (not_empty bs) (variable y) ps k))
  look-blocked (variable y ∷ ps) x c (Memᴰ.head e) s w k =
      rw (ap (slot_at bs) (let z : y ≡ x = cc in z) ∙ s, look, w, look) (c, refl)
