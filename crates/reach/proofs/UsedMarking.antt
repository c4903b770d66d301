-- The loops that mark from each active token, from each cell that a token names, and from those of each token in use: what a turn leaves to
-- do. Each is one element of the list that the definition goes through. Assumes nothing.
use mathlib.Core.Path.{◌≡◌, refl, sym, ◌∙◌, ap, ap₂}
use mathlib.Core.Bool.{Bool, true, false}
use mathlib.Core.Logic.{◌≢◌}
use mathlib.Core.List.{List, ◌∷◌, map}
use Prim.Native.Nat.{ℕ, suc, ◌+◌, ◌≤◌, ◌<◌}
use native.Mathlib.Numerals.{add-one}
use native.Mathlib.Omega.{arith}
use lib.ListN.{length, get_or, drop, replicate, drop_of_length-le}
use Rattle.std.specs.Prelude.{Some}
use Rattle.model.specs.Machine.Active.{is_active}
use Rattle.model.specs.Machine.State.{is_live}
use Rattle.model.specs.Machine.Blank.{empty, blank_token, blank_cell, token_at, slot_at}
use Rattle.model.specs.Machine.InUse.{mark_chain, mark_from_each, reached, active_places, used_tokens, tokens_used}
use Rattle.model.specs.Machine.InUse.{bound_cell, cells_of, cells_of_marked, used_cells}
use Rattle.model.specs.declared.cell.Cell.{Cell}
use Rattle.model.specs.declared.record.Machine.{Machine}
use Rattle.model.specs.Machine.Held.{Place}
use Rattle.model.specs.declared.token.Slot.{Slot}
use Rattle.model.specs.declared.token.Slot.TheVariants as slots
use Rattle.model.specs.declared.token.Token.{Token}
use Rattle.record.specs.LayoutDecoded.{place_from}
use Rattle.record.specs.Layout.{place_number, slot_kind, slot_number}
use Rattle.reach.specs.Marks.{callers_marked, parents_marked, cells_marked, active_marked, held_marked, BlankFrom}
use Rattle.reach.proofs.ListLoops.{drop-next, steady}
use Rattle.record.proofs.PlaceNumber.{place-from}
use Rattle.reach.proofs.MarkChain.{chains-append, chains-nowhere}

-- a token's turn, by the code's answer
module _ (m : Machine) (p : ℕ) (marks : List Bool) (b : Bool) (e : b ≡ is_active m.cells (token_at m.tokens p)) where
  pub active-marks : b ≡ true → callers_marked m (place_from (p + 1)) marks ≡ active_marked m p marks
  unfolding active_marked
  active-marks z = ap (λ q. callers_marked m q marks) (place-from (p + 1) (Some p) refl) ∙ sym (rw (sym e ∙ z, active_marked))

  pub inactive-marks : b ≡ false → marks ≡ active_marked m p marks
  unfolding active_marked
  inactive-marks z = sym (rw (sym e ∙ z, active_marked))

module _ (m : Machine) (p : ℕ) (marks : List Bool) (used : Bool) where
  pub held-marks : used ≡ true → cells_marked m (cells_of (token_at m.tokens p)) marks ≡ held_marked m p used marks
  unfolding held_marked
  held-marks e = rw e

  pub idle-marks : used ≡ false → marks ≡ held_marked m p used marks
  unfolding held_marked
  idle-marks e = rw e

-- the chains of callers from some places
abbrev all_marked : Machine → List Place → List Bool → List Bool
all_marked m qs marks = mark_from_each (λ (t : Token). t.caller) blank_token m.tokens qs marks

-- what is left of them when the tokens before p had their turn
abbrev pub callers_left : Machine → ℕ → List Bool → List Bool
callers_left m p marks = all_marked m (active_places m.cells p (drop p m.tokens)) marks

pub callers-first : (m : Machine) (marks : List Bool) → length m.tokens ≡ 64 → marks ≡ replicate 64 false
    → tokens_used m ≡ callers_left m 0 marks
unfolding used_tokens reached
callers-first m marks l e = ap (callers_left m 0) (ap (λ n. replicate n false) l ∙ sym e)

pub callers-next : (m : Machine) (p : ℕ) (marks : List Bool) → length m.tokens ≡ 64 → p < 64
    → callers_left m p marks ≡ callers_left m (p + 1) (active_marked m p marks)
unfolding active_places mark_from_each active_marked token_at
callers-next m p marks l h =
    ap (λ ts. all_marked m (active_places m.cells p ts) marks) (drop-next m.tokens p blank_token (omega arith))
    ∙ go (is_active m.cells (get_or m.tokens p blank_token))
    ∙ ap (λ n. all_marked m (rest n) (active_marked m p marks)) (sym (add-one p))
  where
    rest : ℕ → List Place
    rest n = active_places m.cells n (drop (p + 1) m.tokens)

    go : (b : Bool)
        → all_marked m (elim b [ true ↦ Some p ∷ rest (suc p) | false ↦ rest (suc p) ]) marks
        ≡ all_marked m (rest (suc p)) (elim b [ true ↦ callers_marked m (Some p) marks | false ↦ marks ])
    go true =
        ap (λ k. all_marked m (rest (suc p)) (mark_chain (λ (t : Token). t.caller) blank_token m.tokens k (Some p) marks)) l
    go false = refl

callers-end : (m : Machine) (marks : List Bool) → length m.tokens ≡ 64 → callers_left m 64 marks ≡ marks
unfolding active_places mark_from_each
callers-end m marks l =
    let z : length m.tokens ≤ 64 = omega arith in
    ap (λ ts. all_marked m (active_places m.cells 64 ts) marks) (drop_of_length-le m.tokens z)

-- a blank token is not active
pub callers-last : (m : Machine) (p : ℕ) (marks : List Bool) → length m.tokens ≡ 64 → p ≤ 64 → BlankFrom m p
    → callers_left m p marks ≡ marks
unfolding is_active is_live
callers-last m p marks l h blank =
    steady (λ i. callers_left m i marks) p 64 h
    (λ i from to. callers-next m i marks l to ∙ ap (callers_left m (i + 1)) (sym (inactive-marks m i marks false (idle i from to) refl)))
    ∙ callers-end m marks l
  where
    idle : (i : ℕ) → p ≤ i → i < 64 → false ≡ is_active m.cells (token_at m.tokens i)
    idle i from to = sym (ap (is_active m.cells) (blank i from to))

-- the number of the cell that a binding names
unbound-slot : (s : Slot) → slot_kind s ≢ 2 → 0 ≡ place_number (bound_cell s)
unfolding bound_cell
unbound-slot slots.Empty f = refl
unbound-slot (slots.Value v) f = refl
unbound-slot (slots.Cell c) f = absurd (f refl)

cell-slot : (s : Slot) → slot_kind s ≡ 2 → slot_number s + 1 ≡ place_number (bound_cell s)
unfolding bound_cell
cell-slot slots.Empty e = absurd (omega arith)
cell-slot (slots.Value v) e = absurd (omega arith)
cell-slot (slots.Cell c) e = refl

module _ (bs : List Slot) (x k : ℕ) (e : k ≡ slot_kind (slot_at bs x)) where
  pub bound-none : k ≢ 2 → 0 ≡ place_number (bound_cell (get_or bs x empty))
  unfolding slot_at
  bound-none f = unbound-slot (get_or bs x empty) (λ z. f (e ∙ z))

  pub bound-cell : (n : ℕ) → k ≡ 2 → n ≡ slot_number (slot_at bs x) → n + 1 ≡ place_number (bound_cell (get_or bs x empty))
  unfolding slot_at
  bound-cell n z g = ap (λ i. i + 1) g ∙ cell-slot (get_or bs x empty) (sym e ∙ z)

-- one chain of cells more
module _ (m : Machine) (l : length m.cells ≡ 32) where
  chain_first : (n : ℕ) (q : Place) (qs : List Place) (marks more : List Bool) → n ≡ place_number q
      → more ≡ parents_marked m (place_from n) marks
      → cells_marked m (q ∷ qs) marks ≡ cells_marked m qs more
  unfolding mark_from_each
  chain_first n q qs marks more e f =
      ap (cells_marked m qs)
      (sym (f ∙ ap₂ (λ k r. mark_chain (λ (c : Cell). c.parent) blank_cell m.cells k r marks) (sym l) (place-from n q e)))

  -- a token's own cell, and then its bindings
  pub named-first : (t : Token) (n : ℕ) (marks more : List Bool) → n ≡ place_number t.cell → more ≡ parents_marked m (place_from n) marks
      → cells_marked m (cells_of t) marks ≡ cells_marked m (map bound_cell t.binds) more
  unfolding cells_of
  named-first t n marks more e f = chain_first n t.cell (map bound_cell t.binds) marks more e f

  pub named-next : (bs : List Slot) (x n : ℕ) (marks more : List Bool) → length bs ≡ 8 → x < 8
      → n ≡ place_number (bound_cell (get_or bs x empty)) → more ≡ parents_marked m (place_from n) marks
      → cells_marked m (map bound_cell (drop x bs)) marks ≡ cells_marked m (map bound_cell (drop (x + 1) bs)) more
  named-next bs x n marks more s h e f =
      ap (λ rest. cells_marked m (map bound_cell rest) marks) (drop-next bs x empty (omega arith))
      ∙ chain_first n (bound_cell (get_or bs x empty)) (map bound_cell (drop (x + 1) bs)) marks more e f

pub named-last : (m : Machine) (bs : List Slot) (x : ℕ) (marks : List Bool) → length bs ≡ 8 → 8 ≤ x
    → cells_marked m (map bound_cell (drop x bs)) marks ≡ marks
unfolding mark_from_each
named-last m bs x marks s h =
    let z : length bs ≤ x = omega arith in ap (λ rest. cells_marked m (map bound_cell rest) marks) (drop_of_length-le bs z)

-- the cells that are left when the tokens before p had their turn
abbrev pub cells_left : Machine → List Bool → ℕ → List Bool → List Bool
cells_left m used p marks = cells_marked m (cells_of_marked (drop p used) (drop p m.tokens)) marks

pub cells-first : (m : Machine) (used marks : List Bool) → length m.cells ≡ 32 → marks ≡ replicate 32 false
    → used_cells used m.tokens m.cells ≡ cells_left m used 0 marks
unfolding used_cells reached
cells-first m used marks l e = ap (cells_left m used 0) (ap (λ n. replicate n false) l ∙ sym e)

pub cells-next : (m : Machine) (used : List Bool) (p : ℕ) (marks : List Bool) → length used ≡ 64 → length m.tokens ≡ 64 → p < 64
    → cells_left m used p marks ≡ cells_left m used (p + 1) (held_marked m p (get_or used p false) marks)
unfolding cells_of_marked held_marked token_at
cells-next m used p marks s l h =
    ap₂ (λ us ts. cells_marked m (cells_of_marked us ts) marks) (drop-next used p false (omega arith))
    (drop-next m.tokens p blank_token (omega arith))
    ∙ go (get_or used p false)
  where
    rest : List Place
    rest = cells_of_marked (drop (p + 1) used) (drop (p + 1) m.tokens)

    go : (b : Bool)
        → cells_marked m (cells_of_marked (b ∷ drop (p + 1) used) (get_or m.tokens p blank_token ∷ drop (p + 1) m.tokens)) marks
        ≡ cells_left m used (p + 1) (held_marked m p b marks)
    go true = chains-append (λ (c : Cell). c.parent) blank_cell m.cells (cells_of (get_or m.tokens p blank_token)) rest marks
    go false = refl

cells-end : (m : Machine) (used : List Bool) (marks : List Bool) → length m.tokens ≡ 64 → cells_left m used 64 marks ≡ marks
unfolding cells_of_marked mark_from_each
cells-end m used marks l =
    let z : length m.tokens ≤ 64 = omega arith in
    ap (λ ts. cells_marked m (cells_of_marked (drop 64 used) ts) marks) (drop_of_length-le m.tokens z)

-- a blank token names no cell
blank-names : (m : Machine) (marks : List Bool) → cells_marked m (cells_of blank_token) marks ≡ marks
unfolding cells_of bound_cell
blank-names m marks = chains-nowhere (λ (c : Cell). c.parent) blank_cell m.cells 9 marks

held-blank : (m : Machine) (p : ℕ) (used : Bool) (marks : List Bool) → token_at m.tokens p ≡ blank_token
    → held_marked m p used marks ≡ marks
unfolding held_marked
held-blank m p true marks e = ap (λ t. cells_marked m (cells_of t) marks) e ∙ blank-names m marks
held-blank m p false marks e = refl

pub cells-last : (m : Machine) (used : List Bool) (p : ℕ) (marks : List Bool) → length used ≡ 64 → length m.tokens ≡ 64 → p ≤ 64
    → BlankFrom m p
    → cells_left m used p marks ≡ marks
cells-last m used p marks s l h blank =
    steady (λ i. cells_left m used i marks) p 64 h
    (λ i from to. cells-next m used i marks s l to
    ∙ ap (cells_left m used (i + 1)) (held-blank m i (get_or used i false) marks (blank i from to)))
    ∙ cells-end m used marks l
