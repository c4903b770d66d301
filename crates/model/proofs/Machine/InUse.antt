-- In use: the active tokens and what they reach by caller; the cells that tokens in use name and what those reach by parent; and nothing
-- else. Both are what is reached from some places by a link (Reach). Assumes nothing.
use mathlib.Core.Path.{◌≡◌, refl, sym, ◌∙◌, ap, subst}
use mathlib.Core.Logic.{◌⊎◌, inl, inr}
use mathlib.Core.Bool.{Bool, true, false}
use mathlib.Core.List.Memᴰ
use mathlib.Core.List.{List, [], ◌∷◌, map, Memᴰ}
use Prim.Native.Nat.{ℕ, zero, suc, ◌+◌, ◌<◌}
use native.Mathlib.Decide.{dec_lt}
use native.Mathlib.Omega.{arith}
use lib.ListN.{length, replicate}
use Rattle.std.specs.Prelude.{Some, None}
use Rattle.model.specs.Machine.Blank.{empty, blank_token, blank_cell, token_at, cell_at, slot_at}
use Rattle.model.specs.Machine.Active.{is_active}
use Rattle.model.specs.Machine.State.{is_live}
use Rattle.model.specs.Machine.InUse.{TokenInUse, CellInUse, active_places, bound_cell, cells_of, cells_of_marked, used_tokens, used_cells}
use Rattle.model.specs.declared.token.Slot.{Slot}
use Rattle.model.specs.declared.token.Slot.TheVariants as slots
use Rattle.model.specs.Machine.Held.{Place}
use Rattle.model.specs.declared.token.Token.{Token}
use Rattle.model.specs.declared.cell.Cell.{Cell}
use Rattle.job.proofs.Test.{never, clash}
use Rattle.model.proofs.Machine.Marks.{Marked}
use Rattle.model.proofs.Machine.Reach.{Names, names-nowhere, Reached, reached-law}
use Rattle.model.proofs.Machine.TableRows.{token-outside, cell-outside}

pub blank-inactive : (cs : List Cell) → is_active cs blank_token ≡ false
unfolding is_active is_live
blank-inactive cs = refl

pub active-inside : (ts : List Token) (cs : List Cell) (i : ℕ) → is_active cs (token_at ts i) ≡ true → i < length ts
active-inside ts cs i e = go (dec_lt i (length ts))
  where
    go : Dec (i < length ts) → i < length ts
    go (yes l) = l
    go (no n) = clash e (ap (is_active cs) (token-outside ts i (omega arith)) ∙ blank-inactive cs)

-- the places of the active tokens
module _ (cs : List Cell) where
  -- the active places of a rest of the table that begins at i
  abbrev Holds : ℕ → List Token → ℕ → Type 0
  Holds i ts j = Memᴰ (Some j) (active_places cs i ts)

  abbrev here : Bool → ℕ → List Token → List Place
  here b i ts = elim b [ true ↦ Some i ∷ active_places cs (suc i) ts | false ↦ active_places cs (suc i) ts ]

  active-place : (i : ℕ) (ts : List Token) (k : ℕ) → is_active cs (token_at ts k) ≡ true → Holds i ts (i + k)
  unfolding active_places token_at
  active-place i [] k e = clash e (blank-inactive cs)
  active-place i (t ∷ ts) zero e = go (is_active cs t) e
    where
      go : (b : Bool) → b ≡ true → Memᴰ (Some (i + 0)) (here b i ts)
      go true x = Memᴰ.head (ap Some (let z : i + 0 ≡ i = omega arith in z))
      go false x = clash x refl
  active-place i (t ∷ ts) (suc k) e =
      go (is_active cs t) (subst (Holds (suc i) ts) (let z : suc i + k ≡ i + suc k = omega arith in z) (active-place (suc i) ts k e))
    where
      go : (b : Bool) → Holds (suc i) ts (i + suc k) → Memᴰ (Some (i + suc k)) (here b i ts)
      go true m = Memᴰ.tail m
      go false m = m

  -- the token that stands at j in a rest of the table that begins at i is active
  abbrev ActiveAt : ℕ → List Token → ℕ → Type 0
  ActiveAt i ts j = (k : ℕ) × (j ≡ i + k) × (is_active cs (token_at ts k) ≡ true)

  place-active : (i : ℕ) (ts : List Token) (j : ℕ) → Holds i ts j → ActiveAt i ts j
  unfolding active_places token_at
  place-active i [] j m = absurd (Memᴰ.not-nil m)
  place-active i (t ∷ ts) j m = go (is_active cs t) refl (λ x. place-active (suc i) ts j x) m
    where
      later : ActiveAt (suc i) ts j → ActiveAt i (t ∷ ts) j
      later (k, e, a) = (suc k, (let z : j ≡ i + suc k = omega arith in z), a)

      go :
          (b : Bool)
          → is_active cs t ≡ b
          → (Holds (suc i) ts j → ActiveAt (suc i) ts j)
          → Memᴰ (Some j) (here b i ts)
          → ActiveAt i (t ∷ ts) j
      go true a f (Memᴰ.head e) = (0, (let z : j ≡ i = cc in omega arith), a)
      go true a f (Memᴰ.tail x) = later (f x)
      go false a f x = later (f x)

  -- from the first place on, they are the active ones exactly
  pub active-places : (ts : List Token) (i : ℕ) → is_active cs (token_at ts i) ≡ true → Memᴰ (Some i) (active_places cs 0 ts)
  active-places ts i e = subst (Holds 0 ts) (let z : 0 + i ≡ i = omega arith in z) (active-place 0 ts i e)

  pub places-active : (ts : List Token) (i : ℕ) → Memᴰ (Some i) (active_places cs 0 ts) → is_active cs (token_at ts i) ≡ true
  places-active ts i m = go (place-active 0 ts i m)
    where
      go : ActiveAt 0 ts i → is_active cs (token_at ts i) ≡ true
      go (k, e, a) = subst (λ n. is_active cs (token_at ts n) ≡ true) (let z : k ≡ i = omega arith in z) a

-- the tokens in use
pub record TokensUsed (ts : List Token) (cs : List Cell) (used : List Bool) : Type 1 where
  pub size : length used ≡ length ts
  pub active : (i : ℕ) → is_active cs (token_at ts i) ≡ true → Marked used i
  pub caller : (i : ℕ) → Marked used i → Names (Marked used) (token_at ts i).caller
  pub least :
      (Q : ℕ → Type 0)
      → ((i : ℕ) → is_active cs (token_at ts i) ≡ true → Q i)
      → ((i : ℕ) → i < length ts → Q i → Names Q (token_at ts i).caller)
      → (i : ℕ)
      → i < length ts
      → Marked used i
      → Q i

pub tokens-used : (ts : List Token) (cs : List Cell) → TokensUsed ts cs (used_tokens ts cs)
unfolding used_tokens token_at
tokens-used ts cs =
    record {
      size = g.size;
      active = λ i e. g.given i (active-places cs ts i e);
      caller = λ i m. next i m (dec_lt i (length ts));
      least = λ Q h c i l m. g.least Q (λ j x. h j (places-active cs ts j x)) c i l m;
    }
  where
    g : Reached (λ (t : Token). t.caller) blank_token ts (active_places cs 0 ts) (used_tokens ts cs)
    g = reached-law (λ (t : Token). t.caller) blank_token ts (active_places cs 0 ts)

    next : (i : ℕ) → Marked (used_tokens ts cs) i → Dec (i < length ts) → Names (Marked (used_tokens ts cs)) (token_at ts i).caller
    next i m (yes l) = g.closed i l m
    next i m (no n) =
        subst (λ (t : Token). Names (Marked (used_tokens ts cs)) t.caller) (sym (token-outside ts i (omega arith))) (names-nowhere _)

-- the cells that a token names: its own and the bound ones
pub record CellsIn (Q : ℕ → Type 0) (t : Token) : Type 0 where
  pub cell : Names Q t.cell
  pub binds : (x c : ℕ) → slot_at t.binds x ≡ slots.Cell c → Q c

slot-place : (s : Slot) (c : ℕ) → s ≡ slots.Cell c → bound_cell s ≡ Some c
unfolding bound_cell
slot-place s c e = ap bound_cell e

place-slot : (s : Slot) (c : ℕ) → bound_cell s ≡ Some c → s ≡ slots.Cell c
unfolding bound_cell
place-slot slots.Empty c e = never cc
place-slot (slots.Value v) c e = never cc
place-slot (slots.Cell b) c e = ap slots.Cell (let z : b ≡ c = cc in z)

bound-place : (bs : List Slot) (x c : ℕ) → slot_at bs x ≡ slots.Cell c → Memᴰ (Some c) (map bound_cell bs)
unfolding slot_at
bound-place [] x c e = never cc
bound-place (b ∷ bs) zero c e = Memᴰ.head (sym (slot-place b c e))
bound-place (b ∷ bs) (suc x) c e = Memᴰ.tail (bound-place bs x c e)

place-bound : (bs : List Slot) (c : ℕ) → Memᴰ (Some c) (map bound_cell bs) → (x : ℕ) × (slot_at bs x ≡ slots.Cell c)
unfolding slot_at
place-bound [] c m = absurd (Memᴰ.not-nil m)
place-bound (b ∷ bs) c (Memᴰ.head e) = (0, place-slot b c (sym e))
place-bound (b ∷ bs) c (Memᴰ.tail m) = let y = place-bound bs c m in (suc y.0, y.1)

cells-of : (Q : ℕ → Type 0) (t : Token) → ((c : ℕ) → Memᴰ (Some c) (cells_of t) → Q c) → CellsIn Q t
unfolding cells_of
cells-of Q t h = record { cell = λ c e. h c (Memᴰ.head (sym e)); binds = λ x c e. h c (Memᴰ.tail (bound-place t.binds x c e)) }

of-cells : (Q : ℕ → Type 0) (t : Token) → CellsIn Q t → (c : ℕ) → Memᴰ (Some c) (cells_of t) → Q c
unfolding cells_of
of-cells Q t h c (Memᴰ.head e) = h.cell c (sym e)
of-cells Q t h c (Memᴰ.tail m) = let y = place-bound t.binds c m in h.binds y.0 c y.1

pub unbound-empty : (n x : ℕ) → slot_at (replicate n empty) x ≡ slots.Empty
unfolding slot_at
unbound-empty zero x = refl
unbound-empty (suc n) zero = refl
unbound-empty (suc n) (suc x) = unbound-empty n x

pub slot-unbound : (n x c : ℕ) → slot_at (replicate n empty) x ≡ slots.Cell c → ⊥
slot-unbound n x c e =
    let y : slots.Empty ≡ slots.Cell c = sym (unbound-empty n x) ∙ e in never cc

pub cells-in-blank : (Q : ℕ → Type 0) → CellsIn Q blank_token
cells-in-blank Q = record { cell = names-nowhere Q; binds = λ x c e. absurd (slot-unbound 8 x c e) }

pub cells-in-map : {P Q : ℕ → Type 0} {t : Token} → ((c : ℕ) → P c → Q c) → CellsIn P t → CellsIn Q t
cells-in-map f h = record { cell = λ c e. f c (h.cell c e); binds = λ x c e. f c (h.binds x c e) }

-- the places that the marked tokens name
marked-names : (used : List Bool) (ts : List Token) (i : ℕ) → length used ≡ length ts → i < length ts → Marked used i
    → (q : Place) → Memᴰ q (cells_of (token_at ts i)) → Memᴰ q (cells_of_marked used ts)
unfolding cells_of_marked token_at
marked-names used [] i s l h q m = absurd (omega arith)
marked-names [] (t ∷ ts) i s l h q m = absurd (omega arith)
marked-names (true ∷ used) (t ∷ ts) zero s l h q m = Memᴰ.append_left _ m
marked-names (false ∷ used) (t ∷ ts) zero s l h q m = clash h refl
marked-names (true ∷ used) (t ∷ ts) (suc i) s l h q m =
    Memᴰ.append_right (cells_of t) (marked-names used ts i (omega arith) (omega arith) h q m)
marked-names (false ∷ used) (t ∷ ts) (suc i) s l h q m = marked-names used ts i (omega arith) (omega arith) h q m

names_marked : (Q : Place → Type 0) (used : List Bool) (ts : List Token)
    → ((i : ℕ) → i < length ts → Marked used i → (q : Place) → Memᴰ q (cells_of (token_at ts i)) → Q q)
    → (q : Place) → Memᴰ q (cells_of_marked used ts) → Q q
unfolding cells_of_marked token_at
names_marked Q used [] h q m = absurd (Memᴰ.not-nil m)
names_marked Q [] (t ∷ ts) h q m = absurd (Memᴰ.not-nil m)
names_marked Q (true ∷ used) (t ∷ ts) h q m =
    go (Memᴰ.append_cases (cells_of t) m) (λ x. names_marked Q used ts (λ i l. h (suc i) (omega arith)) q x)
  where
    go : Memᴰ q (cells_of t) ⊎ Memᴰ q (cells_of_marked used ts) → (Memᴰ q (cells_of_marked used ts) → Q q) → Q q
    go (inl x) f = h 0 (omega arith) refl q x
    go (inr x) f = f x
names_marked Q (false ∷ used) (t ∷ ts) h q m = names_marked Q used ts (λ i l. h (suc i) (omega arith)) q m

-- the cells in use
pub record CellsUsed (used : List Bool) (ts : List Token) (cs : List Cell) (r : List Bool) : Type 1 where
  pub size : length r ≡ length cs
  pub named : (i : ℕ) → Marked used i → CellsIn (Marked r) (token_at ts i)
  pub parent : (c : ℕ) → Marked r c → Names (Marked r) (cell_at cs c).parent
  pub least :
      (Q : ℕ → Type 0)
      → ((i : ℕ) → i < length ts → Marked used i → CellsIn Q (token_at ts i))
      → ((c : ℕ) → c < length cs → Q c → Names Q (cell_at cs c).parent)
      → (c : ℕ)
      → c < length cs
      → Marked r c
      → Q c

pub cells-used : (used : List Bool) (ts : List Token) (cs : List Cell) → length used ≡ length ts
    → CellsUsed used ts cs (used_cells used ts cs)
unfolding used_cells cell_at
cells-used used ts cs s =
    record {
      size = g.size;
      named = λ i m. named i m (dec_lt i (length ts));
      parent = λ c m. next c m (dec_lt c (length cs));
      least = λ Q h n c l m. g.least Q (λ b x. only Q h b x) n c l m;
    }
  where
    r : List Bool
    r = used_cells used ts cs

    g : Reached (λ (c : Cell). c.parent) blank_cell cs (cells_of_marked used ts) r
    g = reached-law (λ (c : Cell). c.parent) blank_cell cs (cells_of_marked used ts)

    named : (i : ℕ) → Marked used i → Dec (i < length ts) → CellsIn (Marked r) (token_at ts i)
    named i m (yes l) = cells-of (Marked r) (token_at ts i) (λ c x. g.given c (marked-names used ts i s l m (Some c) x))
    named i m (no n) = subst (CellsIn (Marked r)) (sym (token-outside ts i (omega arith))) (cells-in-blank (Marked r))

    next : (c : ℕ) → Marked r c → Dec (c < length cs) → Names (Marked r) (cell_at cs c).parent
    next c m (yes l) = g.closed c l m
    next c m (no n) = subst (λ (k : Cell). Names (Marked r) k.parent) (sym (cell-outside cs c (omega arith))) (names-nowhere _)

    only :
        (Q : ℕ → Type 0)
        → ((i : ℕ) → i < length ts → Marked used i → CellsIn Q (token_at ts i))
        → (b : ℕ)
        → Memᴰ (Some b) (cells_of_marked used ts)
        → Q b
    only Q h b x = names_marked (Names Q) used ts (λ i l m q y. listed i (h i l m) q y) (Some b) x b refl
      where
        listed : (i : ℕ) → CellsIn Q (token_at ts i) → (q : Place) → Memᴰ q (cells_of (token_at ts i)) → Names Q q
        listed i n q y a e = of-cells Q (token_at ts i) n a (subst (λ p. Memᴰ p (cells_of (token_at ts i))) e y)

-- what is marked is what is in use: "in use" as a relation, and as it is computed
module _ (ts : List Token) (cs : List Cell) where
  abbrev T : TokensUsed ts cs (used_tokens ts cs)
  T = tokens-used ts cs

  abbrev C : CellsUsed (used_tokens ts cs) ts cs (used_cells (used_tokens ts cs) ts cs)
  C = cells-used (used_tokens ts cs) ts cs T.size

  pub token-marked : {p : ℕ} → TokenInUse ts cs p → Marked (used_tokens ts cs) p
  token-marked (TokenInUse.active {p = p} e) = T.active p e
  token-marked (TokenInUse.caller {p = p} {q = q} u e) = T.caller p (token-marked u) q e

  pub cell-marked : {c : ℕ} → CellInUse ts cs c → Marked (used_cells (used_tokens ts cs) ts cs) c
  cell-marked (CellInUse.cell {p = p} {c = c} u e) = (C.named p (token-marked u)).cell c e
  cell-marked (CellInUse.binding {p = p} {c = c} x u e) = (C.named p (token-marked u)).binds x c e
  cell-marked (CellInUse.parent {b = b} {c = c} u e) = C.parent b (cell-marked u) c e

  pub tokens-in-use : (p : ℕ) → p < length ts → Marked (used_tokens ts cs) p → TokenInUse ts cs p
  tokens-in-use p l m = T.least (TokenInUse ts cs) (λ i e. TokenInUse.active e) (λ i k u q e. TokenInUse.caller u e) p l m

  pub cells-in-use : (c : ℕ) → c < length cs → Marked (used_cells (used_tokens ts cs) ts cs) c → CellInUse ts cs c
  cells-in-use c l m = C.least (CellInUse ts cs) named (λ b k u q e. CellInUse.parent u e) c l m
    where
      named : (i : ℕ) → i < length ts → Marked (used_tokens ts cs) i → CellsIn (CellInUse ts cs) (token_at ts i)
      named i k u =
          record {
            cell = λ b e. CellInUse.cell (tokens-in-use i k u) e;
            binds = λ x b e. CellInUse.binding x (tokens-in-use i k u) e;
          }
