-- Document 01: in use, and blank after each accepted call (docs/DECISIONS.md, "In use"). Assumes nothing: these are definitions.
use Rattle.std.specs.Prelude.{◌≡◌, Bool, true, false, List, [], ◌∷◌, ◌++◌, map, ℕ, zero, suc, ◌≤◌, length, get_or, set, replicate}
use Rattle.std.specs.Prelude.{Some, None}
use Rattle.model.specs.Machine.Limits.{Limits}
use Rattle.model.specs.Machine.Blank.{blank_token, blank_cell, token_at, cell_at, slot_at}
use Rattle.model.specs.Machine.Active.{is_active}
use Rattle.model.specs.declared.token.Slot.TheVariants as slots
use Rattle.model.specs.declared.token.Slot.{Slot}
use Rattle.model.specs.Machine.Held.{Place}
use Rattle.model.specs.declared.token.Token.{Token}
use Rattle.model.specs.declared.cell.Cell.{Cell}
use Rattle.model.specs.declared.record.Machine.{Machine}

-- "In use: active tokens, and what they reach by caller, cell, parent and binding": the least sets closed under these links
module _ (ts : List Token) (cs : List Cell) where
  pub data TokenInUse : (place : ℕ) → Type 0 where
    active : {p : ℕ} → is_active cs (token_at ts p) ≡ true → TokenInUse p
    caller : {p q : ℕ} → TokenInUse p → (token_at ts p).caller ≡ Some q → TokenInUse q

  pub data CellInUse : (place : ℕ) → Type 0 where
    cell : {p c : ℕ} → TokenInUse p → (token_at ts p).cell ≡ Some c → CellInUse c
    binding : {p c : ℕ} (x : ℕ) → TokenInUse p → slot_at (token_at ts p).binds x ≡ slots.Cell c → CellInUse c
    parent : {b c : ℕ} → CellInUse b → (cell_at cs b).parent ≡ Some c → CellInUse c

-- The computed form of both: proofs/Machine/InUse.antt shows that what is marked is what is in use (`tokens-in-use`, `cells-in-use`).
-- Marks are a Bool for each place. A chain of links is marked until it ends or comes to a place that is marked already;
-- it is followed for so many links at most
unfoldable pub mark_chain : {A : Type 0} → (A → Place) → A → List A → ℕ → Place → List Bool → List Bool
mark_chain link blank xs zero q marks = marks
mark_chain link blank xs (suc n) q marks =
    elim q [
      | None ↦ marks
      | Some i ↦
          elim (get_or marks i true) [
            | true ↦ marks
            | false ↦ mark_chain link blank xs n (link (get_or xs i blank)) (set marks i true)
          ]
    ]

unfoldable pub mark_from_each : {A : Type 0} → (A → Place) → A → List A → List Place → List Bool → List Bool
mark_from_each link blank xs [] marks = marks
mark_from_each link blank xs (q ∷ qs) marks = mark_from_each link blank xs qs (mark_chain link blank xs (length xs) q marks)

-- what is reached from some places
unfoldable pub reached : {A : Type 0} → (A → Place) → A → List A → List Place → List Bool
reached link blank xs from = mark_from_each link blank xs from (replicate (length xs) false)

-- the places of the active tokens, counted from i
unfoldable pub active_places : List Cell → ℕ → List Token → List Place
active_places cs i [] = []
active_places cs i (t ∷ ts) =
    let rest = active_places cs (suc i) ts in elim (is_active cs t) [ true ↦ Some i ∷ rest | false ↦ rest ]

-- the links: a token reaches its caller, its cell and the cells bound in it; a cell reaches its parent
unfoldable pub bound_cell : Slot → Place
bound_cell b = elim b [ slots.Empty ↦ None | slots.Value v ↦ None | slots.Cell c ↦ Some c ]

unfoldable pub cells_of : Token → List Place
cells_of t = t.cell ∷ map bound_cell t.binds

unfoldable pub cells_of_marked : List Bool → List Token → List Place
cells_of_marked marks [] = []
cells_of_marked [] (t ∷ ts) = []
cells_of_marked (true ∷ marks) (t ∷ ts) = cells_of t ++ cells_of_marked marks ts
cells_of_marked (false ∷ marks) (t ∷ ts) = cells_of_marked marks ts

-- the tokens that the active ones reach by caller
unfoldable pub used_tokens : List Token → List Cell → List Bool
used_tokens ts cs = reached (λ (t : Token). t.caller) blank_token ts (active_places cs 0 ts)

-- the cells that the tokens in use reach by cell, binding and parent
unfoldable pub used_cells : List Bool → List Token → List Cell → List Bool
used_cells used ts cs = reached (λ (c : Cell). c.parent) blank_cell cs (cells_of_marked used ts)

abbrev pub tokens_used : Machine → List Bool
tokens_used m = used_tokens m.tokens m.cells

abbrev pub cells_used : Machine → List Bool
cells_used m = used_cells (tokens_used m) m.tokens m.cells

-- how many places are marked
unfoldable pub marked : List Bool → ℕ
marked [] = 0
marked (true ∷ marks) = suc (marked marks)
marked (false ∷ marks) = marked marks

-- "Tokens in use: at most 64. Cells in use: at most 32", with other limits in their place too
abbrev pub Within : Limits → Machine → Type 0
Within lim m = (marked (tokens_used m) ≤ lim.tokens) × (marked (cells_used m) ≤ lim.cells)

-- the table with what is not marked made blank
unfoldable pub rest_blanked : {A : Type 0} → A → List Bool → List A → List A
rest_blanked blank marks [] = []
rest_blanked blank [] (x ∷ xs) = blank ∷ rest_blanked blank [] xs
rest_blanked blank (true ∷ marks) (x ∷ xs) = x ∷ rest_blanked blank marks xs
rest_blanked blank (false ∷ marks) (x ∷ xs) = blank ∷ rest_blanked blank marks xs

-- "The rest is blank after each accepted call"
unfoldable pub sweep : Machine → Machine
sweep m =
    let used = tokens_used m in
    record {
      tokens = rest_blanked blank_token used m.tokens;
      cells = rest_blanked blank_cell (used_cells used m.tokens m.cells) m.cells;
      queue = m.queue;
      queued = m.queued;
      waits = m.waits;
      waiting = m.waiting;
      calls = m.calls;
      lasttoken = m.lasttoken;
      lastcell = m.lastcell;
      timers = m.timers;
      timed = m.timed;
      clock = m.clock;
    }
