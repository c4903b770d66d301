-- Document 01: active tokens. Assumes nothing: these are definitions.
use Rattle.std.specs.Prelude.{Bool, true, false, not, List, ℕ, zero, suc, length, eqb, Some, None}
use Rattle.model.specs.Machine.State.{is_live}
use Rattle.model.specs.Machine.Blank.{cell_at, has_value}
use Rattle.model.specs.Machine.Held.{Place}
use Rattle.model.specs.declared.token.Token.{Token}
use Rattle.model.specs.declared.cell.Cell.{Cell}

-- a cell is set once it has a value
unfoldable pub cell_is_set : Cell → Bool
cell_is_set c = has_value c.value

-- does a test hold of the cell at a place or of one of its ancestors; so many of them are looked at
unfoldable pub upward : (ℕ → Cell → Bool) → List Cell → ℕ → Place → Bool
upward test cs zero q = false
upward test cs (suc n) q =
    elim q [
      | None ↦ false
      | Some c ↦
          (let k = cell_at cs c in elim (test c k) [ true ↦ true | false ↦ upward test cs n k.parent ])
    ]

-- "[a] set cell among their cell and its ancestors"
unfoldable pub under_set : List Cell → Place → Bool
under_set cs q = upward (λ c k. cell_is_set k) cs (length cs) q

-- is a place the cell c or one of its descendants
unfoldable pub within : List Cell → ℕ → Place → Bool
within cs c q = upward (λ b k. eqb c b) cs (length cs) q

-- "Active tokens are ready, waiting or called-out, with no set cell among their cell and its ancestors"; document 02, request 1: "A token
-- due later is active"
unfoldable pub is_active : List Cell → Token → Bool
is_active cs t = elim (is_live t.state) [ true ↦ not (under_set cs t.cell) | false ↦ false ]
