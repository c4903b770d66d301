-- The lines at the end of a run. Assumes nothing: these are definitions.
use Rattle.std.specs.Prelude.{true, false, List, [], ◌∷◌, ℕ, eqb}
use Rattle.model.specs.Output.Line.{Line, end, short}

-- the lines at the end of a run with so many bytes left, fewer than a record has: `last_turn` of the definition
unfoldable pub last_lines : (left steps : ℕ) → List Line
last_lines left steps = elim (eqb left 0) [ true ↦ end steps ∷ [] | false ↦ short ∷ end steps ∷ [] ]
