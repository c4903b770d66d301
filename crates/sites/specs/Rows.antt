-- The tokens of a record, row by row. Assumes nothing: these are definitions.
use Rattle.std.specs.Prelude.{◌++◌, map, ℕ, take, drop}
use Rattle.model.specs.Machine.Update.{with_tables}
use Rattle.model.specs.declared.token.Token.{Token}
use Rattle.model.specs.declared.record.Machine.{Machine}

-- the record whose first p tokens are f of what they were
abbrev pub rows_mapped : (Token → Token) → (p : ℕ) → Machine → Machine
rows_mapped f p m = with_tables (map f (take p m.tokens) ++ drop p m.tokens) m.cells m
