-- A value and a place, each where there is one. Assumes nothing: these are definitions.
use Rattle.std.specs.Prelude.{Option, ℕ, ℤ}

-- a value, where there is one
abbrev pub Held : Type 0
Held = Option ℤ

-- the place of a token or of a cell; as a cell, `None` is the root, which has no place
abbrev pub Place : Type 0
Place = Option ℕ
