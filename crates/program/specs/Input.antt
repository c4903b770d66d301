-- How much of standard input is read. Assumes nothing: this is a definition.
use Rattle.std.specs.Prelude.{ℕ}

-- one byte more than "at most 65,536 bytes (else the line `long` only)"
abbrev pub input_room : ℕ
input_room = 65537
