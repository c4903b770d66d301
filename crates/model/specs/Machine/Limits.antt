-- The sizes of the tables and the limits that refuse. Assumes nothing: these are definitions.
use Rattle.std.specs.Prelude.{ℕ}

-- (docs/DECISIONS.md, "Sizes and limits") how many places the tables of tokens and cells have; with how many tokens or cells in use, and
-- after how many outside calls, a step is refused
pub record Limits : Type 0 where
  pub token_places : ℕ
  pub cell_places : ℕ
  pub tokens : ℕ
  pub cells : ℕ
  pub calls : ℕ

-- tables as large as the limits
abbrev pub limits : (tokens cells calls : ℕ) → Limits
limits t c k = record { token_places = t; cell_places = c; tokens = t; cells = c; calls = k }

-- "64 tokens", "32 cells", "1,000,000 such calls"
abbrev pub paper : Limits
paper = limits 64 32 1000000
