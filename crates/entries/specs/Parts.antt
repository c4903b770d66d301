-- The two parts of a table, one of kinds and one of operands. Assumes nothing: these are definitions.
use Rattle.std.specs.Prelude.{◌≡◌, List, ℕ, ◌*◌, ◌<◌, ◌≤◌, length, get_or, drop}
use Rattle.job.specs.Entry.{Entry, entries}

-- the kinds and the operands of a table of at most 512 entries
pub record Parts (kinds operands : List ℕ) : Type 0 where
  pub few : length kinds ≤ 512
  pub four : length operands ≡ 4 * length kinds

-- each number is that of a byte
abbrev pub AllBytes : List ℕ → Type 0
AllBytes bs = (i : ℕ) → get_or bs i 0 < 256

-- the entries from this one on
abbrev pub entries_from : List ℕ → List ℕ → ℕ → List Entry
entries_from kinds operands at = drop at (entries kinds operands)
