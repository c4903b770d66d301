-- When words are a record's, also row by row. Assumes nothing: these are definitions.
use Rattle.std.specs.Prelude.{◌≡◌, Bool, true, List, ℕ, ◌<◌}
use Rattle.job.specs.Test.{same}
use Rattle.record.specs.LayoutDecoded.{machine_of}
use Rattle.record.specs.Holds.{Codes}
use Rattle.record.specs.Layout.{words_of}
use Rattle.coded.specs.WordTests.{token_coded, cell_at_coded}

-- words that are not those of their decoding are no record
unfoldable pub is_record : List ℕ → Bool
is_record ws = same ws (words_of (machine_of ws))

-- what holds of any 1,863 words of 32 bits: a record's words are those of the record that they decode to, and words are a record's if each
-- token's and each cell's are
pub record RowByRow (ws : List ℕ) : Type 0 where
  pub codes : is_record ws ≡ true → Codes ws (machine_of ws)
  pub passes : ((p : ℕ) → p < 64 → token_coded ws p ≡ true) → ((c : ℕ) → c < 32 → cell_at_coded ws c ≡ true) → is_record ws ≡ true
