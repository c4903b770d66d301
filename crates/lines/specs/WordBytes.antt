-- A line's words as bytes, each with a space before it, and a line's end. Assumes nothing: these are definitions.
use Rattle.std.specs.Prelude.{List, [], ◌∷◌, ◌++◌, ℕ}
use Rattle.job.specs.Decimal.{ascii}

-- a word with a space before it
unfoldable pub spaced : List ℕ → List ℕ
spaced word = ascii " " ++ word

-- the end of a line
unfoldable pub line_feed : List ℕ
line_feed = ascii "\n"

-- words, with a space before each
unfoldable pub all_spaced : List (List ℕ) → List ℕ
all_spaced [] = []
all_spaced (w ∷ ws) = spaced w ++ all_spaced ws
