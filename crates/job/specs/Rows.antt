-- Words cut into rows. Assumes nothing: this is a definition.
use Rattle.std.specs.Prelude.{List, ℕ}
use Rattle.std.specs.Simd.{first_chunks}

-- n rows of w words
unfoldable pub words_in_rows : (w n : ℕ) → List ℕ → List (List ℕ)
words_in_rows w n ws = first_chunks w n ws
