-- What a writer leaves: the buffer with its bytes from a position on, and the position behind them. Assumes nothing: these are definitions.
use Rattle.std.specs.Prelude.{◌≡◌, List, ℕ, ◌+◌, ◌≤◌, length}
use Rattle.std.proofs.lemmas.List.Edits.{sets}

-- `bytes`, at most so many of them, are written into the buffer `before` from `at` on; it is `after` then
pub record Written (most : ℕ) (before : List ℕ) (at : ℕ) (bytes after : List ℕ) (next : ℕ) : Type 0 where
  pub stored : after ≡ sets before at bytes
  pub behind : next ≡ at + length bytes
  pub few : length bytes ≤ most
