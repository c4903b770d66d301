-- An order that keeps only the marked ones of its names. Assumes nothing: these are definitions.
use Rattle.std.specs.Prelude.{◌≡◌, Bool, false, List, ℕ, ◌≤◌, length, get_or}
use Rattle.job.specs.Test.{padded, select}

-- those of some names whose place is marked
abbrev pub marked_of : List Bool → List ℕ → List ℕ
marked_of marks names = select (λ (p : ℕ). get_or marks p false) names

-- the names afterwards, and how many they are
pub record Retained (names : List ℕ) (marks : List Bool) (after : List ℕ) (n : ℕ) : Type 0 where
  pub array : after ≡ padded 0 (length names) (marked_of marks names)
  pub few : n ≤ length names
  pub number : n ≡ length (marked_of marks names)
