-- What a scope in code means: the variables' numbers, as the list that the definitions keep. Assumes nothing: these are definitions.
use Rattle.std.specs.Prelude.{◌≡◌, Bool, true, List, ℕ, ◌/◌, ◌%◌, ◌^◌, ◌<◌, length, eqb, ltb}
use Rattle.job.specs.Test.{for_all, for_some}
use Rattle.entries.specs.declared.scope.Scope.{Scope}

-- bit x of a number
abbrev pub has_bit : (bound x : ℕ) → Bool
has_bit bound x = eqb (bound / 2 ^ x % 2) 1

-- as many variables, each below 8, and bit x is set exactly if x is one of them
pub record Means (s : Scope) (scope : List ℕ) : Type 0 where
  pub counted : s.count ≡ length scope
  pub small : for_all (λ x. ltb x 8) scope ≡ true
  pub bits : (x : ℕ) → x < 8 → has_bit s.bound x ≡ for_some (eqb x) scope

-- the scope of some list
abbrev pub HasMeaning : Scope → Type 0
HasMeaning s = (scope : List ℕ) × Means s scope

-- what holds of every list that a scope means
abbrev pub ForEvery : Scope → (List ℕ → Type 0) → Type 0
ForEvery s P = (scope : List ℕ) → Means s scope → P scope
