-- What an error leaves of a read or a write that moves bytes in several calls: the first of them are moved. Assumes nothing: these are
-- definitions.
use Rattle.std.specs.Prelude.{ℕ, List, take, Option}
use Rattle.std.specs.Io.KnownBytes.{Appends, Consumes}

-- known bytes grow by the first of `bytes`, so many as were taken
abbrev pub AppendsPart : Option (List ℕ) → Option (List ℕ) → List ℕ → Type 0
AppendsPart old new bytes = (n : ℕ) × Appends old new (take n bytes)

-- known bytes lose the first of `bytes`, so many as were given
abbrev pub ConsumesPart : Option (List ℕ) → Option (List ℕ) → List ℕ → Type 0
ConsumesPart old new bytes = (n : ℕ) × Consumes old new (take n bytes)
