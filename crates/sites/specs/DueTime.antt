-- When a call falls due, as the code has it. Assumes nothing: these are definitions.
use Rattle.std.proofs.Math.Option as paper
use Rattle.std.specs.Prelude.{ℕ, Option, Some, None}

abbrev pub due_time_from : paper.Option ℕ → Option ℕ
due_time_from (paper.some due) = Some due
due_time_from paper.none = None
