-- The lines at the end of a run: `short` where bytes are left, then `end`. Assumes nothing.
use mathlib.Core.Path.{◌≡◌, refl}
use mathlib.Core.List.{[], ◌∷◌}
use Prim.Native.Nat.{ℕ}
use Rattle.model.specs.Output.Line.{end, short}
use Rattle.job.proofs.Test.{eq-eqb, ne_eqb}
use Rattle.lines.specs.LastLines.{last_lines}

pub last_none : (left k : ℕ) → left ≡ 0 → end k ∷ [] ≡ last_lines left k
unfolding last_lines
last_none left k e = rw (eq-eqb left 0 e, last_lines) refl

pub last_some : (left k : ℕ) → (left ≡ 0 → ⊥) → short ∷ end k ∷ [] ≡ last_lines left k
unfolding last_lines
last_some left k e = rw (ne_eqb left 0 e, last_lines) refl
