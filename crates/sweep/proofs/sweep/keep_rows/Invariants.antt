use mathlib.Core.Bool.{true, false}
use mathlib.Core.Path.{◌≡◌}
use Prim.Native.Nat.{ℕ, ◌+◌, ◌<◌}
use lib.ListN.{get_or}
use Rattle.model.specs.declared.record.Machine.{Machine}
use Rattle.record.specs.Holds.{Holds}
use Rattle.sweep.proofs.sweep.keep_rows.Given as goal

abbrev pub invariant-loop-p : goal.invariant-loop-p
invariant-loop-p g l = (stage : ℕ → Machine) → Holds l.initial.w (stage 0)
    → ((p : ℕ) → p < l.end → get_or l.used p false ≡ true → stage p ≡ stage (p + 1))
    → ((p : ℕ) → p < l.end → get_or l.marks p false ≡ false → stage p ≡ stage (p + 1))
    → ((p : ℕ) (v v′ : _) → p < l.end → get_or l.used p false ≡ false → Holds v.now (stage p) → goal.B-post g l.make_blank v p tt v′
    → Holds v′.now (stage (p + 1)))
    → Holds l.w (stage l.p)
