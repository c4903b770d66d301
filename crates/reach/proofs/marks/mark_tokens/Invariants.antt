use mathlib.Core.Path.{◌≡◌}
use Rattle.model.specs.Machine.InUse.{tokens_used}
use Rattle.model.specs.declared.record.Machine.{Machine}
use Rattle.record.specs.Holds.{Codes}
use Rattle.reach.proofs.UsedMarking.{callers_left}
use Rattle.reach.proofs.marks.mark_tokens.Given as goal

abbrev pub invariant-loop-p : goal.invariant-loop-p
invariant-loop-p l = (m : Machine) → Codes l.w m → tokens_used m ≡ callers_left m l.p l.marks
