use mathlib.Core.Path.{◌≡◌}
use lib.ListN.{drop}
use Rattle.model.specs.declared.record.Machine.{Machine}
use Rattle.model.specs.Machine.Answer.{holder}
use Rattle.record.specs.Holds.{Codes}
use Rattle.sites.proofs.answer.find_open.Given as goal

abbrev pub invariant-loop-p : goal.invariant-loop-p
invariant-loop-p l = (m : Machine) → Codes l.w m → holder l.handle 0 m.tokens ≡ holder l.handle l.p (drop l.p m.tokens)
