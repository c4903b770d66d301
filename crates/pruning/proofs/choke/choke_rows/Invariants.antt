use Rattle.model.specs.declared.record.Machine.{Machine}
use Rattle.record.specs.Holds.{Holds}
use Rattle.pruning.specs.Choke.{rows_choked}
use Rattle.pruning.proofs.choke.choke_rows.Given as goal

abbrev pub invariant-loop-p : goal.invariant-loop-p
invariant-loop-p l = (m : Machine) → Holds l.initial.w m → Holds l.w (rows_choked l.c l.p m)
