use mathlib.Core.Path.{◌≡◌}
use Prim.Native.Nat.{◌-◌}
use Rattle.model.specs.declared.record.Machine.{Machine}
use Rattle.record.specs.Holds.{Codes}
use Rattle.pruning.proofs.ChokeLaws.{walk}
use Rattle.pruning.proofs.choke.is_within.Given as goal

abbrev pub invariant-loop : goal.invariant-loop
invariant-loop l = (m : Machine) → Codes l.w m → walk m.cells l.c 32 l.initial.number ≡ walk m.cells l.c (32 - l.counter) l.number
