use Rattle.std.proofs.Common.{◌≡◌, ◌-◌}
use Rattle.model.specs.declared.record.Machine.{Machine}
use Rattle.model.specs.Machine.Rules.{chain_ends}
use Rattle.record.specs.Holds.{Codes}
use Rattle.record.specs.LayoutDecoded.{place_from}
use Rattle.row_rules.proofs.chain.chain_ends.Given as goal

abbrev pub invariant-loop-link : goal.invariant-loop-link
invariant-loop-link l =
    (m : Machine) → Codes l.w m → chain_ends m.cells 32 (place_from l.initial.here) ≡ chain_ends m.cells (32 - l._link) (place_from
    l.here)
