use Rattle.model.specs.declared.record.Machine.{Machine}
use Rattle.model.specs.Machine.Blank.{token_at}
use Rattle.record.specs.Holds.{Codes}
use Rattle.sites.proofs.LookLaws.{Filled, Looking}
use Rattle.sites.specs.Look.{LookFacts}
use Rattle.sites.specs.Row.{params_at}
use Rattle.sites.proofs.look.look_up.Given as goal

abbrev pub invariant-loop-i : goal.invariant-loop-i
invariant-loop-i l = Filled l.i l.values
    × ((m : Machine) → Codes l.w m → LookFacts m l.p → Looking m.cells (token_at m.tokens l.p).binds (params_at l.dag l.at) l.i l.values)
