use mathlib.Core.Bool.{false}
use mathlib.Core.Path.{◌≡◌}
use lib.Dec.{eqb}
use lib.ListN.{replicate}
use Rattle.model.specs.declared.record.Machine.{Machine}
use Rattle.model.specs.declared.token.Token.{Token}
use Rattle.record.specs.Layout.{state_kind}
use Rattle.record.specs.Holds.{Codes}
use Rattle.sites.proofs.TableLoops.{Mapping}
use Rattle.pruning.proofs.choke.mark_state.Given as goal

abbrev pub invariant-loop-p : goal.invariant-loop-p
invariant-loop-p l = (m : Machine) → Codes l.w m → l.initial.marks ≡ replicate 64 false
    → Mapping (λ (t : Token). eqb (state_kind t.state) l.kind) m.tokens (replicate 64 false) l.p l.marks
