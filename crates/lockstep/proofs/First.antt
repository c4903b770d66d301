-- Demand 3, first part: each run's event list is allowed for its table. A run is in lock step with a run of the abstract machine, and what
-- that shows is allowed. Assumes nothing.
use mathlib.Core.List.{List}
use Rattle.job.specs.Construct.{construct}
use Rattle.model.specs.Machine.Limits.{limits}
use Rattle.calculus.specs.Event.{Event}
use Rattle.calculus.specs.Allowed.{Allowed}
use Rattle.calculus.specs.Meaning.{meaning}
use Rattle.model.specs.Run.Call.{runner}
use Rattle.model.specs.Run.Demand3.{First}
use Rattle.job.specs.WellFormed.{WellFormed}
use Rattle.job.proofs.Accepted.{accepted-well-formed}
use Rattle.lockstep.proofs.Sound.{sound}
use Rattle.lockstep.proofs.Labelling.{labels_of}
use Rattle.lockstep.proofs.Flowing.{construct-flows}
use Rattle.lockstep.proofs.Lockstep.{fitting, Shown, shows, run-shown}
use Rattle.model.proofs.Machine.StartAccepted.{accepted-starts}

pub runs-are-allowed : First runner
runs-are-allowed table p e t c k some = (
  accepted-starts (limits t c k) p w,
  λ calls. allowed (run-shown (limits t c k) (construct p) (labels_of p) (meaning p).body (fitting t c k) (construct-flows p w) some calls),
)
  where
    w : WellFormed p
    w = accepted-well-formed table p e

    allowed : {es : List Event} → Shown (limits t c k) (construct p) (labels_of p) (meaning p).body (fitting t c k) (construct-flows p w) es
        → Allowed (meaning p) es
    allowed (shows r) = sound p w r
