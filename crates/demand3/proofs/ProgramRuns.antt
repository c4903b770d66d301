-- A run on the dag of a well-formed program: its records are reached, from the start on and by every call, and keep the index rules, since
-- the construction keeps the dag's rules and flows as its labels say. Assumes nothing.
use mathlib.Core.Path.{◌≡◌, sym, ◌∙◌, ap, subst}
use mathlib.Core.Bool.{true}
use mathlib.Core.List.{List}
use Rattle.job.specs.Syntax.{Program}
use Rattle.job.specs.Node.{Dag, dag_holds}
use Rattle.job.specs.WellFormed.{WellFormed}
use Rattle.job.specs.Construct.{construct}
use Rattle.calculus.specs.Meaning.{meaning}
use Rattle.model.specs.Machine.Limits.{Limits}
use Rattle.model.specs.Machine.Rules.{rules_hold}
use Rattle.model.specs.Run.Call.{Call, runner, outcome_of, machine_after, started}
use Rattle.model.specs.declared.record.Machine.{Machine}
use Rattle.job.proofs.DagHolds.{construct-holds}
use Rattle.lockstep.proofs.Labels.{Flow}
use Rattle.lockstep.proofs.Labelling.{labels_of}
use Rattle.lockstep.proofs.Flowing.{construct-flows}
use Rattle.demand3.proofs.Reached.{Roomy}
use Rattle.demand3.proofs.Runs.{InRun, start-in-run, call-in-run, run-in-run, in-run-rules}

module _ (lim : Limits) (room : Roomy lim) (p : Program) (good : WellFormed p) (d : Dag) (same : d ≡ construct p) where
  pub dag-of-run : dag_holds d ≡ true
  dag-of-run = ap dag_holds same ∙ construct-holds p good

  flows : Flow d (labels_of p)
  flows = subst (λ (e : Dag). Flow e (labels_of p)) (sym same) (construct-flows p good)

  -- a record of a run
  abbrev pub OfRun : Machine → Type 0
  OfRun m = InRun lim d (labels_of p) m

  pub start-of-run : OfRun (started runner lim d)
  start-of-run = start-in-run lim d (labels_of p) room flows dag-of-run (meaning p).body

  pub call-of-run : (m : Machine) (c : Call) → OfRun m → OfRun (outcome_of runner lim d m c).machine
  call-of-run m c r = call-in-run lim d (labels_of p) room flows dag-of-run (meaning p).body m c r

  pub calls-of-run : (calls : List Call) → OfRun (machine_after runner lim d (started runner lim d) calls)
  calls-of-run calls = run-in-run lim d (labels_of p) room flows dag-of-run (meaning p).body calls

  pub rules-of-run : {m : Machine} → OfRun m → rules_hold lim d m ≡ true
  rules-of-run r = in-run-rules lim d (labels_of p) room flows dag-of-run (meaning p).body r
