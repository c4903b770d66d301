-- Soundness of the abstract machine: what a run of a well-formed program shows is allowed. Its first state stands for the goal, and each
-- step is some rewritings or none. Assumes nothing.
use mathlib.Core.Path.{subst}
use mathlib.Core.List.{List}
use Rattle.job.specs.Syntax.{Program}
use Rattle.job.specs.WellFormed.{WellFormed}
use Rattle.job.specs.Construct.{construct}
use Rattle.calculus.specs.Event.{Event}
use Rattle.calculus.specs.Allowed.{Allowed}
use Rattle.calculus.specs.Meaning.{meaning}
use Rattle.simulation.proofs.AbstractMachine.{State, Run, start_at}
use Rattle.lockstep.proofs.CodedProgram.{abstract_of, goal-coded, bodies-coded}
use Rattle.lockstep.proofs.Closed.{goal-closed}
use Rattle.simulation.proofs.RunsSound.{zeros, Stands, start-stands, run_sound}

module _ (p : Program) (wf : WellFormed p) where
  -- the first state stands for the goal, which has no variables
  pub first-stands : Stands (abstract_of p) (goal-coded p wf).sink (meaning p).goal (start_at (construct p).goal)
  first-stands =
      subst (λ e. Stands (abstract_of p) (goal-coded p wf).sink e (start_at (construct p).goal))
      (goal-closed p wf zeros)
      (start-stands (abstract_of p) (goal-coded p wf).sink (goal-coded p wf).ending (goal-coded p wf).laid)

  pub sound : {es : List Event} {s : State} → Run (abstract_of p) (start_at (construct p).goal) es s → Allowed (meaning p) es
  sound r = run_sound (abstract_of p) (goal-coded p wf).sink (bodies-coded p wf) (goal-coded p wf).ending first-stands r
