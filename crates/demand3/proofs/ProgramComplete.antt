-- Completeness of the abstract machine: what is allowed for a well-formed program, a run of it shows. Its first state stands for the goal,
-- and each rewriting is made by finitely many steps. Assumes nothing.
use mathlib.Core.Path.{refl}
use mathlib.Core.List.{List}
use Rattle.job.specs.Syntax.{Program}
use Rattle.job.specs.WellFormed.{WellFormed}
use Rattle.job.specs.Construct.{construct}
use Rattle.calculus.specs.Event.{Event}
use Rattle.calculus.specs.Allowed.{Allowed}
use Rattle.calculus.specs.Meaning.{meaning}
use Rattle.simulation.proofs.AbstractMachine.{State, Run, start_at}
use Rattle.lockstep.proofs.Sound.{first-stands}
use Rattle.lockstep.proofs.CodedProgram.{abstract_of, goal-coded, bodies-coded}
use Rattle.simulation.proofs.Complete.{run-complete}

module _ (p : Program) (wf : WellFormed p) where
  pub complete : {es : List Event} → Allowed (meaning p) es → (s : State) × Run (abstract_of p) (start_at (construct p).goal) es s
  complete a =
      run-complete (abstract_of p) (goal-coded p wf).sink (bodies-coded p wf) (goal-coded p wf).ending (first-stands p wf) refl refl a
