-- A run, record by record: each is reached with some state of the abstract machine, since the start is and each call, accepted or refused,
-- keeps it; so each keeps the index rules. Assumes nothing.
use mathlib.Core.Path.{◌≡◌, refl, sym, subst}
use mathlib.Core.Bool.{true, false}
use mathlib.Core.List.{List}
use Prim.Native.Nat.{ℕ}
use Rattle.job.specs.Node.{Dag, dag_holds}
use Rattle.model.specs.Machine.Limits.{Limits}
use Rattle.model.specs.Machine.Rules.{rules_hold}
use Rattle.model.specs.Machine.Reply.{is_refused}
use Rattle.model.specs.Machine.Start.{start, start_machine}
use Rattle.calculus.specs.Event.{Event}
use Rattle.calculus.specs.Expression.{Exp}
use Rattle.model.specs.Run.Call.{Call, runner, outcome_of, machine_after, started}
use Rattle.model.specs.declared.record.Machine.{Machine}
use Rattle.simulation.proofs.AbstractMachine as Abstract
use Rattle.lockstep.proofs.Labels.{Labels, Flow}
use Rattle.model.proofs.Run.Passage.{call-keeps, calls-keep}
use Rattle.demand3.proofs.Reached.{Reached, Roomy, reached-rules, start-reached, Reaches, reaches, call-reached}

-- the machine is reached, with some state of the abstract machine
pub data InRun (lim : Limits) (d : Dag) (M : Labels) (m : Machine) : Type 0 where
  seen_with : (s : Abstract.State) → Reached lim d M m s → InRun lim d M m

module _ (lim : Limits) (d : Dag) (M : Labels) (room : Roomy lim) (flow : Flow d M) (dag : dag_holds d ≡ true) (bodies : ℕ → Exp) where
  accepted-in-run : (m : Machine) (c : Call) → is_refused (outcome_of runner lim d m c).reply ≡ false → InRun lim d M m
      → InRun lim d M (outcome_of runner lim d m c).machine
  accepted-in-run m c ok (seen_with s r) = next (call-reached lim d M room flow dag bodies m r c ok)
    where
      next : {es : List Event} → Reaches lim d M room flow dag bodies s es (outcome_of runner lim d m c).machine
          → InRun lim d M (outcome_of runner lim d m c).machine
      next (reaches st e r') = seen_with _ r'

  -- one call, accepted or refused
  pub call-in-run : (m : Machine) (c : Call) → InRun lim d M m → InRun lim d M (outcome_of runner lim d m c).machine
  call-in-run = call-keeps lim d (InRun lim d M) accepted-in-run

  pub in-run-rules : {m : Machine} → InRun lim d M m → rules_hold lim d m ≡ true
  in-run-rules (seen_with s r) = reached-rules lim d M room flow dag r

  start_is : (start lim d).machine ≡ start_machine lim d.goal
  unfolding start
  start_is = rw (dag, start) refl

  pub start-in-run : InRun lim d M (started runner lim d)
  start-in-run = subst (InRun lim d M) (sym start_is) (seen_with _ (start-reached lim d M room flow dag))

  -- every record of a run
  pub run-in-run : (cs : List Call) → InRun lim d M (machine_after runner lim d (started runner lim d) cs)
  run-in-run cs = calls-keep lim d (InRun lim d M) accepted-in-run (started runner lim d) cs start-in-run
