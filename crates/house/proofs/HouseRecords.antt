-- The records of a run on a loaded dag: they keep the index rules, and each call leads to such a record. Assumes nothing.
use mathlib.Core.Path.{◌≡◌, refl, sym, subst}
use mathlib.Core.Bool.{true}
use mathlib.Core.List.{List}
use Prim.Native.Nat.{ℕ}
use native.Mathlib.Decide.{ℕ_discrete}
use lib.ListN.{get_or}
use Rattle.job.specs.Number.{signed}
use Rattle.job.specs.Node.{Dag, dag_holds}
use Rattle.job.specs.WellFormed.{WellFormed}
use Rattle.job.specs.Words.{dag_of}
use Rattle.model.specs.Machine.Limits.{paper}
use Rattle.model.specs.Machine.Rules.{rules_hold}
use Rattle.model.specs.Machine.Start as Start
use Rattle.model.specs.Machine.Start.{start_machine, start}
use Rattle.model.specs.Machine.Step as Step
use Rattle.model.specs.Machine.Answer as Answer
use Rattle.model.specs.Run.Call.{step, answer, advance, outcome_of}
use Rattle.model.specs.Output.Orcrun.{clock_handle, delivered}
use Rattle.model.specs.declared.record.Machine.{Machine}
use Rattle.model.specs.declared.reply.Outcome.{Outcome}
use Rattle.job.proofs.Number.{signed-fits}
use Rattle.job.proofs.Accepted.{accepted-well-formed}
use Rattle.model.proofs.Run.Printing.{moves-clock, answers}
use Rattle.lockstep.proofs.Labelling.{labels_of}
use Rattle.demand3.proofs.Reached.{paper-roomy}
use Rattle.demand3.proofs.Runs.{InRun}
use Rattle.demand3.proofs.ProgramRuns.{dag-of-run, start-of-run, call-of-run, rules-of-run}
use Rattle.demand3.proofs.Framed.{in-run-framed}
use Rattle.acts.specs.Acting.{CallersAreFrames}
use Rattle.house.specs.LoadedDag.{Accepted}

module _ (words : List ℕ) (A : Accepted words) where
  abbrev d : Dag
  d = dag_of words

  good : WellFormed A.program
  good = accepted-well-formed A.table A.program A.read

  pub dag-holds : dag_holds (dag_of words) ≡ true
  dag-holds = dag-of-run paper paper-roomy A.program good d A.holds

  -- the record that the code starts with
  pub started : start_machine paper (get_or words 2 0) ≡ (Start.start paper (dag_of words)).machine
  unfolding start dag_of
  started = rw (dag-holds, start) refl

  -- a record of a run on this dag
  abbrev pub Reached : Machine → Type 0
  Reached m = InRun paper (dag_of words) (labels_of A.program) m

  pub reached-start : Reached (Start.start paper (dag_of words)).machine
  reached-start = start-of-run paper paper-roomy A.program good d A.holds

  pub reached-step : (m : Machine) (place : ℕ) → Reached m → Reached (Step.step paper (dag_of words) m place).machine
  unfolding outcome_of
  reached-step m place r = call-of-run paper paper-roomy A.program good d A.holds m (step place) r

  reached-answer : (m : Machine) (h w : ℕ) → Reached m → Reached (Answer.answer paper (dag_of words) m h (signed w)).machine
  unfolding outcome_of
  reached-answer m h w r = call-of-run paper paper-roomy A.program good d A.holds m (answer h (signed w) (signed-fits w)) r

  pub reached-delivery : (m : Machine) (h v : ℕ) → Reached m → Reached (delivered paper (dag_of words) m h v).machine
  unfolding outcome_of
  reached-delivery m h v r = go (ℕ_discrete h clock_handle)
    where
      go : Dec (h ≡ clock_handle) → Reached (delivered paper (dag_of words) m h v).machine
      go (yes e) =
          subst (λ (o : Outcome). Reached o.machine) (sym (moves-clock paper (dag_of words) m h v e))
          (call-of-run paper paper-roomy A.program good d A.holds m (advance v) r)
      go (no f) = subst (λ (o : Outcome). Reached o.machine) (sym (answers paper (dag_of words) m h v f)) (reached-answer m h v r)

  pub reached-framed : {m : Machine} → Reached m → CallersAreFrames m
  reached-framed r = in-run-framed r

  pub reached-rules : {m : Machine} → Reached m → rules_hold paper (dag_of words) m ≡ true
  reached-rules r = rules-of-run paper paper-roomy A.program good d A.holds r

module _ (words : List ℕ) (A : Accepted words) (m : Machine) (o : Outcome) where
  pub reached-by-step : Reached words A m → o ≡ Step.step paper (dag_of words) m 0 → Reached words A o.machine
  reached-by-step r e = subst (λ (u : Outcome). Reached words A u.machine) (sym e) (reached-step words A m 0 r)

  pub reached-by-delivery : (h v : ℕ) → Reached words A m → o ≡ delivered paper (dag_of words) m h v → Reached words A o.machine
  reached-by-delivery h v r e = subst (λ (u : Outcome). Reached words A u.machine) (sym e) (reached-delivery words A m h v r)
