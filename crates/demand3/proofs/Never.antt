-- "14: dag or machine record breaks an index rule" is never the reply to a call of a run: every record of a run on an accepted table is
-- reached, so it keeps the rules, and a call on such a record is not refused with 14. For all limits with tables that have a place and are
-- no smaller than the limits, in particular the paper's. By the same rules each ready token of such a record has one position in the queue.
-- Assumes nothing.
use mathlib.Core.Path.{◌≡◌, refl}
use mathlib.Core.Bool.{true}
use mathlib.Core.List.{List}
use Prim.Native.Nat.{ℕ, ◌<◌}
use lib.ListN.{get_or}
use Rattle.job.specs.Syntax.{Program}
use Rattle.job.specs.Read.{read_table, accepted}
use Rattle.job.specs.WellFormed.{WellFormed}
use Rattle.job.specs.Node.{Dag}
use Rattle.job.specs.Construct.{construct}
use Rattle.model.specs.Machine.Limits.{Limits}
use Rattle.model.specs.Machine.Blank.{token_at}
use Rattle.model.specs.Machine.State.{is_ready}
use Rattle.model.specs.Machine.Rules.{rules_hold}
use Rattle.model.specs.Run.Call.{Call, runner, outcome_of, machine_after, started}
use Rattle.model.specs.Machine.Reply.{refusal_of}
use Rattle.model.specs.declared.reply.Reply.TheVariants as replies
use Rattle.job.proofs.Accepted.{accepted-well-formed}
use Rattle.lockstep.proofs.Labelling.{labels_of}
use Rattle.model.proofs.Run.OnePosition.{one-position}
use Rattle.demand3.proofs.Reached.{Roomy}
use Rattle.demand3.proofs.Runs.{InRun}
use Rattle.demand3.proofs.ProgramRuns.{calls-of-run, rules-of-run}
use Rattle.demand3.proofs.NotRule.{not-rule}

-- a run on an accepted table
module _ (lim : Limits) (room : Roomy lim) (table : List ℕ) (p : Program) (read : read_table table ≡ accepted p) where
  abbrev d : Dag
  d = construct p

  good : WellFormed p
  good = accepted-well-formed table p read

  pub run-reached : (calls : List Call)
      → InRun lim (construct p) (labels_of p) (machine_after runner lim (construct p) (started runner lim (construct p)) calls)
  run-reached calls = calls-of-run lim room p good d refl calls

  -- the index rules hold of every record of a run
  pub run-rules : (calls : List Call)
      → rules_hold lim (construct p) (machine_after runner lim (construct p) (started runner lim (construct p)) calls) ≡ true
  run-rules calls = rules-of-run lim room p good d refl (run-reached calls)

  -- each ready token of a record of a run stands at exactly one position of the queue
  pub run-one-position : (calls : List Call) (place : ℕ)
      → let m = machine_after runner lim (construct p) (started runner lim (construct p)) calls in
      is_ready (token_at m.tokens place).state ≡ true
      → (k : ℕ) × (k < m.queued) × (get_or m.queue k 0 ≡ place)
      × ((j : ℕ) → j < m.queued → get_or m.queue j 0 ≡ place → j ≡ k)
  run-one-position calls place ready = one-position lim d _ (run-rules calls) place ready

  -- no call of a run is refused with 14
  pub never-14 : (earlier : List Call) (c : Call)
      → (outcome_of runner lim (construct p) (machine_after runner lim (construct p) (started runner lim (construct p)) earlier) c).reply
      ≡ replies.Refused (refusal_of 14)
      → ⊥
  never-14 earlier c = not-rule lim d _ (run-rules earlier) c
