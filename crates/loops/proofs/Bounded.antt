-- A loop in tail position runs in bounded tables: the goal's code needs what the table says, each body's has no branch, so every record
-- of a run is light, and light records have room. Assumes nothing.
use mathlib.Core.Path.{◌≡◌, refl, ◌∙◌, ap}
use mathlib.Core.Bool.{true}
use mathlib.Core.List.{List, []}
use Prim.Native.Nat.{ℕ, ◌<◌, ◌≤◌}
use native.Mathlib.Omega.{arith}
use Rattle.job.specs.Syntax.{Program}
use Rattle.job.specs.Read.{read_table, accepted}
use Rattle.job.specs.WellFormed.{WellFormed}
use Rattle.job.specs.Construct.{construct}
use Rattle.model.specs.Machine.Limits.{Limits, limits}
use Rattle.model.specs.Run.Call.{Call, step, outcome_of}
use Rattle.model.specs.declared.reply.Reply.TheVariants as replies
use Rattle.calculus.specs.Meaning.{meaning}
use Rattle.job.proofs.Accepted.{accepted-well-formed}
use Rattle.job.proofs.DagHolds.{construct-holds, bodies-length}
use Rattle.lockstep.proofs.Labelling.{labels_of}
use Rattle.lockstep.proofs.Flowing.{construct-flows}
use Rattle.lockstep.proofs.Tails.{tails-all}
use Rattle.lockstep.proofs.CodedProgram.{abstract_of, goal-coded, bodies-coded}
use Rattle.lockstep.proofs.Lockstep.{fitting}
use Rattle.demand3.proofs.Reached.{limits-roomy}
use Rattle.demand3.proofs.Never.{never-14}
use Rattle.loops.specs.Looping.{loops}
use Rattle.loops.specs.Needed.{tokens_needed, cells_needed}
use Rattle.loops.specs.Bounded.{record_after, InUseBounded, NeverFull, GoesOn, Bounded}
use Rattle.loops.proofs.Weights.{Weighs, Entries}
use Rattle.loops.proofs.CodeWeighs.{Ending, Tails, goal-weighs, entries-steady}
use Rattle.loops.proofs.NotFull.{not_full}
use Rattle.loops.proofs.StepRefusals.{refused-with-13}
use Rattle.loops.proofs.BoundedRuns.{Light, run-light, light-in-use, light-room}

module _ (p : Program) (w : WellFormed p) (rank : ℕ → ℕ) (top : ℕ) (looping : loops rank top p ≡ true) where
  tails : Tails (abstract_of p)
  tails = record { sound = (bodies-coded p w).tails; complete = tails-all (construct p) (labels_of p) (meaning p).body }

  entries : Entries (abstract_of p) rank top
  unfolding loops meaning construct
  entries =
      entries-steady (abstract_of p) tails rank top p.definitions looping (bodies-length 0 p.definitions p.goal) (λ d. refl)
      (bodies-coded p w)

  goal : Weighs (abstract_of p) rank top (construct p).goal (tokens_needed top p) (cells_needed p)
  unfolding meaning tokens_needed cells_needed
  goal =
      let c = goal-coded p w in
      goal-weighs (abstract_of p) tails rank top [] p.goal c.laid (Ending.publish c.ending) (Weighs.publish c.ending)

  module _ (t c k : ℕ) (some : 1 ≤ t) where
    abbrev lim : Limits
    lim = limits t c k

    abbrev LightAfter : List Call → Type 0
    LightAfter calls =
        Light lim (construct p) (labels_of p) (meaning p).body (fitting t c k) (construct-flows p w) rank top entries
        (tokens_needed top p) (cells_needed p) (record_after lim p calls)

    light-after : (calls : List Call) → LightAfter calls
    light-after calls =
        run-light lim (construct p) (labels_of p) (meaning p).body (fitting t c k) (construct-flows p w) rank top entries
        (tokens_needed top p) (cells_needed p) (let z : 0 < t = omega arith in z) (construct-holds p w) goal calls

  in-use-bounded : InUseBounded top p
  in-use-bounded t c k some calls =
      light-in-use (limits t c k) (construct p) (labels_of p) (meaning p).body (fitting t c k) (construct-flows p w) rank top entries
      (tokens_needed top p) (cells_needed p) (record_after (limits t c k) p calls) (light-after t c k some calls)

  never-full : NeverFull top p
  never-full t c k some tokens cells calls next =
      not_full (limits t c k) (construct p) (record_after (limits t c k) p calls)
      (light-room (limits t c k) (construct p) (labels_of p) (meaning p).body (fitting t c k) (construct-flows p w) rank top entries
      (tokens_needed top p) (cells_needed p) (record_after (limits t c k) p calls) (light-after t c k some calls) tokens cells)
      next

goes_on : (table : List ℕ) (p : Program) → read_table table ≡ accepted p → (rank : ℕ → ℕ) (top : ℕ) → loops rank top p ≡ true → GoesOn top p
unfolding outcome_of
goes_on table p read rank top looping t c k some cell tokens cells calls place queued r e =
    let m = record_after (limits t c k) p calls in
    let full = never-full p (accepted-well-formed table p read) rank top looping t c k some tokens cells calls (step place) in
    refused-with-13 (limits t c k) (construct p) m place queued r e
    (λ x. full.0 (e ∙ ap replies.Refused x)) (λ x. full.1 (e ∙ ap replies.Refused x))
    (λ x. never-14 (limits t c k) (limits-roomy t c k some cell) table p read calls (step place) (e ∙ ap replies.Refused x))

pub tail-loops-are-bounded : Bounded
tail-loops-are-bounded =
    record {
      in_use = λ table p read rank top looping. in-use-bounded p (accepted-well-formed table p read) rank top looping;
      never-full = λ table p read rank top looping. never-full p (accepted-well-formed table p read) rank top looping;
      goes_on = goes_on;
    }
