-- A turn's report and its line are the outcome's: the reply says whether there is a line, and whether the run is over. By the cases of a
-- reply. Assumes nothing.
use mathlib.Core.Path.{◌≡◌, refl, ◌∙◌, ap, ap₂}
use mathlib.Core.Bool.{Bool, false}
use mathlib.Core.List.{List, []}
use Prim.Native.Nat.{ℕ, ◌+◌, ◌≤◌}
use lib.IntN.{ℤ}
use Rattle.std.specs.Prelude.{Result, Ok, Err}
use Rattle.job.proofs.Test.{clash}
use Rattle.model.specs.Output.Line.{refused, text_of, text_of_all}
use Rattle.model.specs.Output.Orcrun.{reported_lines}
use Rattle.model.specs.Machine.Reply.{number_of, is_refused}
use Rattle.model.specs.declared.record.Machine.{Machine}
use Rattle.model.specs.declared.reply.Outcome.{Outcome}
use Rattle.model.specs.declared.reply.Refusal.{Refusal}
use Rattle.model.specs.declared.reply.Reply.{Reply}
use Rattle.model.specs.declared.reply.Reply.TheVariants as replies
use Rattle.model.specs.declared.reply.Report.{Report}
use Rattle.acts.specs.Acting.{call_report}
use Rattle.acts.specs.SharedFrames.{Stepped}
use Rattle.lines.specs.Shown.{ShowsBytes}
use Rattle.lines.proofs.ShownBytes.{shows-as}
use Rattle.lines.proofs.ReportLines.{tells-refusal}
use Rattle.turns.specs.Turn.{has_line, is_over}
use Rattle.house.specs.TurnLeaves.{TurnLeaves}
use Rattle.reach.specs.declared.used.Marks.{Marks}

-- a reply without a line prints nothing and refuses nothing
pub silent : (r : Reply) (vs : List ℤ) → has_line r ≡ false → ([] ≡ text_of_all (reported_lines r vs)) × (false ≡ is_refused r)
unfolding has_line reported_lines text_of_all is_refused
silent replies.Done vs e = (refl, refl)
silent replies.Waits vs e = (refl, refl)
silent (replies.Published v) vs e = clash refl e
silent (replies.Called h s n) vs e = clash refl e
silent (replies.Refused x) vs e = clash refl e

module _ {o : Outcome} {m : Machine} {ws : List ℕ} {used : Marks} {shared : List Bool} {p : Report}
    (g : Stepped o m ws used shared p) {before after : List ℕ}
    {from total n : ℕ} {over : Bool} (ends : over ≡ is_over m.queued p.reply) where
  pub turned-shows : ShowsBytes before from total (text_of_all (reported_lines p.reply p.values)) after n → n ≤ total + 80
      → TurnLeaves o m ws used shared before from total after n over
  turned-shows s few =
      record {
        holds = g.gives.holds;
        marks = g.gives.marks;
        callees = g.callees;
        lines = shows-as (ap₂ (λ (r : Reply) (vs : List ℤ). text_of_all (reported_lines r vs)) g.gives.reply g.gives.values) s;
        few = few;
        over = ends ∙ ap (is_over m.queued) g.gives.reply;
      }

-- a delivery: nothing is printed where it was taken, else the number of the refusal
pub taken-line : {r : Result Unit Refusal} → r ≡ Ok tt → [] ≡ text_of_all (reported_lines (call_report r).reply (call_report r).values)
unfolding reported_lines text_of_all
taken-line e = rw e refl

pub refused-line : {r : Result Unit Refusal} (x : Refusal) → r ≡ Err x → {n : ℕ} → n ≡ number_of x
    → text_of (refused n) ≡ text_of_all (reported_lines (call_report r).reply (call_report r).values)
refused-line x e f = rw e (ap (λ n. text_of (refused n)) f ∙ tells-refusal _ _ _ x refl refl)
