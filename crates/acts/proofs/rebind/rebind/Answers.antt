-- `rebind::rebind` meets its contract: the record is swept where the old binding may have been the last to name a cell, and else blanking
-- changes nothing. Assumes nothing.
use mathlib.Core.Path.{refl, sym, ◌∙◌}
use Rattle.acts.proofs.EndRebind.{gives_as, rebound-as, rebind-vacant, rebind-gives, no_cell}
use Rattle.acts.proofs.Outcomes.{gives-swept}
use Rattle.record.proofs.SlotWords.{kind-of}
use Rattle.model.specs.declared.reply.Reply.TheVariants as replies
use Rattle.acts.proofs.rebind.rebind.Goals as goal
use Rattle.acts.proofs.rebind.rebind.Goals.{then-old-eq-CELL_SLOT, else-old-eq-CELL_SLOT}

pub returns : goal.returns
returns c = λ m s a n e.
    let holds = c.written.ensures m s a.lawful.holds a.queued e in
    gives_as (rebound-as m c.args.actor s (sym (c.wide-x.ensures ∙ c.dag_word.ensures)) (sym c.dag_word-next.ensures))
    (elim c.if-old-eq-CELL_SLOT.branch [
      | then-old-eq-CELL_SLOT w ↦
          rw (w.w-is, w.marks-is)
          (gives-swept _ replies.Done _ refl c.plain.ensures (w.sweep.ensures _ holds (rebind-vacant a _ _ s)))
      | else-old-eq-CELL_SLOT w ↦
          rw (w.w-is, w.marks-is)
          (rebind-gives a _ _ s _ c.plain.ensures
          (no_cell _ _ (kind-of (c.bind-old.ensures m a.lawful.holds.codes)) w.if-old-eq-CELL_SLOT.false) n holds)
    ])
