-- `end::end` meets its contract: what the token named may be out of reach, and then the record is swept. Assumes nothing.
use Rattle.acts.proofs.EndRebind.{end-vacant, end-gives}
use Rattle.acts.proofs.Outcomes.{gives-swept}
use mathlib.Core.Path.{refl}
use Rattle.acts.proofs.end.end.Goals as goal
use Rattle.acts.proofs.end.end.Goals.{then-linked, else-linked}

pub returns : goal.returns
returns c = λ m dag a.
    let holds = c.written.ensures m a.lawful.holds a.queued in
    elim c.if-linked.branch [
      | then-linked w ↦
          rw (w.w-is, w.marks-is)
          (gives-swept _ _ _ refl c.plain.ensures (w.sweep.ensures _ holds (end-vacant a)))
      | else-linked w ↦
          rw (w.w-is, w.marks-is)
          (end-gives a _ _ c.plain.ensures (c.names-linked.ensures m a.lawful.holds.codes w.if-linked.false) holds)
    ]
