-- Past the cells nothing is set.
use mathlib.Core.Logic.{inl, inr}
use Rattle.std.proofs.Common.{◌∙◌, ap, arith, not}
use Rattle.job.proofs.Test.{ne_eqb, le-leb}
use Rattle.model.specs.Machine.Blank.{cell_at}
use Rattle.record.specs.Layout.{held_kind}
use Rattle.row_rules.proofs.ChainLaws.{waits-past, waits-read, waits-not}
use Rattle.row_rules.proofs.chain.waits_at_unset.Goals.{then-kind-ne-WAITING_STATE, else-kind-ne-WAITING_STATE}
use Rattle.row_rules.proofs.chain.waits_at_unset.Goals as goal

pub returns-then-at-ge-CELLS : goal.returns-then-at-ge-CELLS
returns-then-at-ge-CELLS c = λ m s h e f.
    elim c.if-kind-ne-WAITING_STATE.branch [
      | then-kind-ne-WAITING_STATE w ↦
          let a = ap not (ne_eqb _ 2 w.if-kind-ne-WAITING_STATE.true) in
          let b = waits-not m.cells h.shaped.cells _ _ s e f w.if-kind-ne-WAITING_STATE.true in cc
      | else-kind-ne-WAITING_STATE w ↦
          elim c.if-at-ge-CELLS.either [
            | inl g ↦ absurd (g w.if-kind-ne-WAITING_STATE.false)
            | inr g ↦
                let a = le-leb 32 _ g.1 in
                let b = waits-past m.cells h.shaped.cells _ _ s e f g.0 (omega (arith, g.1, c.wide-at.ensures)) in cc
          ]
    ]

pub returns-else-at-ge-CELLS : goal.returns-else-at-ge-CELLS
returns-else-at-ge-CELLS c = λ m s h e f.
    waits-read m.cells h.shaped.cells _ _ s e f c.if-at-ge-CELLS.false.0
    (c.value_kind.ensures m h ∙ ap (λ n. held_kind (cell_at m.cells n).value) c.wide-at.ensures)
