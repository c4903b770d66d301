-- Each turn takes a name out and puts it behind those kept so far if it is marked, as `TurnLeaves` says. Assumes nothing.
use mathlib.Core.Bool.{false}
use mathlib.Core.Path.{ap, ap₂, ◌∙◌}
use native.Mathlib.Omega.{arith}
use lib.ListN.{get_or, set}
use Rattle.orders.proofs.NamesRetained.{turned-first, turned-drops, turned-keeps, retained-all}
use Rattle.orders.proofs.names.retained.Goals as goal
use Rattle.orders.proofs.names.retained.Goals.{then-is_marked, else-is_marked}

pub loop-i-init : goal.loop-i-init
loop-i-init c = turned-first _ _

pub loop-i-preserved : goal.loop-i-preserved
loop-i-preserved c =
    let l = c.loop-i in
    let out = c.take-name.ensures in
    let marked = c.is_marked.ensures ∙ ap (λ p. get_or c.args.keep.now p false) out.value in
    elim c.if-is_marked.branch [
      | then-is_marked w ↦ turned-keeps l.invariant _ (omega arith) marked _ _ w.if-is_marked.true
          (w.names-is ∙ ap₂ (λ z p. set (set l.names l.i z) l.n p) out.after out.value) w.n-is
      | else-is_marked w ↦ turned-drops l.invariant _ (omega arith) marked _ _ w.if-is_marked.false
          (w.names-is ∙ ap (set l.names l.i) out.after) w.n-is
    ]

pub returns : goal.returns
returns c = retained-all c.loop-i.invariant (omega arith)
