-- `mark::mark_named` meets its contract. The loop's invariant: the chains of the bindings from `x` on are left to mark. Assumes nothing.
use mathlib.Core.Path.{◌∙◌, sym, refl}
use borrow.Author.Rules.{rules}
use Rattle.reach.proofs.UsedMarking.{named-first, named-next, named-last}
use Rattle.reach.proofs.mark.mark_named.Goals as goal

pub loop-x-init : goal.loop-x-init
loop-x-init c = λ m h. refl

pub loop-x-preserved : goal.loop-x-preserved
loop-x-preserved c = λ m h.
    let l = c.loop-x in
    l.invariant m h
    ∙ named-next m h.shaped.cells _ l.x _ _ _ (h.shaped.binds _) (search rules) (c.bound.ensures m h) (c.mark_parents-in-loop-x.ensures m h)

pub returns : goal.returns
returns c = λ m h.
    let l = c.loop-x in
    sym
    (named-first m h.shaped.cells _ _ _ _
    (c.wide.ensures
    ∙ c.cell.ensures m h)
    (c.mark_parents.ensures m h)
    ∙ (l.invariant m h ∙ named-last m _ l.x _ (h.shaped.binds _) (search rules)))
