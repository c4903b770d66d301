-- `tail::leads_to_return` meets its contract: the looks that are left say of the node at hand what all of them say of the first. Assumes
-- nothing.
use native.Mathlib.Omega.{arith}
use Rattle.tail_writes.proofs.TailLooks.{looking-begins, looked-at-all, found-return, found-other, found-remove}
use Rattle.tail_writes.proofs.tail.leads_to_return.Goals as goal

pub bounds-dag-0 : goal.bounds-dag-0
bounds-dag-0 c = omega (arith, c.requires.size)

pub loop-looks-init : goal.loop-looks-init
loop-looks-init c = looking-begins _ _ _ c.requires c.wide-count.ensures

pub returns-then-kind-eq-RETURN : goal.returns-then-kind-eq-RETURN
returns-then-kind-eq-RETURN c = found-return _ _ _ _ _ c.loop-looks-test.true c.loop-looks.invariant c.if-kind-eq-RETURN.true

pub returns-then-kind-ne-REMOVE : goal.returns-then-kind-ne-REMOVE
returns-then-kind-ne-REMOVE c = found-other _ _ _ _ _ c.loop-looks-test.true c.loop-looks.invariant
    c.if-kind-eq-RETURN.false c.if-kind-ne-REMOVE.true

pub loop-looks-preserved : goal.loop-looks-preserved
loop-looks-preserved c = found-remove _ _ _ _ _ c.loop-looks-test.true
    c.loop-looks.invariant _ c.if-kind-ne-REMOVE.false c.wide-node.ensures

pub returns : goal.returns
returns c = looked-at-all _ _ _ _ _ c.loop-looks.invariant c.loop-looks-test.false
