-- `passing::bind_slots` meets its contract: at each turn one more of the old bindings is written over. Assumes nothing.
use mathlib.Core.Path.{ap}
use native.Mathlib.Omega.{arith}
use lib.ListN.{get_or}
use lib.Seq.{paste-zero}
use Rattle.model.specs.Machine.Blank.{empty}
use Rattle.model.specs.Machine.Update.{with_binding}
use Rattle.writes.proofs.Writes.{carry-binds}
use Rattle.tail_writes.proofs.PassingWords.{slot-at, bound-on, bound-whole, binds-long}
use Rattle.tail_writes.proofs.passing.bind_slots.Goals as goal

pub loop-x-init : goal.loop-x-init
loop-x-init c = λ m t bs h l o. carry-binds m c.args.p t (paste-zero t.binds 0 bs) h

pub loop-x-preserved : goal.loop-x-preserved
loop-x-preserved c = λ m t bs h size o.
    let a = c.args in
    let l = c.loop-x in
    let words = slot-at bs l.x o in
    carry-binds m a.p t (bound-on t.binds bs (binds-long m a.p t h c.requires) size l.x (omega arith))
    (unfold with_binding in
    c.set_bind.ensures m _ (get_or bs l.x empty) (l.invariant m t bs h size o) words)

pub returns : goal.returns
returns c = λ m t bs h size o.
    let a = c.args in
    let l = c.loop-x in
    carry-binds m a.p t (bound-whole t.binds bs (binds-long m a.p t h c.requires) size l.x (omega arith)) (l.invariant m t bs h size o)
