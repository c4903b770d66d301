-- `names::left_out` meets its contract. The loop's invariant: the names, with the carried one among them, are those at the start and the
-- last word. Assumes nothing.
use mathlib.Core.Path.{refl}
use native.Mathlib.Omega.{arith}
use Rattle.orders.proofs.NamesPadded.{carries-next, carries-last}
use Rattle.orders.proofs.names.left_out.Goals as goal

pub loop-i-init : goal.loop-i-init
loop-i-init c = (omega arith, refl)

pub loop-i-preserved : goal.loop-i-preserved
loop-i-preserved c = let l = c.loop-i in
    let r = c.replace-carried.ensures in
    (omega arith, carries-next _ l.names _ l.i l.carried (omega arith) (omega arith) r.value r.after l.invariant.1)

pub returns : goal.returns
returns c = let l = c.loop-i in carries-last _ l.names _ l.i l.carried _ (omega arith) c.requires (omega arith) l.invariant.1
