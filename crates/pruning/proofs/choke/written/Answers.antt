-- The five changes one after the other are the definition's choke. Each writer leaves what the next one is asked for. Assumes nothing.
use mathlib.Core.Path.{subst}
use Rattle.model.specs.Machine.Update.{with_tables, with_orders}
use Rattle.record.specs.Holds.{Holds}
use Rattle.record.specs.Changes.{dequeued}
use Rattle.pruning.proofs.ChokeLaws.{taken-room, rows-blank, choke-is}
use Rattle.pruning.specs.Choke.{rows_choked}
use Rattle.pruning.proofs.choke.written.Goals as goal

pub returns : goal.returns
unfolding with_tables with_orders
returns c = λ m v h blank f ek en.
    let a = c.args in
    let one = c.leave.ensures m h f.queued in
    let two = c.choke_rows.ensures (dequeued m a.place) one blank in
    let three = c.set_value.ensures (rows_choked a.c 64 (dequeued m a.place)) v two ek en in
    let rest = rows-blank a.c (dequeued m a.place) h.codes.shaped.tokens _ blank in
    let four = c.reorder.ensures _ three rest (taken-room m h a.place a.c f) in
    subst (Holds _) (choke-is m h a.place a.c f v) (c.retain_due.ensures _ four rest)
