-- The ready names of the queue, then those of the wait order, are the ready names of both in order. A filter of two lists, one behind the
-- other, is the filter of each. Assumes nothing.
use mathlib.Core.Bool.{Bool}
use mathlib.Core.List.{List}
use mathlib.Core.Path.{◌≡◌, refl, subst}
use Rattle.record.specs.Holds.{Holds}
use Rattle.pruning.proofs.ChokeLaws.{first, second, first-room, reorder-is}
use Rattle.pruning.proofs.choke.reorder.Goals as goal

-- the marks that an equation is about

abbrev marks : {u v : List Bool} → u ≡ v → List Bool
marks {u} e = u

pub returns : goal.returns
returns c = λ m h blank l.
    let ready = c.mark_state.ensures m h.codes blank refl in
    let waiting = c.mark_state-2.ensures m h.codes blank refl in
    let one = c.retain.ensures m h in
    let two = c.wake.ensures (first m (marks ready)) one (first-room h (marks ready) l) in
    subst (Holds _) (reorder-is m _ _ ready waiting) (c.retain-2.ensures (second m (marks ready)) two)
