-- `mark::bound` meets its contract, by the kind of the binding. Assumes nothing.
use mathlib.Core.Path.{◌∙◌}
use borrow.Author.Rules.{rules}
use Rattle.record.proofs.SlotWords.{kind-of, number-of}
use Rattle.reach.proofs.UsedMarking.{bound-none, bound-cell}
use Rattle.reach.proofs.mark.bound.Goals as goal

pub returns-then-slot-ne-CELL_SLOT : goal.returns-then-slot-ne-CELL_SLOT
returns-then-slot-ne-CELL_SLOT c = λ m h. bound-none _ _ _ (kind-of (c.bind-slot.ensures m h)) (search rules)

pub returns : goal.returns
returns c = λ m h.
    bound-cell _ _ _ (kind-of (c.bind-slot.ensures m h)) _ (search rules)
    (c.wide.ensures ∙ number-of (c.bind-slot.ensures m h))
