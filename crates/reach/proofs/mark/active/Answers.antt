-- `mark::active` meets its contract: the state's number says whether the token is live, and then its cell decides. Assumes nothing.
use mathlib.Core.Path.{◌∙◌}
use borrow.Author.Rules.{rules}
use Rattle.reach.proofs.UnderSet.{not-blank, not-frame, by-cell}
use Rattle.reach.proofs.mark.active.Goals as goal

pub returns-then-s-eq-BLANK_STATE : goal.returns-then-s-eq-BLANK_STATE
returns-then-s-eq-BLANK_STATE c = λ m h. not-blank m.cells _ _ (c.state-s.ensures m h) (search rules)

pub returns-then-s-eq-FRAME_STATE : goal.returns-then-s-eq-FRAME_STATE
returns-then-s-eq-FRAME_STATE c = λ m h. not-frame m.cells _ _ (c.state-s.ensures m h) (search rules)

pub returns : goal.returns
returns c = λ m h.
    by-cell m.cells _ _ (c.state-s.ensures m h) _ _ (search rules) (search rules)
    (c.wide.ensures ∙ c.cell.ensures m h) (c.under_set.ensures m h)
