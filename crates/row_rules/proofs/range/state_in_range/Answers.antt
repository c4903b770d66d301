-- `range::state_in_range` meets its contract: kind by kind. Assumes nothing.
use Rattle.row_rules.proofs.RangeLaws.{waits_in, called-in, due_in, other-in}
use borrow.Author.Rules.{rules}
use Rattle.row_rules.proofs.range.state_in_range.Goals as goal

pub returns-in-2 : goal.returns-in-2
returns-in-2 c = λ s e f. waits_in _ _ _ _ s e f c.in-2.is

pub returns-in-3 : goal.returns-in-3
returns-in-3 c = λ s e f. called-in _ _ _ _ s e f c.in-3.is

pub returns-in-4 : goal.returns-in-4
returns-in-4 c = λ s e f. due_in _ _ _ _ s e f c.in-4.is

pub returns-in_default : goal.returns-in_default
returns-in_default c = λ s e f. other-in _ _ _ _ s e f (search rules) (search rules) (search rules)
