-- `cell::parent` meets its contract: the word that it reads is the field's. Assumes nothing.
use borrow.Author.Rules.{rules}
use Rattle.record.proofs.CellRow.{parent-word}
use Rattle.record.proofs.cell.parent.Goals as goal

pub returns : goal.returns
returns c = λ m h. parent-word h _ (search rules)
