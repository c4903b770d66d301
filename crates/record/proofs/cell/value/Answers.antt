-- `cell::value` meets its contract: the word that it reads is the field's. Assumes nothing.
use borrow.Author.Rules.{rules}
use Rattle.record.proofs.CellRow.{value-word}
use Rattle.record.proofs.cell.value.Goals as goal

pub returns : goal.returns
returns c = λ m h. value-word h _ (search rules)
