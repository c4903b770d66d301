-- `cell::value_kind` meets its contract: the word that it reads is the field's. Assumes nothing.
use borrow.Author.Rules.{rules}
use Rattle.record.proofs.CellRow.{value-kind-word}
use Rattle.record.proofs.cell.value_kind.Goals as goal

pub returns : goal.returns
returns c = λ m h. value-kind-word h _ (search rules)
