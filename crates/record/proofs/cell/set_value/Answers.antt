-- `cell::set_value` meets its contract: the row with these words is that of the cell so changed. Assumes nothing.
use borrow.Author.Rules.{rules}
use Rattle.record.proofs.CellRow.{set-put}
use Rattle.record.proofs.cell.set_value.Goals as goal

pub returns : goal.returns
returns c = λ m v h e f. set-put h _ (search rules) _ _ v e f
