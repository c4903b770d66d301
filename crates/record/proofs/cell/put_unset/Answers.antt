-- `cell::put_unset` meets its contract: the row with these words is that of the cell so changed. Assumes nothing.
use borrow.Author.Rules.{rules}
use Rattle.record.proofs.CellRow.{unset-put}
use Rattle.record.proofs.cell.put_unset.Goals as goal

pub returns : goal.returns
returns c = λ m q h e. unset-put h _ (search rules) _ q e
