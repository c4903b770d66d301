-- `count::set_last_cell` meets its contract: the counts with this word are those of the record so changed. Assumes nothing.
use Rattle.record.proofs.CountLaws.{last-cell-put}
use Rattle.record.proofs.count.set_last_cell.Goals as goal

pub returns : goal.returns
returns c = λ m h. last-cell-put h _
