-- `count::last_cell` meets its contract: the word that it reads is the count. Assumes nothing.
use Rattle.record.proofs.CountLaws.{last-cell-word}
use Rattle.record.proofs.count.last_cell.Goals as goal

pub returns : goal.returns
returns c = λ m h. last-cell-word h
