-- `count::set_clock` meets its contract: the words with this one are those of the record so changed. Assumes nothing.
use Rattle.record.proofs.CountLaws.{clock-put}
use Rattle.record.proofs.count.set_clock.Goals as goal

pub returns : goal.returns
returns c = λ m h. clock-put h _
