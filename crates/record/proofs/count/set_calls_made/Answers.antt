-- `count::set_calls_made` meets its contract: the counts with this word are those of the record so changed. Assumes nothing.
use Rattle.record.proofs.CountLaws.{calls-put}
use Rattle.record.proofs.count.set_calls_made.Goals as goal

pub returns : goal.returns
returns c = λ m h. calls-put h _
