-- `count::set_last_token` meets its contract: the counts with this word are those of the record so changed. Assumes nothing.
use Rattle.record.proofs.CountLaws.{last-token-put}
use Rattle.record.proofs.count.set_last_token.Goals as goal

pub returns : goal.returns
returns c = λ m h. last-token-put h _
