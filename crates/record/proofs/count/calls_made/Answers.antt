-- `count::calls_made` meets its contract: the word that it reads is the count. Assumes nothing.
use Rattle.record.proofs.CountLaws.{calls-word}
use Rattle.record.proofs.count.calls_made.Goals as goal

pub returns : goal.returns
returns c = λ m h. calls-word h
