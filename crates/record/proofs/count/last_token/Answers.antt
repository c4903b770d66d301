-- `count::last_token` meets its contract: the word that it reads is the count. Assumes nothing.
use Rattle.record.proofs.CountLaws.{last-token-word}
use Rattle.record.proofs.count.last_token.Goals as goal

pub returns : goal.returns
returns c = λ m h. last-token-word h
