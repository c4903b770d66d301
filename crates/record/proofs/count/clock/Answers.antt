-- `count::clock` meets its contract: the word that it reads is the clock. Assumes nothing.
use Rattle.record.proofs.CountLaws.{clock-word}
use Rattle.record.proofs.count.clock.Goals as goal

pub returns : goal.returns
returns c = λ m h. clock-word h
