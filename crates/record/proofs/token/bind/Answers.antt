-- `token::bind` meets its contract: the words that it reads are the slot's. Assumes nothing.
use borrow.Author.Rules.{rules}
use Rattle.record.proofs.SlotWords.{both-of}
use Rattle.record.proofs.TokenRow.{bind-kind-word, bind-number-word}
use Rattle.record.proofs.token.bind.Goals as goal

pub returns : goal.returns
returns c = λ m h.
    both-of _ (bind-kind-word h _ (search rules) _ (search rules)) (bind-number-word h _ (search rules) _ (search rules))
