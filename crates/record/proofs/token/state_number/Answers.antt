-- `token::state_number` meets its contract: the word that it reads is the field's. Assumes nothing.
use borrow.Author.Rules.{rules}
use Rattle.record.proofs.TokenRow.{number_word}
use Rattle.record.proofs.token.state_number.Goals as goal

pub returns : goal.returns
returns c = λ m h. number_word h _ (search rules)
