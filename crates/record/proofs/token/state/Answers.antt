-- `token::state` meets its contract: the word that it reads is the field's. Assumes nothing.
use borrow.Author.Rules.{rules}
use Rattle.record.proofs.TokenRow.{state-word}
use Rattle.record.proofs.token.state.Goals as goal

pub returns : goal.returns
returns c = λ m h. state-word h _ (search rules)
