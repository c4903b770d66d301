-- `token::caller` meets its contract: the word that it reads is the field's. Assumes nothing.
use borrow.Author.Rules.{rules}
use Rattle.record.proofs.TokenRow.{caller-word}
use Rattle.record.proofs.token.caller.Goals as goal

pub returns : goal.returns
returns c = λ m h. caller-word h _ (search rules)
