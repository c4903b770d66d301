-- `token::node` meets its contract: the word that it reads is the field's. Assumes nothing.
use borrow.Author.Rules.{rules}
use Rattle.record.proofs.TokenRow.{node-word}
use Rattle.record.proofs.token.node.Goals as goal

pub returns : goal.returns
returns c = λ m h. node-word h _ (search rules)
