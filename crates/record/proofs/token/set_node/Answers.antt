-- `token::set_node` meets its contract: the row with the field's words is that of the token so changed. Assumes nothing.
use borrow.Author.Rules.{rules}
use Rattle.record.proofs.TokenRow.{node-put}
use Rattle.record.proofs.token.set_node.Goals as goal

pub returns : goal.returns
returns c = λ m t h. node-put m t _ h (search rules) _
