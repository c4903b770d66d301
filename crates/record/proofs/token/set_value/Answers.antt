-- `token::set_value` meets its contract: the row with the field's words is that of the token so changed. Assumes nothing.
use borrow.Author.Rules.{rules}
use Rattle.record.proofs.TokenRow.{value-put}
use Rattle.record.proofs.token.set_value.Goals as goal

pub returns : goal.returns
returns c = λ m t v h e f. value-put m t _ h (search rules) _ _ v e f
