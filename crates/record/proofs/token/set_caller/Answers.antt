-- `token::set_caller` meets its contract: the row with the field's words is that of the token so changed. Assumes nothing.
use borrow.Author.Rules.{rules}
use Rattle.record.proofs.TokenRow.{caller-put}
use Rattle.record.proofs.token.set_caller.Goals as goal

pub returns : goal.returns
returns c = λ m t q h e. caller-put m t _ h (search rules) _ q e
