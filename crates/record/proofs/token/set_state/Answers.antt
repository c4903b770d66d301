-- `token::set_state` meets its contract: the row with the field's words is that of the token so changed. Assumes nothing.
use borrow.Author.Rules.{rules}
use Rattle.record.proofs.TokenRow.{state-put}
use Rattle.record.proofs.token.set_state.Goals as goal

pub returns : goal.returns
returns c = λ m t s h e f. state-put m t _ h (search rules) _ _ s e f
