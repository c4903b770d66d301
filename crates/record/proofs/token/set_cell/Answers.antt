-- `token::set_cell` meets its contract: the row with the field's words is that of the token so changed. Assumes nothing.
use borrow.Author.Rules.{rules}
use Rattle.record.proofs.TokenRow.{cell-put}
use Rattle.record.proofs.token.set_cell.Goals as goal

pub returns : goal.returns
returns c = λ m t q h e. cell-put m t _ h (search rules) _ q e
