-- `token::cell` meets its contract: the word that it reads is the field's. Assumes nothing.
use borrow.Author.Rules.{rules}
use Rattle.record.proofs.TokenRow.{cell-word}
use Rattle.record.proofs.token.cell.Goals as goal

pub returns : goal.returns
returns c = λ m h. cell-word h _ (search rules)
