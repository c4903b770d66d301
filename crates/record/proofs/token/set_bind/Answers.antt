-- `token::set_bind` meets its contract: the row with the slot's words is that of the token so changed. Assumes nothing.
use borrow.Author.Rules.{rules}
use Rattle.record.proofs.SlotWords.{kind-of, number-of}
use Rattle.record.proofs.TokenRow.{bind-put}
use Rattle.record.proofs.token.set_bind.Goals as goal

pub returns : goal.returns
returns c = λ m t s h e. bind-put m t _ h (search rules) _ _ _ s (search rules) (kind-of e) (number-of e)
