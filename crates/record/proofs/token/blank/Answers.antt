-- `token::blank` meets its contract: 24 words of 0 are the row of a blank token. Assumes nothing.
use native.Mathlib.Omega.{arith}
use borrow.Author.Rules.{rules}
use Rattle.record.proofs.TokenCopying.{blanked}
use Rattle.record.proofs.token.blank.Goals as goal

pub returns : goal.returns
returns c = λ m h. blanked h _ _ _ (search rules) (omega arith) (c.fill.ensures.after (λ y e. e))
