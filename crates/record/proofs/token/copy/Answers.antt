-- `token::copy` meets its contract: the words copied are the row of a token. Assumes nothing.
use native.Mathlib.Omega.{arith}
use borrow.Author.Rules.{rules}
use Rattle.record.proofs.TokenCopying.{copied}
use Rattle.record.proofs.token.copy.Goals as goal

pub returns : goal.returns
returns c = λ m h. copied h _ _ _ _ (search rules) (search rules) (omega arith) c.copy_within.ensures.after
