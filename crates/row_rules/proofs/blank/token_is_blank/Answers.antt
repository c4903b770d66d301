-- `blank::token_is_blank` meets its contract: the words of its place are all 0. Assumes nothing.
use Rattle.row_rules.proofs.BlankLaws.{zero-coded, zero-blank}
use mathlib.Core.Path.{sym, ◌∙◌}
use borrow.Author.Rules.{rules}
use Rattle.row_rules.proofs.blank.token_is_blank.Goals as goal

pub returns : goal.returns
returns c = let args = c.args in (
  λ e. zero-coded args.w.now args.p (search rules) (search rules) (sym c.all_zero.ensures ∙ e),
  λ m h. c.all_zero.ensures ∙ zero-blank args.w.now args.p (search rules) m h,
)
