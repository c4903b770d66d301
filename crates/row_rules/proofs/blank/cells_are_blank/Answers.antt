-- `blank::cells_are_blank` meets its contract: the words of these cells are all 0. Assumes nothing.
use Rattle.row_rules.proofs.BlankLaws.{cells-coded, cells-blank}
use mathlib.Core.Path.{sym, ◌∙◌}
use borrow.Author.Rules.{rules}
use Rattle.row_rules.proofs.blank.cells_are_blank.Goals as goal

pub returns : goal.returns
returns c = let args = c.args in (
  λ e. cells-coded args.w.now args.from (search rules) (search rules) (sym c.all_zero.ensures ∙ e),
  λ m h. c.all_zero.ensures ∙ cells-blank args.w.now args.from (search rules) m h,
)
