-- `cells::cells_hold` meets its contract: after i turns the flag says whether the first i cells pass, and no cell from the end on is in
-- use. Assumes nothing.
use mathlib.Core.Path.{◌≡◌, sym, ◌∙◌, ap}
use native.Mathlib.Omega.{arith}
use Rattle.model.specs.Machine.Blank.{blank_cell, cell_at, cell_is_blank}
use Rattle.job.proofs.Lists.{before-and-behind}
use Rattle.rules.proofs.OneRow.{cell-blank}
use Rattle.rules.proofs.RestBlank.{passed, pass-turn, pass-rest, first-true, second-true}
use Rattle.row_rules.specs.RowRules.{cell_rule}
use borrow.Author.Count.{below_more}
use borrow.Author.Rules.{rules}
use Rattle.rules.proofs.cells.cells_hold.Goals as goal

pub loop-i-init : goal.loop-i-init
unfolding Rattle.job.specs.Test.for_all Rattle.model.specs.Machine.Rules.rest_is_blank Rattle.job.specs.Test.◌and◌
loop-i-init c = (λ e k l. absurd (omega arith), λ m h l. search rules)

pub loop-i-preserved : goal.loop-i-preserved
unfolding cell_at
loop-i-preserved c = let now = c.loop-i in (
  λ e. below_more _ _ (now.invariant.0 (first-true now.ok c.cell_holds-ok.result e))
      (c.cell_holds-ok.ensures.0 (second-true now.ok c.cell_holds-ok.result e)),
  λ m h l.
      pass-turn (cell_rule m.cells) cell_is_blank c.args.used.now m.cells now.i blank_cell (omega arith)
      (omega (arith, h.codes.shaped.cells))
      (now.invariant.1 m h l) (c.cell_holds-ok.ensures.1 m h),
)

pub returns : goal.returns
unfolding cell_at
returns c = let args = c.args in
    let last = c.loop-i in
    let end = c.few_or_all-end in
    let blank = c.cells_are_blank in
    let e : last.i ≡ end.result = omega arith in (
      λ f.
          before-and-behind last.i 32 (last.invariant.0 (first-true last.ok blank.result f))
          (λ k l. blank.ensures.0 (second-true last.ok blank.result f) k (omega arith)),
      λ m h l.
          pass-rest (cell_rule m.cells) cell_is_blank args.used.now m.cells blank_cell end.result
          (l ∙ sym h.codes.shaped.cells) (omega (arith, h.codes.shaped.cells))
          (λ i f b. end.ensures.upper_bound.1 i f (omega (arith, h.codes.shaped.cells)))
          (λ i. cell-blank m.cells (cell_at m.cells i))
          (last.invariant.1 m h l ∙ ap (passed (cell_rule m.cells) cell_is_blank args.used.now m.cells) e)
          (blank.ensures.1 m h.codes),
    )
