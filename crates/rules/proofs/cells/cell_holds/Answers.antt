-- `cells::cell_holds` meets its contract: a cell in use is tested for its rules, any other for being blank, and a blank one keeps them
-- all. Assumes nothing.
use mathlib.Core.Bool.{Bool, ◌&&◌}
use mathlib.Core.Path.{sym, ◌∙◌, ap}
use lib.Dec.{leb}
use Rattle.model.specs.Machine.Rules.{chain_ends}
use Rattle.model.specs.Machine.Blank.{cell_at, cell_is_blank}
use Rattle.record.specs.LayoutDecoded.{place_from}
use Rattle.rules.proofs.OneRow.{cell-blank, cell_in}
use Rattle.rules.proofs.RestBlank.{marked-one, other-one, first-true}
use Rattle.row_rules.proofs.RangeLaws.{place_in}
use Rattle.coded.proofs.IsRecordRows.{codes-cell}
use Rattle.job.proofs.Both.{both}
use Rattle.row_rules.specs.RowRules.{cell_rule}
use borrow.Author.Rules.{rules}
use Rattle.record.proofs.PlaceNumber.{place-back}
use Rattle.rules.proofs.cells.cell_holds.Goals as goal

pub returns-then-not-used : goal.returns-then-not-used
returns-then-not-used c = let args = c.args in
    let words = c.cell_coded.ensures in (
      λ e. sym words ∙ first-true c.cell_coded.result c.cell_is_blank.result e,
      λ m h.
          let k = cell_at m.cells args.c in
          ap (λ (b : Bool). b && c.cell_is_blank.result) (words ∙ codes-cell h.codes args.c (search rules))
          ∙ c.cell_is_blank.ensures m h.codes
          ∙ other-one {used = args.used} (cell_rule m.cells k) (cell_is_blank k) c.if-not-used.true
          (cell-blank m.cells k),
    )

pub returns : goal.returns
returns c = let args = c.args in
    let inside = leb c.parent-above.result 32 in
    let words = c.cell_coded-2.ensures in (
      λ e. sym words ∙ first-true c.cell_coded-2.result inside
          (first-true (c.cell_coded-2.result && inside) c.chain_ends.result e),
      λ m h.
          let k = cell_at m.cells args.c in
          let above = c.parent-above.ensures m h.codes in
          ap (λ (b : Bool). b && inside && c.chain_ends.result) (words ∙ codes-cell h.codes args.c (search rules))
          ∙ both (ap (λ n. leb n 32) above ∙ place_in 32 k.parent ∙ cell_in m.cells k (h.cells args.c))
          (c.chain_ends.ensures m h.codes ∙ ap (chain_ends m.cells 32) (ap place_from above ∙ place-back k.parent))
          ∙ marked-one {used = args.used} (cell_rule m.cells k) (cell_is_blank k) c.if-not-used.false,
    )
