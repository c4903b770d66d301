use Rattle.std.proofs.Common.{ap, drop, ◌∙◌}
use Rattle.coded.specs.WordTests.{cell_coded}
use Rattle.job.proofs.Rows.{row-at}
use Rattle.coded.proofs.IsRecordRows.{cell_row}
use Rattle.coded.proofs.word_tests.cell_coded.Goals as goal

pub returns : goal.returns
returns c =
    c.cell_row_coded.ensures
    ∙ ap cell_coded (rw c.cells.ensures.rows (row-at 4 32 (drop 1536 c.args.w.now) _ c.args.c c.requires) ∙ cell_row c.args.w.now c.args.c)
