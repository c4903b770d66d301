use Rattle.std.proofs.Common.{ap, ◌∙◌}
use Rattle.coded.specs.WordTests.{row_coded}
use Rattle.job.proofs.Rows.{row-at}
use Rattle.coded.proofs.word_tests.token_coded.Goals as goal

pub returns : goal.returns
returns c =
    c.row_coded.ensures ∙ ap row_coded (rw c.tokens.ensures.rows (row-at 24 64 c.args.w.now _ c.args.p c.requires))
