-- The first 1,536 words are 64 rows of 24.
use Rattle.std.proofs.Common.{arith, refl}
use Rattle.job.proofs.Rows.{cut-rows}
use Rattle.coded.proofs.word_tests.tokens.Goals as goal

pub returns : goal.returns
returns c = record {
  rows = cut-rows 24 64 _ c.args.w.now _ _ c.as_chunks.ensures.front (omega arith) (omega arith) refl;
  count = omega arith;
}
