-- The next 128 words are 32 rows of 4.
use Rattle.std.proofs.Common.{arith, refl, drop, length-drop, ℕ}
use Rattle.job.proofs.Rows.{cut-rows}
use Rattle.coded.proofs.word_tests.cells.Goals as goal

pub returns : goal.returns
returns c = record {
  rows = cut-rows 4 32 _ (drop 1536 c.args.w.now) _ _ c.as_chunks.ensures.front (omega arith) (omega (arith, length-drop {A = ℕ})) refl;
  count = omega arith;
}
