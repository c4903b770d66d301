use Rattle.std.proofs.Common.{arith, refl, drop, length-drop, ℕ}
use Rattle.job.proofs.Rows.{cut-rows}
use Rattle.job.proofs.dag.rows.Goals as goal

pub returns : goal.returns
returns c = record {
  rows = cut-rows 12 1022 _ (drop 67 c.args.dag.now) _ _ c.as_chunks.ensures.front (omega arith) (omega (arith, length-drop {A = ℕ})) refl;
  count = omega (arith, length-drop {A = ℕ});
}
