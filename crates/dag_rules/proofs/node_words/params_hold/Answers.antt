-- After i turns the flag says whether the first i places pass.
use Rattle.std.proofs.Common.{◌≡◌, arith, refl, drop, length-drop, ℕ, ap, sym, ◌∙◌, get_or, [], ◌+◌, ◌*◌, ◌<◌, ltb, rules}
use Rattle.job.specs.Test.{◌and◌}
use Rattle.job.proofs.Rows.{cut-rows, row-word}
use Rattle.dag_rules.specs.NodeWords.{pair_holds}
use Rattle.dag_rules.proofs.NodeWords.{params-turn, params-done}
use Rattle.dag_rules.proofs.node_words.params_hold.Goals as goal

pub loop-i-init : goal.loop-i-init
unfolding ◌and◌
loop-i-init c = search rules

pub loop-i-preserved : goal.loop-i-preserved
loop-i-preserved c =
    let row = c.args.row.now in
    let i = c.loop-i.i in
    let inside : i < 4 = omega arith in
    let cut =
    cut-rows 2 4 _ (drop 4 row) _ _ c.as_chunks.ensures.front (omega arith) (omega (arith, length-drop {A = ℕ})) refl in
    let word : (j : ℕ) → j < 2 → get_or (get_or c.as_chunks.result.0.now i []) j 0 ≡ get_or (drop 4 row) (2 * i + j) 0 =
    λ j l. ap (λ rs. get_or (get_or rs i []) j 0) cut ∙ row-word 2 4 (drop 4 row) [] i j inside l in
    params-turn row c.told-row c.args.count i _ _ inside
    (word 0 (omega arith))
    (word 1 (omega arith))
    c.loop-i.invariant
    (rw c.wide.ensures at c.pair_holds-ok.ensures)

pub returns : goal.returns
returns c = params-done c.args.row.now c.told-row c.args.count c.loop-i.i (omega arith) c.loop-i.invariant
