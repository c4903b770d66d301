-- The first pairs of words, as many as the row says.
use Rattle.std.proofs.Common.{arith, rules, tests, refl, drop, length-drop, ℕ, ◌∙◌, get_or}
use Rattle.std.proofs.lemmas.Iterator.{YieldsList-from_slice, YieldsList-from_take}
use Rattle.std.proofs.lemmas.Iterator.Search.{all_from_yields_List}
use Rattle.model.specs.Machine.Blank.{token_at}
use Rattle.job.proofs.Rows.{cut-rows}
use Rattle.row_rules.proofs.NodeLaws.{pair_bound, params-bound}
use Rattle.row_rules.proofs.node.params_are_bound.Goals as goal

pub returns : goal.returns
returns c = λ m h.
    let row = c.args.row.now in
    let bs = (token_at m.tokens c.args.p).binds in
    let cut =
    cut-rows 2 4 _ (drop 4 row) _ _ c.as_chunks.ensures.front (omega arith) (omega (arith, length-drop {A = ℕ})) refl in
    all_from_yields_List (pair_bound bs) _ _ c.all.result c.all.ensures.ran
    (YieldsList-from_take (get_or row 3 0) (YieldsList-from_slice _ cc) cc) (λ x b q k. search (rules, tests, h))
    ∙ params-bound bs 4 (get_or row 3 0) (drop 4 row) (omega (arith, length-drop {A = ℕ}))
