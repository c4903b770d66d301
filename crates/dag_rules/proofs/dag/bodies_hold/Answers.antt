use Rattle.std.proofs.Common.{arith, rules, tests, refl, drop, length-drop, take, ℕ, true, ap, sym, ◌∙◌, ◌&&◌, get_or}
use Rattle.std.proofs.lemmas.Iterator.{YieldsList-from_slice}
use Rattle.std.proofs.lemmas.Iterator.Consumers.{fold_from_yields_List}
use Rattle.job.specs.Test.{for_all}
use Rattle.job.proofs.Loop.{all-folded}
use Rattle.job.proofs.Rows.{cut-rows, rows-taken}
use Rattle.dag_rules.specs.NodeWords.{root_in_dag}
use Rattle.dag_rules.proofs.DagLaws.{bodies-are}
use Rattle.dag_rules.proofs.dag.bodies_hold.Goals as goal

pub returns : goal.returns
returns c =
    let dag = c.args.dag.now in
    let test = root_in_dag (get_or dag 0 0) in
    let cut =
    cut-rows 2 32 _ (drop 3 dag) _ _ c.as_chunks.ensures.front (omega arith) (omega (arith, length-drop {A = ℕ})) refl in
    let few = rw (cut, c.wide.ensures) at c.iter.ensures.rest in
    fold_from_yields_List _ (λ ok r. ok && test r) true c.fold.result c.fold.ensures.ran
    (YieldsList-from_slice _ (few ∙ rows-taken 2 32 (get_or dag 1 0) (drop 3 dag) c.requires)) (λ ok x b q k. search (rules, tests))
    ∙ all-folded test _
    ∙ bodies-are dag
