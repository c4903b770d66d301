use Rattle.std.proofs.Common.{rules, tests, drop, take, true, ap, sym, ◌∙◌, ◌&&◌, get_or}
use Rattle.std.proofs.lemmas.Iterator.{YieldsList-from_slice}
use Rattle.std.proofs.lemmas.Iterator.Consumers.{fold_from_yields_List}
use Rattle.job.proofs.Loop.{all-folded}
use Rattle.job.proofs.Rows.{rows-taken}
use Rattle.dag_rules.specs.NodeWords.{row_holds}
use Rattle.dag_rules.proofs.DagLaws.{nodes-are}
use Rattle.dag_rules.proofs.dag.nodes_hold.Goals as goal

pub returns : goal.returns
returns c =
    let dag = c.args.dag.now in
    let test = row_holds (get_or dag 0 0) (get_or dag 1 0) in
    let few = rw (c.rows.ensures.rows, c.wide.ensures) at c.iter.ensures.rest in
    fold_from_yields_List _ (λ ok r. ok && test r) true c.fold.result c.fold.ensures.ran
    (YieldsList-from_slice _ (few ∙ rows-taken 12 1022 (get_or dag 0 0) (drop 67 dag) c.requires)) (λ ok x b q k. search (rules, tests))
    ∙ all-folded test _
    ∙ nodes-are dag c.told-dag c.requires
