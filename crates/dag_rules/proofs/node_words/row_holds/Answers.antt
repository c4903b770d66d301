-- The head and the parameters' words; no kind, no node.
use Rattle.std.proofs.Common.{ap, sym, ◌∙◌, drop, get_or}
use Rattle.job.specs.Test.{◌and◌}
use Rattle.job.proofs.Both.{both}
use Rattle.job.proofs.DagKinds.{kind-known, no-kind}
use Rattle.dag_rules.specs.NodeWords.{row_holds, head_holds, count_of, param_words_hold}
use Rattle.dag_rules.proofs.NodeWords.{head-past}
use Rattle.dag_rules.proofs.node_words.row_holds.Goals as goal

pub returns : goal.returns
unfolding row_holds
returns c =
    let k = kind-known _ _ (sym c.from_word.ensures ∙ c.in-Some.is) in
    both
    (rw k at c.head_holds-head.ensures)
    (c.params_hold.ensures ∙ ap (λ n. param_words_hold 4 n (drop 4 c.args.row.now)) (rw k at c.count_of.ensures))

pub returns-in_default : goal.returns-in_default
unfolding row_holds ◌and◌
returns-in_default c =
    sym (rw (head-past _ _ _ _ _ _ (no-kind _ (sym c.from_word.ensures ∙ c.in_default.is))))
