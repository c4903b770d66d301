-- The row is that of the token's node.
use Rattle.std.proofs.Common.{◌∙◌, ap, arith, drop, take, ◌*◌}
use lib.Seq.{drop-drop}
use Rattle.job.proofs.Rows.{row-at}
use Rattle.job.proofs.Test.{eq-eqb}
use Rattle.job.specs.Words.{node_by}
use Rattle.model.specs.Machine.Blank.{token_at}
use Rattle.model.specs.Machine.Rules.{node_rule}
use Rattle.row_rules.proofs.NodeLaws.{nodes-few, at_none, at_row}
use Rattle.row_rules.proofs.node.at_node.Goals as goal

pub bounds-rows-node : goal.bounds-rows-node
bounds-rows-node c = omega (arith, c.rows.ensures.count, nodes-few c.args.dag.now c.told-dag c.requires.1)

pub returns-then-state-eq-BLANK_STATE : goal.returns-then-state-eq-BLANK_STATE
returns-then-state-eq-BLANK_STATE c = λ m h e.
    eq-eqb _ 0 c.if-state-eq-BLANK_STATE.true
    ∙ at_none c.args.dag.now c.told-dag c.requires.1 m.tokens _ (c.state.ensures m h) c.if-state-eq-BLANK_STATE.true

pub returns-else-state-eq-BLANK_STATE : goal.returns-else-state-eq-BLANK_STATE
returns-else-state-eq-BLANK_STATE c = λ m h e.
    let dag = c.args.dag.now in
    let t = token_at m.tokens c.args.p in
    c.node_rule.ensures m h
    ∙ ap (λ xs. node_rule m.tokens t (node_by xs))
    (rw c.rows.ensures.rows
    (row-at 12 1022 (drop 67 dag) _ c.args.node (omega (arith, nodes-few dag c.told-dag c.requires.1)) ∙ ap (take 12) (drop-drop (12 * c.args.node) 67 dag)))
    ∙ at_row dag c.told-dag c.requires.1 m.tokens t e (c.state.ensures m h) c.if-state-eq-BLANK_STATE.false c.requires.2
