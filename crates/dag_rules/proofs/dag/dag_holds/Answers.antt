-- The counts first, then the goal, the bodies and the nodes.
use Rattle.std.proofs.Common.{refl, sym, ◌∙◌}
use Rattle.job.proofs.Both.{three}
use Rattle.job.proofs.Test.{clash, leb-le, lt-not-leb, not-leb-lt}
use Rattle.dag_rules.proofs.DagLaws.{many-nodes, many-bodies, holds-by-parts}
use Rattle.dag_rules.proofs.dag.dag_holds.Goals.{then-dag-le-NODE_LIMIT, else-dag-le-NODE_LIMIT}
use Rattle.dag_rules.proofs.dag.dag_holds.Goals as goal

pub returns-then-dag-le-DEFINITION_LIMIT : goal.returns-then-dag-le-DEFINITION_LIMIT
returns-then-dag-le-DEFINITION_LIMIT c =
    let yes = c.if-dag-le-DEFINITION_LIMIT.true in
    elim c.if-dag-le-NODE_LIMIT.branch [
      | then-dag-le-NODE_LIMIT w ↦
          three refl c.bodies_hold.ensures c.nodes_hold.ensures
          ∙ sym (holds-by-parts _ w.if-dag-le-NODE_LIMIT.true (leb-le _ _ (sym w.value-is ∙ yes)))
      | else-dag-le-NODE_LIMIT w ↦ clash yes (w.value-is ∙ lt-not-leb _ _ w.if-dag-le-NODE_LIMIT.false)
    ]

pub returns-else-dag-le-DEFINITION_LIMIT : goal.returns-else-dag-le-DEFINITION_LIMIT
returns-else-dag-le-DEFINITION_LIMIT c =
    let no = c.if-dag-le-DEFINITION_LIMIT.false in
    no ∙ elim c.if-dag-le-NODE_LIMIT.branch [
      | then-dag-le-NODE_LIMIT w ↦ many-bodies _ w.if-dag-le-NODE_LIMIT.true (not-leb-lt _ _ (sym w.value-is ∙ no))
      | else-dag-le-NODE_LIMIT w ↦ many-nodes _ w.if-dag-le-NODE_LIMIT.false
    ]
