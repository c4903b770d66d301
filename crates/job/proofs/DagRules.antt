-- What the index rules of a dag say, as facts: each conjunct of the test by its name, and a node or a body at its index. Assumes nothing.
use mathlib.Core.Path.{◌≡◌}
use mathlib.Core.Bool.{true}
use Prim.Native.Nat.{ℕ, ◌≤◌, ◌<◌}
use lib.ListN.{length}
use lib.Dec.{leb}
use Rattle.job.specs.Test.{◌and◌, for_all}
use Rattle.job.specs.Node.{Node, Dag, node_at, body_at, is_node, node_holds, body_holds, dag_holds}
use Rattle.job.proofs.Test.{lt-ltb, ltb-lt, le-leb, leb-le, and_left, and_right, and_both, all-at}

pub record DagRules (d : Dag) : Type 0 where
  pub nodes-few : length d.nodes ≤ 1022
  pub bodies-few : length d.bodies ≤ 32
  pub goal : d.goal < length d.nodes
  pub bodies : for_all (body_holds d) d.bodies ≡ true
  pub nodes : for_all (node_holds d) d.nodes ≡ true

pub dag-rules : (d : Dag) → dag_holds d ≡ true → DagRules d
unfolding dag_holds is_node
dag-rules d e =
    let ns = leb (length d.nodes) 1022 in
    let bs = leb (length d.bodies) 32 in
    let g = is_node d d.goal in
    let bodies = for_all (body_holds d) d.bodies in
    let nodes = for_all (node_holds d) d.nodes in
    let e₁ = and_right ns (bs and g and bodies and nodes) e in
    let e₂ = and_right bs (g and bodies and nodes) e₁ in
    let e₃ = and_right g (bodies and nodes) e₂ in
    record {
      nodes-few = leb-le (length d.nodes) 1022 (and_left ns (bs and g and bodies and nodes) e);
      bodies-few = leb-le (length d.bodies) 32 (and_left bs (g and bodies and nodes) e₁);
      goal = ltb-lt d.goal (length d.nodes) (and_left g (bodies and nodes) e₂);
      bodies = and_left bodies nodes e₃;
      nodes = and_right bodies nodes e₃;
    }

pub rules-dag : (d : Dag) → DagRules d → dag_holds d ≡ true
unfolding dag_holds is_node
rules-dag d r =
    and_both (le-leb (length d.nodes) 1022 r.nodes-few)
    (and_both (le-leb (length d.bodies) 32 r.bodies-few)
    (and_both (lt-ltb d.goal (length d.nodes) r.goal) (and_both r.bodies r.nodes)))

pub node-rules : (d : Dag) (i : ℕ) → dag_holds d ≡ true → i < length d.nodes → node_holds d (node_at d i) ≡ true
unfolding node_at
node-rules d i e l = all-at (node_holds d) d.nodes i Node.unknown (dag-rules d e).nodes l

pub body-rules : (d : Dag) (i : ℕ) → dag_holds d ≡ true → i < length d.bodies → body_holds d (body_at d i) ≡ true
unfolding body_at
body-rules d i e l = all-at (body_holds d) d.bodies i (record { root = 0; formals = 0 }) (dag-rules d e).bodies l
