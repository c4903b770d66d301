-- What the array's words say of its nodes and bodies, one by one: the row of node i begins at word 67 + 12 * i, and the words of
-- body i at 3 + 2 * i, since each node or body takes the words behind the one before it. Assumes nothing.
use mathlib.Core.Path.{◌≡◌, refl, sym, ◌∙◌, ap, ap₂}
use mathlib.Core.Bool.{true, false}
use mathlib.Core.List.{List, ◌∷◌}
use Prim.Native.Nat.{ℕ, zero, suc, ◌+◌, ◌-◌, ◌*◌, ◌<◌, ◌≤◌}
use native.Mathlib.Omega.{arith}
use lib.ListN.{length, get_or, take, drop, length-drop}
use lib.Seq.{drop-drop, get_or-drop, length-take-le}
use lib.Dec.{ltb, leb}
use Rattle.job.specs.Test.{◌and◌, for_all}
use Rattle.job.specs.Node.{Node, Body, Dag, node_at, node_holds, body_holds, is_node, dag_holds}
use Rattle.job.specs.Words.{node_by, decoded_node, nodes_from, bodies_from, dag_of}
use Rattle.job.specs.Rows.{words_in_rows}
use Rattle.job.proofs.Lists.{part_at}
use Rattle.job.proofs.Test.{le-leb, lt-not-leb, and_right, all-at}
use Rattle.dag_rules.specs.NodeWords.{row_holds, root_in_dag}
use Rattle.dag_rules.proofs.NodeWords.{node_row, row-node}
use Rattle.job.proofs.Words.{length-nodes_from, length-bodies_from, node-from, body-from}

-- rows and pairs of words, one after the other
nodes-rows : (d : Dag) (n : ℕ) (ws : List ℕ) → 12 * n ≤ length ws
    → for_all (row_holds (length d.nodes) (length d.bodies)) (words_in_rows 12 n ws) ≡ for_all (node_holds d) (nodes_from n ws)
unfolding for_all words_in_rows nodes_from
nodes-rows d zero ws l = refl
nodes-rows d (suc n) ws l =
    ap₂ ◌and◌ (sym (node_row (take 12 ws) (length-take-le 12 ws (omega arith)) d))
    (nodes-rows d n (drop 12 ws) (omega (arith, length-drop 12 ws)))

bodies-rows : (d : Dag) (n : ℕ) (ws : List ℕ)
    → for_all (root_in_dag (length d.nodes)) (words_in_rows 2 n ws) ≡ for_all (body_holds d) (bodies_from n ws)
unfolding for_all words_in_rows bodies_from body_holds is_node
bodies-rows d zero ws = refl
bodies-rows d (suc n) ws =
    ap₂ ◌and◌ (ap₂ (λ r f. ltb r (length d.nodes) and leb f 4) (part_at ws 0 2 0 0 (omega arith)) (part_at ws 0 2 1 0 (omega arith)))
    (bodies-rows d n (drop 2 ws))

module _ (ws : List ℕ) where
  pub nodes-length : length (dag_of ws).nodes ≡ get_or ws 0 0
  unfolding dag_of
  nodes-length = length-nodes_from (get_or ws 0 0) (drop 67 ws)

  pub bodies-length : length (dag_of ws).bodies ≡ get_or ws 1 0
  unfolding dag_of
  bodies-length = length-bodies_from (get_or ws 1 0) (drop 3 ws)

  goal-is : (dag_of ws).goal ≡ get_or ws 2 0
  unfolding dag_of
  goal-is = refl

  pub node-row-at : (i : ℕ) → i < get_or ws 0 0 → get_or (dag_of ws).nodes i Node.unknown ≡ decoded_node (take 12 (drop (67 + 12 * i) ws))
  unfolding dag_of
  node-row-at i l = node-from (get_or ws 0 0) i (drop 67 ws) l ∙ ap (λ xs. decoded_node (take 12 xs)) (drop-drop (12 * i) 67 ws)

  -- all of them, each with the counts of the dag
  pub nodes-are : length ws ≡ 12331 → get_or ws 0 0 ≤ 1022
      → for_all (row_holds (get_or ws 0 0) (get_or ws 1 0)) (words_in_rows 12 (get_or ws 0 0) (drop 67 ws))
      ≡ for_all (node_holds (dag_of ws)) (dag_of ws).nodes
  unfolding dag_of
  nodes-are e f =
      ap₂ (λ n b. for_all (row_holds n b) (words_in_rows 12 (get_or ws 0 0) (drop 67 ws))) (sym nodes-length) (sym bodies-length)
      ∙ nodes-rows (dag_of ws) (get_or ws 0 0) (drop 67 ws) (omega (arith, length-drop 67 ws))

  pub bodies-are : for_all (root_in_dag (get_or ws 0 0)) (words_in_rows 2 (get_or ws 1 0) (drop 3 ws))
      ≡ for_all (body_holds (dag_of ws)) (dag_of ws).bodies
  unfolding dag_of
  bodies-are =
      ap (λ n. for_all (root_in_dag n) (words_in_rows 2 (get_or ws 1 0) (drop 3 ws))) (sym nodes-length)
      ∙ bodies-rows (dag_of ws) (get_or ws 1 0) (drop 3 ws)

  -- the whole dag, by its counts
  pub many-nodes : 1022 < get_or ws 0 0 → false ≡ dag_holds (dag_of ws)
  unfolding dag_holds ◌and◌
  many-nodes l = rw (nodes-length, lt-not-leb (get_or ws 0 0) 1022 l)

  pub many-bodies : get_or ws 0 0 ≤ 1022 → 32 < get_or ws 1 0 → false ≡ dag_holds (dag_of ws)
  unfolding dag_holds ◌and◌
  many-bodies m l = rw (nodes-length, bodies-length, le-leb (get_or ws 0 0) 1022 m, lt-not-leb (get_or ws 1 0) 32 l)

  pub holds-by-parts : get_or ws 0 0 ≤ 1022 → get_or ws 1 0 ≤ 32
      → dag_holds (dag_of ws)
      ≡ (ltb (get_or ws 2 0) (get_or ws 0 0) and for_all (body_holds (dag_of ws)) (dag_of ws).bodies and for_all (node_holds (dag_of ws))
      (dag_of ws).nodes)
  unfolding dag_holds is_node ◌and◌
  holds-by-parts m l =
      rw (nodes-length, bodies-length, le-leb (get_or ws 0 0) 1022 m, le-leb (get_or ws 1 0) 32 l)
      (ap (λ g. ltb g (get_or ws 0 0) and for_all (body_holds (dag_of ws)) (dag_of ws).bodies and for_all (node_holds (dag_of ws))
      (dag_of ws).nodes)
      goal-is)

  -- in a dag whose rules hold the node is the one that the row would be by its kind
  pub node-by-kind : dag_holds (dag_of ws) ≡ true → (i : ℕ) → i < get_or ws 0 0 → node_at (dag_of ws) i ≡ node_by (take 12 (drop (67 + 12
      * i) ws))
  unfolding dag_holds node_at
  node-by-kind e i l =
      let row = take 12 (drop (67 + 12 * i) ws) in
      let d = dag_of ws in
      let first = and_right (leb (length d.nodes) 1022) _ e in
      let second = and_right (leb (length d.bodies) 32) _ first in
      let third = and_right (is_node d d.goal) _ second in
      let holds : for_all (node_holds d) d.nodes ≡ true = and_right (for_all (body_holds d) d.bodies) _ third in
      let here : node_holds d (decoded_node row) ≡ true =
      ap (node_holds d) (sym (node-row-at i l)) ∙ all-at (node_holds d) d.nodes i Node.unknown holds (omega (arith, nodes-length)) in
      node-row-at i l ∙ row-node d row here
