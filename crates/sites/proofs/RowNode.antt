-- Reading a node: for a dag whose rules hold the node at an index is the one that its row's words are by their kind, because a row of other
-- words would be no node, which the rules refuse. Assumes nothing.
use mathlib.Core.Path.{◌≡◌, refl, ap, ap₂, subst, ◌∙◌}
use mathlib.Core.Bool.{Bool, true, false}
use mathlib.Core.List.{List}
use Prim.Native.Nat.{ℕ, ◌+◌, ◌*◌, ◌<◌, ◌≤◌}
use native.Mathlib.Omega.{arith}
use lib.ListN.{length, get_or, take, drop}
use lib.Seq.{drop-drop, get_or-drop}
use Rattle.job.specs.Test.{same}
use Rattle.job.specs.Node.{Node, Body, Dag, node_at, body_at, node_holds, body_holds, is_node, dag_holds}
use Rattle.job.specs.Words.{head_words, params_from, node_words, node_by, decoded_node, nodes_from, bodies_from, dag_of}
use Rattle.job.proofs.Test.{clash, and_left, ltb-lt, same-eq}
use Rattle.job.proofs.DagRules.{dag-rules, node-rules, body-rules}
use Rattle.sites.specs.Row.{row_of, row_at, params_at, node_of_kind, node_in}
use Rattle.sites.proofs.LookParams.{row_word}
use Rattle.job.proofs.Words.{length-nodes_from, length-bodies_from, node-from, body-from}

holds-by-kind : (d : Dag) (row : List ℕ) → node_holds d (decoded_node row) ≡ true → decoded_node row ≡ node_by row
unfolding decoded_node node_holds
holds-by-kind d row e = go (same row (node_words (node_by row))) e
  where
    go :
        (b : Bool)
        → node_holds d (elim b [ true ↦ node_by row | false ↦ Node.unknown ]) ≡ true
        → elim b as (λ b. Node) [ true ↦ node_by row | false ↦ Node.unknown ] ≡ node_by row
    go true k = refl
    go false k = clash k refl

holds-words : (d : Dag) (row : List ℕ) → node_holds d (decoded_node row) ≡ true → row ≡ node_words (node_by row)
unfolding decoded_node node_holds
holds-words d row e = go (same row (node_words (node_by row))) refl e
  where
    go : (b : Bool) → same row (node_words (node_by row)) ≡ b → node_holds d (elim b [ true ↦ node_by row | false ↦ Node.unknown ]) ≡ true
        → row ≡ node_words (node_by row)
    go true s k = same-eq row (node_words (node_by row)) s
    go false s k = clash k refl

module _ (ws : List ℕ) (i : ℕ) (k : dag_holds (dag_of ws) ≡ true) (l : i < length (dag_of ws).nodes) where
  pub node-inside : i < 1022
  node-inside = let f : length (dag_of ws).nodes ≤ 1022 = (dag-rules (dag_of ws) k).nodes-few in omega arith

  read_of : node_at (dag_of ws) i ≡ decoded_node (row_at ws (row_of i))
  unfolding node_at dag_of
  read_of =
      let n : length (nodes_from (get_or ws 0 0) (drop head_words ws)) ≡ get_or ws 0 0 = length-nodes_from (get_or ws 0 0) (drop
      head_words ws) in
      node-from (get_or ws 0 0) i (drop head_words ws) (omega arith) ∙ ap (λ xs. decoded_node (take 12 xs)) (drop-drop (12 * i) head_words
      ws)

  decoded-holds : node_holds (dag_of ws) (decoded_node (row_at ws (row_of i))) ≡ true
  decoded-holds = subst (λ n. node_holds (dag_of ws) n ≡ true) read_of (node-rules (dag_of ws) i k l)

  pub node-words : row_at ws (row_of i) ≡ node_words (node_by (row_at ws (row_of i)))
  node-words = holds-words (dag_of ws) (row_at ws (row_of i)) decoded-holds

  pub node-read : node_at (dag_of ws) i ≡ node_by (row_at ws (row_of i))
  node-read = read_of ∙ holds-by-kind (dag_of ws) (row_at ws (row_of i)) decoded-holds

  pub node-rule : node_holds (dag_of ws) (node_by (row_at ws (row_of i))) ≡ true
  node-rule = subst (λ n. node_holds (dag_of ws) n ≡ true) node-read (node-rules (dag_of ws) i k l)

pub node-of-kind : (ws : List ℕ) (at kind : ℕ) → get_or ws at 0 ≡ kind → node_by (row_at ws at) ≡ node_in ws at kind
unfolding node_by params_at
node-of-kind ws at kind e =
    let start : at + 0 ≡ at = omega arith in
    let row = row_at ws at in
    ap₂ (λ x y. node_of_kind x y (get_or row 3 0) (params_from (get_or row 3 0) (drop 4 row)) (get_or row 0 0)) (row_word ws at 1 (omega
    arith))
    (row_word ws at 2 (omega arith))
    ∙ ap₂ (λ x y. node_of_kind (get_or ws (at + 1) 0) (get_or ws (at + 2) 0) x (params_from x (drop 4 row)) y) (row_word ws at 3 (omega
    arith))
    (row_word ws at 0 (omega arith) ∙ ap (λ n. get_or ws n 0) start ∙ e)

module _ (ws : List ℕ) (i : ℕ) (k : dag_holds (dag_of ws) ≡ true) (l : i < length (dag_of ws).bodies) where
  pub body-few : i < 32
  body-few = let f : length (dag_of ws).bodies ≤ 32 = (dag-rules (dag_of ws) k).bodies-few in omega arith

  pub root-read : (body_at (dag_of ws) i).root ≡ get_or ws (3 + 2 * i) 0
  unfolding body_at dag_of
  root-read =
      let n : length (bodies_from (get_or ws 1 0) (drop 3 ws)) ≡ get_or ws 1 0 = length-bodies_from (get_or ws 1 0) (drop 3 ws) in
      ap (λ (b : Body). b.root) (body-from (get_or ws 1 0) i (drop 3 ws) _ (omega arith)) ∙ get_or-drop 3 ws (2 * i) 0

  pub root-few : get_or ws (3 + 2 * i) 0 < 1022
  unfolding body_holds is_node
  root-few =
      let f : length (dag_of ws).nodes ≤ 1022 = (dag-rules (dag_of ws) k).nodes-few in
      let e : get_or ws (3 + 2 * i) 0 < length (dag_of ws).nodes =
      subst (λ r. r < length (dag_of ws).nodes) root-read (ltb-lt _ _ (and_left _ _ (body-rules (dag_of ws) i k l))) in
      omega arith
