-- The dag's words: what stands in the array that a host lends (docs/DECISIONS.md, "Words"). Assumes nothing: these are definitions.
-- A head of 67 words (number of nodes, number of definitions, the goal's root, root and formals of each definition),
-- then 12 words a node: kind, two numbers, a third number, and four parameters of two words each.
use Rattle.std.specs.Prelude.{true, false, List, [], ◌∷◌, ◌++◌, ℕ, zero, suc, ◌+◌, ◌*◌, length, get_or, take, drop, eqb}
use Rattle.std.proofs.lemmas.List.Edits.{sets}
use Rattle.job.specs.Bounds.{parameter_limit, node_limit}
use Rattle.job.specs.Test.{same}
use Rattle.job.specs.Number.{signed, unsigned}
use Rattle.job.specs.Syntax.{Param, variable, constant}
use Rattle.job.specs.Node.{Node, Body, Dag}

-- a parameter has the kind and the operand of its entry; the places behind the last one are 0
unfoldable pub param_words : ℕ → List Param → List ℕ
param_words zero ps = []
param_words (suc n) [] = 0 ∷ 0 ∷ param_words n []
param_words (suc n) (variable x ∷ ps) = 7 ∷ x ∷ param_words n ps
param_words (suc n) (constant v ∷ ps) = 8 ∷ unsigned v ∷ param_words n ps

-- the twelve words of a node
unfoldable pub node_words : Node → List ℕ
node_words Node.stop = 0 ∷ 0 ∷ 0 ∷ 0 ∷ param_words parameter_limit []
node_words (Node.site s ps k) = 1 ∷ s ∷ k ∷ length ps ∷ param_words parameter_limit ps
node_words (Node.call d ps k) = 2 ∷ d ∷ k ∷ length ps ∷ param_words parameter_limit ps
node_words (Node.fork l r) = 3 ∷ l ∷ r ∷ 0 ∷ param_words parameter_limit []
node_words (Node.assign x k) = 4 ∷ x ∷ k ∷ 0 ∷ param_words parameter_limit []
node_words (Node.remove x k) = 5 ∷ x ∷ k ∷ 0 ∷ param_words parameter_limit []
node_words (Node.where' x l r) = 6 ∷ l ∷ r ∷ x ∷ param_words parameter_limit []
node_words Node.choke = 7 ∷ 0 ∷ 0 ∷ 0 ∷ param_words parameter_limit []
node_words Node.return = 8 ∷ 0 ∷ 0 ∷ 0 ∷ param_words parameter_limit []
node_words Node.publish = 9 ∷ 0 ∷ 0 ∷ 0 ∷ param_words parameter_limit []
node_words Node.unknown = []

unfoldable pub param_of : (kind word : ℕ) → Param
param_of k w = elim (eqb k 7) [ true ↦ variable w | false ↦ constant (signed w) ]

unfoldable pub params_from : ℕ → List ℕ → List Param
params_from zero ws = []
params_from (suc n) [] = []
params_from (suc n) (k ∷ []) = []
params_from (suc n) (k ∷ w ∷ ws) = param_of k w ∷ params_from n ws

-- the node that a row's words would be by their kind
unfoldable pub node_by : List ℕ → Node
node_by ws =
    let a = get_or ws 1 0 in
    let b = get_or ws 2 0 in
    let c = get_or ws 3 0 in
    let ps = params_from c (drop 4 ws) in
    get_or
    (Node.stop
    ∷ Node.site a ps b
    ∷ Node.call a ps b
    ∷ Node.fork a b
    ∷ Node.assign a b
    ∷ Node.remove a b
    ∷ Node.where' c a b
    ∷ Node.choke
    ∷ Node.return
    ∷ Node.publish
    ∷ [])
    (get_or ws 0 0) Node.unknown

-- the node whose words these are
unfoldable pub decoded_node : List ℕ → Node
decoded_node ws = let n = node_by ws in elim (same ws (node_words n)) [ true ↦ n | false ↦ Node.unknown ]

unfoldable pub nodes_from : ℕ → List ℕ → List Node
nodes_from zero ws = []
nodes_from (suc n) ws = decoded_node (take 12 ws) ∷ nodes_from n (drop 12 ws)

unfoldable pub bodies_from : ℕ → List ℕ → List Body
bodies_from zero ws = []
bodies_from (suc n) ws = record { root = get_or ws 0 0; formals = get_or ws 1 0 } ∷ bodies_from n (drop 2 ws)

-- where the nodes begin, and how many words the array has
abbrev pub head_words : ℕ
head_words = 67

abbrev pub array_words : ℕ
array_words = head_words + 12 * node_limit

-- the dag that the array holds; words past its last definition and its last node are no part of it
unfoldable pub dag_of : List ℕ → Dag
dag_of ws =
    record {
      nodes = nodes_from (get_or ws 0 0) (drop head_words ws);
      bodies = bodies_from (get_or ws 1 0) (drop 3 ws);
      goal = get_or ws 2 0;
    }

unfoldable pub rows_of_nodes : List Node → List ℕ
rows_of_nodes [] = []
rows_of_nodes (n ∷ ns) = node_words n ++ rows_of_nodes ns

unfoldable pub body_words : List Body → List ℕ
body_words [] = []
body_words (b ∷ bs) = b.root ∷ b.formals ∷ body_words bs

-- the array after the dag was written into it
unfoldable pub written : Dag → List ℕ → List ℕ
written d ws =
    sets (sets ws 0 (length d.nodes ∷ length d.bodies ∷ d.goal ∷ body_words d.bodies)) head_words (rows_of_nodes d.nodes)
