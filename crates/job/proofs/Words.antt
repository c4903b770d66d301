-- Decoding the words of a dag gives the dag back, and writing a dag leaves every other word as it was: a row's twelve words determine its
-- node, and the head and the rows stand side by side in the array. Assumes nothing.
use mathlib.Core.Path.{◌≡◌, refl, ◌∙◌, ap, ap₂}
use mathlib.Core.Logic.{◌⊎◌}
use mathlib.Core.Bool.{true}
use mathlib.Core.List.{List, [], ◌∷◌, ◌++◌, append_assoc}
use Prim.Native.Nat.{ℕ, zero, suc, ◌+◌, ◌*◌, ◌≤◌, ◌<◌}
use native.Mathlib.Omega.{arith}
use lib.ListN.{length, get_or, take, drop, length-append}
use lib.Seq.{sets, length-sets, take_at, drop_at, drop-drop, get_or-drop}
use lib.Dec.{ltb, leb}
use Rattle.job.specs.Test.{◌and◌, for_all, same}
use Rattle.job.specs.Site.{site_takes}
use Rattle.job.specs.Syntax.{Param, variable, constant}
use Rattle.job.specs.Node.{Node, Body, Dag, param_holds, params_hold, is_node, node_holds, dag_holds}
use Rattle.job.specs.Words.{param_words, node_words, param_of, params_from, node_by, decoded_node, nodes_from}
use Rattle.job.specs.Words.{bodies_from, head_words, array_words, dag_of, rows_of_nodes, body_words, written}
use Rattle.job.proofs.Laid.{Laid, laid}
use Rattle.job.proofs.DagRules.{dag-rules}
use Rattle.job.proofs.Number.{signed-unsigned}
use Rattle.job.proofs.Test.{clash, leb-le, and_left, and_right, all_head, all_tail, same_refl}

-- parameters
pub param-words-length : (n : ℕ) (ps : List Param) → length (param_words n ps) ≡ 2 * n
unfolding param_words
param-words-length zero ps = refl
param-words-length (suc n) [] = omega (arith, param-words-length n [])
param-words-length (suc n) (variable x ∷ ps) = omega (arith, param-words-length n ps)
param-words-length (suc n) (constant v ∷ ps) = omega (arith, param-words-length n ps)

params-back : (n : ℕ) (ps : List Param) → length ps ≤ n → for_all param_holds ps ≡ true → params_from (length ps) (param_words n ps) ≡ ps
unfolding param_words params_from param_of param_holds
params-back n [] l e = refl
params-back zero (p ∷ ps) l e = absurd (omega arith)
params-back (suc n) (variable x ∷ ps) l e = ap (λ qs. variable x ∷ qs) (params-back n ps (omega arith) (all_tail param_holds _ ps e))
params-back (suc n) (constant v ∷ ps) l e =
    ap₂ (λ w qs. constant w ∷ qs)
    (signed-unsigned v (all_head param_holds (constant v) ps e))
    (params-back n ps (omega arith) (all_tail param_holds (constant v) ps e))

params-read-back : (ps : List Param) → params_hold ps ≡ true → params_from (length ps) (param_words 4 ps) ≡ ps
unfolding params_hold
params-read-back ps e =
    params-back 4 ps (leb-le (length ps) 4 (and_left _ (for_all param_holds ps) e)) (and_right (leb (length ps) 4) _ e)

-- nodes
pub node-words-length : (d : Dag) (n : Node) → node_holds d n ≡ true → length (node_words n) ≡ 12
unfolding node_words param_words node_holds
node-words-length d Node.stop e = refl
node-words-length d (Node.site s ps k) e = omega (arith, param-words-length 4 ps)
node-words-length d (Node.call x ps k) e = omega (arith, param-words-length 4 ps)
node-words-length d (Node.fork l r) e = refl
node-words-length d (Node.assign x k) e = refl
node-words-length d (Node.remove x k) e = refl
node-words-length d (Node.where' x l r) e = refl
node-words-length d Node.choke e = refl
node-words-length d Node.return e = refl
node-words-length d Node.publish e = refl
node-words-length d Node.unknown e = clash e refl

node-by-words : (d : Dag) (n : Node) → node_holds d n ≡ true → node_by (node_words n) ≡ n
unfolding node_words node_by node_holds
node-by-words d Node.stop e = refl
node-by-words d (Node.site s ps k) e =
    ap (λ qs. Node.site s qs k)
    (params-read-back ps (and_left (params_hold ps) (is_node d k) (and_right (site_takes s (length ps)) (params_hold ps and is_node d k)
    e)))
node-by-words d (Node.call x ps k) e =
    ap (λ qs. Node.call x qs k)
    (params-read-back ps (and_left (params_hold ps) (is_node d k) (and_right (ltb x (length d.bodies)) (params_hold ps and is_node d k) e)))
node-by-words d (Node.fork l r) e = refl
node-by-words d (Node.assign x k) e = refl
node-by-words d (Node.remove x k) e = refl
node-by-words d (Node.where' x l r) e = refl
node-by-words d Node.choke e = refl
node-by-words d Node.return e = refl
node-by-words d Node.publish e = refl
node-by-words d Node.unknown e = clash e refl

pub node-back : (d : Dag) (n : Node) → node_holds d n ≡ true → decoded_node (node_words n) ≡ n
unfolding decoded_node
node-back d n e =
    let by : node_by (node_words n) ≡ n = node-by-words d n e in
    let words : same (node_words n) (node_words (node_by (node_words n))) ≡ true = rw by (same_refl (node_words n)) in
    rw (words, decoded_node) by

pub rows-length : (d : Dag) (ns : List Node) → for_all (node_holds d) ns ≡ true → length (rows_of_nodes ns) ≡ 12 * length ns
unfolding rows_of_nodes
rows-length d [] e = refl
rows-length d (n ∷ ns) e =
    let row = node-words-length d n (all_head (node_holds d) n ns e) in
    let rest = rows-length d ns (all_tail (node_holds d) n ns e) in
    simp length-append (omega arith)

pub rows_back : (d : Dag) (ns : List Node) (rest : List ℕ) → for_all (node_holds d) ns ≡ true
    → nodes_from (length ns) (rows_of_nodes ns ++ rest) ≡ ns
unfolding rows_of_nodes nodes_from
rows_back d [] rest e = refl
rows_back d (n ∷ ns) rest e =
    let holds = all_head (node_holds d) n ns e in
    let row = node-words-length d n holds in
    let others = rows_of_nodes ns ++ rest in
    rw (append_assoc (node_words n) (rows_of_nodes ns) rest, take_at (node_words n) others 12 row, drop_at (node_words n) others 12 row)
    (ap₂ (λ m ms. m ∷ ms) (node-back d n holds) (rows_back d ns rest (all_tail (node_holds d) n ns e)))

-- bodies
pub body-words-length : (bs : List Body) → length (body_words bs) ≡ 2 * length bs
unfolding body_words
body-words-length [] = refl
body-words-length (b ∷ bs) = omega (arith, body-words-length bs)

pub bodies-back : (bs : List Body) (rest : List ℕ) → bodies_from (length bs) (body_words bs ++ rest) ≡ bs
unfolding body_words bodies_from
bodies-back [] rest = refl
bodies-back (b ∷ bs) rest = ap (λ cs. b ∷ cs) (bodies-back bs rest)

-- the words of a dag's head
unfoldable pub head_of : Dag → List ℕ
head_of d = length d.nodes ∷ length d.bodies ∷ d.goal ∷ body_words d.bodies

pub head-length : (d : Dag) → length (head_of d) ≡ 3 + 2 * length d.bodies
unfolding head_of
head-length d = omega (arith, body-words-length d.bodies)

-- the dag that words laid out so hold
laid-back : (d : Dag) {ws : List ℕ} → for_all (node_holds d) d.nodes ≡ true → Laid (head_of d) (rows_of_nodes d.nodes) ws head_words
    → dag_of ws ≡ d
unfolding dag_of head_of
laid-back d {ws} e r =
    let rest = rows_of_nodes d.nodes ++ r.after in
    let seam = drop_at (head_of d ++ r.between) rest head_words r.seam in
    let nodes = ap (nodes_from (length d.nodes)) seam ∙ rows_back d d.nodes r.after e in
    let assoc = append_assoc (body_words d.bodies) r.between rest in
    let bodies = ap (bodies_from (length d.bodies)) assoc ∙ bodies-back d.bodies (r.between ++ rest) in
    let held : dag_of ((head_of d ++ r.between) ++ rest) ≡ d = λ i. record { nodes = nodes i; bodies = bodies i; goal = d.goal } in
    ap dag_of r.form ∙ held

-- writing keeps the number of words
pub written-length : (d : Dag) (ws : List ℕ) → length (written d ws) ≡ length ws
unfolding written head_of
written-length d ws = length-sets (sets ws 0 (head_of d)) head_words (rows_of_nodes d.nodes) ∙ length-sets ws 0 (head_of d)

-- decoding gives back what was written
pub decode-written : (d : Dag) (ws : List ℕ) → dag_holds d ≡ true → length ws ≡ array_words → dag_of (written d ws) ≡ d
unfolding written head_of
decode-written d ws e l =
    let rules = dag-rules d e in
    let nodes = rows-length d d.nodes rules.nodes in
    let head = head-length d in
    laid-back d rules.nodes (laid (head_of d) (rows_of_nodes d.nodes) ws head_words (omega arith) (omega arith))

-- the words that a dag leaves alone: between its head and the nodes, and past its last node
abbrev pub Outside : Dag → ℕ → Type 0
Outside d i = ((3 + 2 * length d.bodies ≤ i) × (i < head_words)) ⊎ (head_words + 12 * length d.nodes ≤ i)

-- the nodes and the bodies that words decode to, one by one
pub length-nodes_from : (n : ℕ) (ws : List ℕ) → length (nodes_from n ws) ≡ n
unfolding nodes_from
length-nodes_from zero ws = refl
length-nodes_from (suc n) ws = ap suc (length-nodes_from n (drop 12 ws))

pub length-bodies_from : (n : ℕ) (ws : List ℕ) → length (bodies_from n ws) ≡ n
unfolding bodies_from
length-bodies_from zero ws = refl
length-bodies_from (suc n) ws = ap suc (length-bodies_from n (drop 2 ws))

pub node-from : (n i : ℕ) (ws : List ℕ) → i < n → get_or (nodes_from n ws) i Node.unknown ≡ decoded_node (take 12 (drop (12 * i) ws))
unfolding nodes_from
node-from zero i ws l = absurd (omega arith)
node-from (suc n) zero ws l = refl
node-from (suc n) (suc i) ws l =
    let e : 12 + 12 * i ≡ 12 * suc i = omega arith in
    node-from n i (drop 12 ws) (omega arith) ∙ ap (λ xs. decoded_node (take 12 xs)) (drop-drop (12 * i) 12 ws ∙ ap (λ k. drop k ws) e)

pub body-from : (n i : ℕ) (ws : List ℕ) (d : Body) → i < n
    → get_or (bodies_from n ws) i d ≡ record { root = get_or ws (2 * i) 0; formals = get_or ws (2 * i + 1) 0 }
unfolding bodies_from
body-from zero i ws d l = absurd (omega arith)
body-from (suc n) zero ws d l = refl
body-from (suc n) (suc i) ws d l =
    let e : 2 + 2 * i ≡ 2 * suc i = omega arith in
    let f : 2 + (2 * i + 1) ≡ 2 * suc i + 1 = omega arith in
    body-from n i (drop 2 ws) d (omega arith)
    ∙ ap₂ (λ r k. record { root = r; formals = k })
    (get_or-drop 2 ws (2 * i) 0 ∙ ap (λ k. get_or ws k 0) e)
    (get_or-drop 2 ws (2 * i + 1) 0 ∙ ap (λ k. get_or ws k 0) f)
