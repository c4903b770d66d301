-- What the rules of a dag say, where they hold, of a node's row: the node that its words are, by its kind, and the numbers in them. Assumes
-- nothing.
use mathlib.Core.Path.{◌≡◌, refl, sym, ap, subst, ◌∙◌}
use mathlib.Core.Logic.{◌⊎◌, inl, inr}
use mathlib.Core.Bool.{true}
use mathlib.Core.List.{List}
use Prim.Native.Nat.{ℕ, ◌+◌, ◌*◌, ◌<◌, ◌≤◌}
use native.Mathlib.Decide.{dec_lt}
use native.Mathlib.Omega.{arith}
use lib.ListN.{length, get_or, get_or-eq_default}
use lib.Dec.{ltb, leb, eqb}
use Rattle.job.specs.Test.{◌and◌}
use Rattle.job.specs.Site.{builtin_counts, is_builtin, is_outside, site_takes}
use Rattle.job.specs.Syntax.{Param}
use Rattle.job.specs.Node.{Node, Dag, node_at, body_at, node_holds, params_hold, is_node}
use Rattle.job.specs.Words.{dag_of, node_words, node_by}
use Rattle.job.proofs.Test.{clash, or_cases, and_left, and_right, ltb-lt, leb-le}
use Rattle.job.proofs.DagRules.{dag-rules}
use Rattle.sites.specs.Row.{row_of, row_at, params_at, ParamsHold, node_in, node_of_kind, nodes_by_kind}
use Rattle.sites.specs.Row.{NodeRow}
use Rattle.sites.proofs.RowNode.{node-of-kind, node-inside, node-read, node-rule, node-words, root-read, root-few, body-few}
use Rattle.sites.proofs.LookParams.{row_word}

-- a site's number
site-below : (s n : ℕ) → site_takes s n ≡ true → s < 1024
unfolding site_takes is_builtin is_outside
site-below s n e = go (or_cases _ _ e)
  where
    go : ((is_builtin s and eqb n (get_or builtin_counts s 0)) ≡ true) ⊎ ((is_outside s and leb n 4) ≡ true) → s < 1024
    go (inl a) = let l = ltb-lt s 8 (and_left _ _ a) in omega arith
    go (inr a) = let l = leb-le s 1023 (and_right (leb 16 s) _ (and_left _ _ a)) in omega arith

module _ (ws : List ℕ) (at kind : ℕ) (o : NodeRow ws at kind) where
  pub row_inside : at + 12 ≤ 12331
  row_inside = let e : at ≡ row_of o.node = o.row in let l = node-inside ws o.node o.dag o.inside in omega arith

  row_is : node_by (row_at ws (row_of o.node)) ≡ node_in ws at kind
  row_is = ap (λ i. node_by (row_at ws i)) (sym o.row) ∙ node-of-kind ws at kind o.kind

  pub node-is : node_at (dag_of ws) o.node ≡ node_in ws at kind
  node-is = node-read ws o.node o.dag o.inside ∙ row_is

  pub node-holds : node_holds (dag_of ws) (node_in ws at kind) ≡ true
  node-holds = subst (λ n. node_holds (dag_of ws) n ≡ true) row_is (node-rule ws o.node o.dag o.inside)

  -- the word of the row that counts its parameters
  count_word : get_or ws (at + 3) 0 ≡ get_or (node_words (node_in ws at kind)) 3 0
  count_word =
      sym (row_word ws at 3 (omega arith))
      ∙ ap (λ i. get_or (row_at ws i) 3 0) o.row
      ∙ ap (λ row. get_or row 3 0) (node-words ws o.node o.dag o.inside)
      ∙ ap (λ n. get_or (node_words n) 3 0) row_is

  -- a number that is a node's
  node-number : (k : ℕ) → is_node (dag_of ws) k ≡ true → k < 65536
  unfolding is_node
  node-number k e =
      let f : length (dag_of ws).nodes ≤ 1022 = (dag-rules (dag_of ws) o.dag).nodes-few in
      let l : k < length (dag_of ws).nodes = ltb-lt k (length (dag_of ws).nodes) e in
      omega arith

  -- the parameters of a call
  params-hold : get_or (node_words (node_in ws at kind)) 3 0 ≡ length (params_at ws at) → params_hold (params_at ws at) ≡ true
      → ParamsHold ws at
  unfolding params_hold
  params-hold n k =
      let c : get_or ws (at + 3) 0 ≡ get_or (node_words (node_in ws at kind)) 3 0 = count_word in
      let l : length (params_at ws at) ≤ 4 = leb-le (length (params_at ws at)) 4 (and_left _ _ k) in
      record { size = o.size; inside = row_inside; few = omega arith; hold = and_right (leb (length (params_at ws at)) 4) _ k }

-- the numbers of each kind of node
module _ (ws : List ℕ) (at : ℕ) where
  abbrev word : ℕ → ℕ
  word i = get_or ws (at + i) 0

  bind-numbers : (kind : ℕ) → NodeRow ws at kind → node_holds (dag_of ws) (Node.assign (word 1) (word 2)) ≡ true
      → (word 1 < 8) × (word 2 < 65536)
  unfolding node_holds
  bind-numbers kind o e = (ltb-lt (word 1) 8 (and_left _ _ e), node-number ws at kind o (word 2) (and_right (ltb (word 1) 8) _ e))

  pub assign-numbers : NodeRow ws at 4 → (word 1 < 8) × (word 2 < 65536)
  assign-numbers o = bind-numbers 4 o (node-holds ws at 4 o)

  pub remove-numbers : NodeRow ws at 5 → (word 1 < 8) × (word 2 < 65536)
  unfolding node_holds
  remove-numbers o = bind-numbers 5 o (node-holds ws at 5 o)

  pub where-numbers : NodeRow ws at 6 → (word 1 < 65536) × (word 2 < 65536) × (word 3 < 8)
  unfolding node_holds
  where-numbers o =
      let k = node-holds ws at 6 o in
      let j = and_right (ltb (word 3) 8) _ k in (
        node-number ws at 6 o (word 1) (and_left _ _ j),
        node-number ws at 6 o (word 2) (and_right (is_node (dag_of ws) (word 1)) _ j),
        ltb-lt (word 3) 8 (and_left _ _ k),
      )

  -- definition call
  call-rule : NodeRow ws at 2 → (ltb (word 1) (length (dag_of ws).bodies) and params_hold (params_at ws at) and is_node (dag_of ws) (word
      2))
      ≡ true
  unfolding node_holds
  call-rule o = node-holds ws at 2 o

  pub call-params : NodeRow ws at 2 → ParamsHold ws at
  unfolding node_words
  call-params o = params-hold ws at 2 o refl (and_left _ _ (and_right (ltb (word 1) (length (dag_of ws).bodies)) _ (call-rule o)))

  call-body : NodeRow ws at 2 → word 1 < length (dag_of ws).bodies
  call-body o = ltb-lt (word 1) (length (dag_of ws).bodies) (and_left _ _ (call-rule o))

  pub call-root : (k : ℕ) → NodeRow ws at 2 → k ≡ word 1
      → (k < 32) × (get_or ws (3 + 2 * k) 0 < 65536) × (get_or ws (3 + 2 * k) 0 ≡ (body_at (dag_of ws) (word 1)).root)
  call-root k o same =
      let b = body-few ws (word 1) o.dag (call-body o) in
      let r = root-few ws (word 1) o.dag (call-body o) in (
        subst (λ i. i < 32) (sym same) b,
        subst (λ i. get_or ws (3 + 2 * i) 0 < 65536) (sym same) (let z : get_or ws (3 + 2 * word 1) 0 < 65536 = omega arith in z),
        ap (λ i. get_or ws (3 + 2 * i) 0) same ∙ sym (root-read ws (word 1) o.dag (call-body o)),
      )

  -- site call
  site-rule : NodeRow ws at 1
      → (site_takes (word 1) (length (params_at ws at)) and params_hold (params_at ws at) and is_node (dag_of ws) (word 2)) ≡ true
  unfolding node_holds
  site-rule o = node-holds ws at 1 o

  pub site-params : NodeRow ws at 1 → ParamsHold ws at
  unfolding node_words
  site-params o = params-hold ws at 1 o refl (and_left _ _ (and_right (site_takes (word 1) (length (params_at ws at))) _ (site-rule o)))

  pub site-number : NodeRow ws at 1 → word 1 < 1024
  site-number o = site-below (word 1) (length (params_at ws at)) (and_left _ _ (site-rule o))

-- a node's kind is one of ten
pub kind-below : (d : Dag) (a b c : ℕ) (ps : List Param) (kind : ℕ) → node_holds d (node_of_kind a b c ps kind) ≡ true → kind < 10
unfolding node_holds
kind-below d a b c ps kind e = go (dec_lt kind 10)
  where
    go : Dec (kind < 10) → kind < 10
    go (yes l) = l
    go (no f) = clash
        (subst (λ n. node_holds d n ≡ true) (get_or-eq_default (nodes_by_kind a b c ps) Node.unknown {n = kind} (omega arith)) e) refl
