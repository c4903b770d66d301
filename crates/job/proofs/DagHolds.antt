-- The dag of a well-formed program keeps the index rules: each node names nodes of the same construction, and parameters, variables and
-- definitions lie in their ranges because the expression's do. Assumes nothing.
use mathlib.Core.Path.{◌≡◌, refl, sym, ◌∙◌, ap}
use mathlib.Core.Bool.{true}
use mathlib.Core.List.{List, [], ◌∷◌}
use Prim.Native.Nat.{ℕ, suc, ◌+◌, ◌≤◌, ◌<◌}
use native.Mathlib.Omega.{arith}
use lib.ListN.{length, get_or, length-map}
use Rattle.job.specs.Test.{for_all, All, none, more}
use Rattle.job.specs.Syntax.{Param, Join, Exp, Definition, Program, formals_of}
use Rattle.job.specs.WellFormed.{GoodParam, GoodJoin, Good, GoodDefinition, WellFormed}
use Rattle.job.specs.Node.{Node, Dag, param_holds, params_hold, is_node, node_holds, body_holds, dag_holds}
use Rattle.job.specs.Construct.{own, node_count, root, own_nodes, nodes_of, next_left, next_right, construct_from, construct}
use Rattle.job.proofs.Test.{lt-ltb, le-leb, and_both, all_nil, all_cons, all_append, All-all, All-map}
use Rattle.job.proofs.All.{All-member, All-at}
use Rattle.job.proofs.ScopeSlots.{Slots, levels-slots, left-slots, right-slots}
use Rattle.job.proofs.WellFormed.{takes-site, site-few}
use Rattle.job.proofs.Size.{nodes-append-length, nodes-few}
use Rattle.job.proofs.DagRules.{DagRules, rules-dag}

-- an expression is entered at one of its own nodes
pub root-from : (e : Exp) (n : ℕ) → n ≤ root e n
unfolding root
root-from Exp.stop n = omega arith
root-from (Exp.site s ps) n = omega arith
root-from (Exp.call d ps) n = omega arith
root-from (Exp.join Join.par f g) n = omega arith
root-from (Exp.join (Join.seq x) f g) n = omega (arith, root-from f (n + 2))
root-from (Exp.join (Join.prune x) f g) n = omega arith

pub root_below : (e : Exp) (n : ℕ) → root e n < n + node_count e
unfolding root node_count own
root_below Exp.stop n = omega arith
root_below (Exp.site s ps) n = omega arith
root_below (Exp.call d ps) n = omega arith
root_below (Exp.join Join.par f g) n = omega arith
root_below (Exp.join (Join.seq x) f g) n = omega (arith, root_below f (n + 2))
root_below (Exp.join (Join.prune x) f g) n = omega arith

-- parameters
param-holds : {scope : List ℕ} → Slots scope → (q : Param) → GoodParam scope q → param_holds q ≡ true
unfolding param_holds
param-holds s (Param.variable x) (GoodParam.variable m) = lt-ltb x 8 (All-member s m)
param-holds s (Param.constant v) (GoodParam.constant f) = f

params-hold : {scope : List ℕ} → Slots scope → (ps : List Param) → length ps ≤ 4 → All (GoodParam scope) ps → params_hold ps ≡ true
unfolding params_hold
params-hold s ps l a = and_both (le-leb (length ps) 4 l) (All-all param_holds ps (All-map (param-holds s) a))

-- the nodes that the operands of a join go toward
next-left : (j : Join) (n k m : ℕ) → n + own j ≤ m → k < m → next_left j n k < m
unfolding next_left own
next-left Join.par n k m h l = l
next-left (Join.seq x) n k m h l = omega arith
next-left (Join.prune x) n k m h l = omega arith

next-right : (j : Join) (n k m : ℕ) → n + own j ≤ m → k < m → next_right j n k < m
unfolding next_right own
next-right Join.par n k m h l = l
next-right (Join.seq x) n k m h l = omega arith
next-right (Join.prune x) n k m h l = omega arith

module _ (d : Dag) (formals : List ℕ) (counted : length formals ≡ length d.bodies) (few : All (λ c. c ≤ 4) formals) where
  is-node : (k : ℕ) → k < length d.nodes → is_node d k ≡ true
  unfolding is_node
  is-node k l = lt-ltb k (length d.nodes) l

  only-node-holds : (x : Node) → node_holds d x ≡ true → for_all (node_holds d) (x ∷ []) ≡ true
  only-node-holds x e = all_cons (node_holds d) x [] e (all_nil (node_holds d))

  -- the nodes that a join makes itself
  own-nodes-hold : {scope : List ℕ} {j : Join} → GoodJoin scope j → (l r k : ℕ)
      → l < length d.nodes → r < length d.nodes → k < length d.nodes → for_all (node_holds d) (own_nodes j l r k) ≡ true
  unfolding own_nodes node_holds
  own-nodes-hold GoodJoin.par l r k hl hr hk = only-node-holds _ (and_both (is-node l hl) (is-node r hr))
  own-nodes-hold {scope} (GoodJoin.seq b) l r k hl hr hk =
      let slot = lt-ltb (length scope) 8 b in
      all_cons (node_holds d) _ _ (and_both slot (is-node r hr)) (only-node-holds _ (and_both slot (is-node k hk)))
  own-nodes-hold {scope} (GoodJoin.prune b) l r k hl hr hk =
      let slot = lt-ltb (length scope) 8 b in
      all_cons (node_holds d) _ _ (and_both slot (and_both (is-node l hl) (is-node r hr)))
      (all_cons (node_holds d) _ _ (and_both slot (is-node k hk)) (only-node-holds _ refl))

  -- the nodes of an expression, numbered from n, toward k
  nodes-hold : {left : ℕ} {scope : List ℕ} {e : Exp} → Good formals left scope e → Slots scope → (n k : ℕ)
      → k < length d.nodes → n + node_count e ≤ length d.nodes → for_all (node_holds d) (nodes_of e n k) ≡ true
  unfolding nodes_of node_holds node_count
  nodes-hold Good.stop s n k hk fit = only-node-holds _ refl
  nodes-hold (Good.site {s = x} {ps = ps} t a) s n k hk fit =
      only-node-holds _ (and_both (takes-site t) (and_both (params-hold s ps (site-few t) a) (is-node k hk)))
  nodes-hold (Good.call {d = x} {ps = ps} l t a) s n k hk fit =
      let c : get_or formals x 0 ≤ 4 = All-at few x 0 l in
      only-node-holds _
      (and_both (lt-ltb x (length d.bodies) (omega arith)) (and_both (params-hold s ps (omega arith) a) (is-node k hk)))
  nodes-hold (Good.join {j = j} {f = f} {g = g} b gf gg) s n k hk fit =
      let m = length d.nodes in
      let first = n + own j in
      let second = n + own j + node_count f in
      let o = own-nodes-hold b (root f first) (root g second) k (omega (arith, root_below f first))
      (omega (arith, root_below g second)) hk in
      let l = nodes-hold gf (left-slots b s) first (next_left j n k) (next-left j n k m (omega arith) hk) (omega arith) in
      let r = nodes-hold gg (right-slots b s) second (next_right j n k) (next-right j n k m (omega arith) hk) (omega arith) in
      all_append (node_holds d) _ _ (all_append (node_holds d) _ _ o l) r

  -- the nodes of definitions and a goal, numbered from n
  program-nodes-hold : {ds : List Definition} {g : Exp} → All (GoodDefinition formals) ds → Good formals 24 [] g → (n : ℕ)
      → n + length (construct_from n ds g).nodes ≤ length d.nodes → for_all (node_holds d) (construct_from n ds g).nodes ≡ true
  unfolding construct_from node_holds
  program-nodes-hold {g = g} none gg n fit =
      let sink = n + node_count g in
      let whole = nodes-append-length g n sink (Node.publish ∷ []) in
      all_append (node_holds d) _ _ (nodes-hold gg none n sink (omega arith) (omega arith)) (only-node-holds _ refl)
  program-nodes-hold {g = g} (more {x = x} {xs = xs} h hs) gg n fit =
      let sink = n + node_count x.body in
      let rest = (construct_from (suc sink) xs g).nodes in
      let whole = nodes-append-length x.body n sink (Node.return ∷ rest) in
      let slots = levels-slots x.formals (omega (arith, h.count)) in
      all_append (node_holds d) _ _ (nodes-hold h.body slots n sink (omega arith) (omega arith))
      (all_cons (node_holds d) _ _ refl (program-nodes-hold hs gg (suc sink) (omega arith)))

  bodies-hold : {ds : List Definition} (g : Exp) → All (GoodDefinition formals) ds → (n : ℕ)
      → n + length (construct_from n ds g).nodes ≤ length d.nodes → for_all (body_holds d) (construct_from n ds g).bodies ≡ true
  unfolding construct_from body_holds
  bodies-hold g none n fit = all_nil (body_holds d)
  bodies-hold g (more {x = x} {xs = xs} h hs) n fit =
      let sink = n + node_count x.body in
      let rest = (construct_from (suc sink) xs g).nodes in
      let whole = nodes-append-length x.body n sink (Node.return ∷ rest) in
      all_cons (body_holds d) _ _
      (and_both (is-node (root x.body n) (omega (arith, root_below x.body n))) (le-leb x.formals 4 h.count))
      (bodies-hold g hs (suc sink) (omega arith))

pub goal-below : (n : ℕ) (ds : List Definition) (g : Exp) → (construct_from n ds g).goal < n + length (construct_from n ds g).nodes
unfolding construct_from
goal-below n [] g = simp nodes-append-length (omega (arith, root_below g n))
goal-below n (d ∷ ds) g =
    let sink = n + node_count d.body in
    let rest = goal-below (suc sink) ds g in
    simp nodes-append-length (omega arith)

pub bodies-length : (n : ℕ) (ds : List Definition) (g : Exp) → length (construct_from n ds g).bodies ≡ length ds
unfolding construct_from
bodies-length n [] g = refl
bodies-length n (d ∷ ds) g = ap suc (bodies-length (suc (n + node_count d.body)) ds g)

pub formals-few : {fs : List ℕ} {ds : List Definition} → All (GoodDefinition fs) ds → All (λ c. c ≤ 4) (formals_of ds)
formals-few none = none
formals-few (more h hs) = more h.count (formals-few hs)

pub construct-rules : (p : Program) → WellFormed p → DagRules (construct p)
unfolding construct
construct-rules p w =
    let d = construct p in
    let ds = p.definitions in
    let g = p.goal in
    let formals = formals_of ds in
    let bodies : length d.bodies ≡ length ds = bodies-length 0 ds g in
    let counted : length formals ≡ length d.bodies = length-map ds (λ x. x.formals) ∙ sym bodies in
    let few = formals-few w.bodies in
    record {
      nodes-few = nodes-few p w;
      bodies-few = omega (arith, w.definitions);
      goal = omega (arith, goal-below 0 ds g);
      bodies = bodies-hold d formals counted few g w.bodies 0 (omega arith);
      nodes = program-nodes-hold d formals counted few w.bodies w.goal 0 (omega arith);
    }

pub construct-holds : (p : Program) → WellFormed p → dag_holds (construct p) ≡ true
construct-holds p w = rules-dag (construct p) (construct-rules p w)
