-- The labels keep the flow of a well-formed program's dag: what each node asks of those that it names was laid beside it in the same
-- recursion, and a binder's number, the length of its scope, is in no scope yet. Assumes nothing.
use mathlib.Core.Path.{◌≡◌, refl, sym, ◌∙◌, ap, subst}
use mathlib.Core.Bool.{Bool, true, false}
use mathlib.Core.List.{List, [], ◌∷◌}
use Prim.Native.Nat.{ℕ, zero, suc, ◌+◌, ◌≤◌, ◌<◌}
use native.Mathlib.Omega.{arith}
use lib.ListN.{length, get_or, length-map}
use Rattle.job.specs.Test.{All, none, more}
use Rattle.job.specs.Syntax.{Param, Join, Exp, Definition, Program, formals_of, levels, scope_left, scope_right}
use Rattle.job.specs.WellFormed.{GoodParam, GoodJoin, Good, GoodDefinition, WellFormed}
use Rattle.job.specs.Node.{Node, Dag, node_at, body_at}
use Rattle.job.specs.Construct.{own, node_count, root, own_nodes, nodes_of, next_left, next_right, construct_from, construct}
use Rattle.job.proofs.Test.{All-map}
use Rattle.job.proofs.Size.{own-length, nodes-length}
use Rattle.job.proofs.All.{All-member, All-at}
use Rattle.job.proofs.DagHolds.{bodies-length, formals-few}
use Rattle.lockstep.proofs.Labels.{Labels, Fresh, Follows, Enters, FlowAt, Flow}
use Rattle.lockstep.proofs.Each.{Each, each-head, each_tail, each_from, each_append, three-each, each_at}
use Rattle.lockstep.proofs.Labelling.{Label, plain, nest_right, own_labels, exp_labels, program_labels, labels_of}
use Rattle.lockstep.proofs.Labelling.{Has, Labelled, join-labelled, here-labelled, then-labelled, labelled-whole}
use Rattle.job.proofs.ScopeSlots.{levels-length}

-- each variable in scope is below the next one's number
abbrev pub Below : List ℕ → Type 0
Below scope = All (λ x. x < length scope) scope

below_more : {scope : List ℕ} → Below scope → Below (length scope ∷ scope)
below_more {scope} b = more {x = length scope} (omega arith) (All-map (λ x l. omega arith) b)

pub levels-below : (n : ℕ) → Below (levels n)
unfolding levels
levels-below zero = none
levels-below (suc n) = subst (λ x. Below (x ∷ levels n)) (levels-length n) (below_more (levels-below n))

below-fresh : {scope : List ℕ} → Below scope → Fresh (length scope) scope
below-fresh {scope} b m = let l : length scope < length scope = All-member b m in omega arith

below_left : {scope : List ℕ} {j : Join} → GoodJoin scope j → Below scope → Below (scope_left j scope)
unfolding scope_left
below_left GoodJoin.par b = b
below_left (GoodJoin.seq l) b = b
below_left (GoodJoin.prune l) b = below_more b

below_right : {scope : List ℕ} {j : Join} → GoodJoin scope j → Below scope → Below (scope_right j scope)
unfolding scope_right
below_right GoodJoin.par b = b
below_right (GoodJoin.seq l) b = below_more b
below_right (GoodJoin.prune l) b = b

-- a node that code of this scope, nest and body goes toward
pub record Toward (M : Labels) (k : ℕ) (within : List ℕ) (under : ℕ) (in_body : Bool) : Type 0 where
  pub scope : M.scope k ≡ within
  pub nest : M.nest k ≡ under
  pub body : M.body k ≡ in_body

has-toward : {M : Labels} {n : ℕ} {l : Label} → Has M n l → Toward M n l.scope l.nest l.body
has-toward h = record { scope = h.scope; nest = h.nest; body = h.body }

module _ (M : Labels) where
  -- an expression's root has the expression's scope, nest and body, and asks no value
  pub root-labelled : (e : Exp) {n : ℕ} (scope : List ℕ) (nest : ℕ) (body : Bool)
      → Labelled M n (exp_labels e scope nest body) → Has M (root e n) (plain scope nest body)
  unfolding root exp_labels own_labels own scope_left
  root-labelled Exp.stop scope nest body ls = each-head ls
  root-labelled (Exp.site s ps) scope nest body ls = each-head ls
  root-labelled (Exp.call d ps) scope nest body ls = each-head ls
  root-labelled (Exp.join Join.par f g) scope nest body ls = each-head (join-labelled M Join.par f g scope nest body ls).first
  root-labelled (Exp.join (Join.seq x) f g) scope nest body ls =
      root-labelled f scope nest body (join-labelled M (Join.seq x) f g scope nest body ls).second
  root-labelled (Exp.join (Join.prune x) f g) scope nest body ls = each-head (join-labelled M (Join.prune x) f g scope nest body ls).first

  module _ {n k : ℕ} {scope : List ℕ} {nest : ℕ} {body : Bool} where
    left-toward : (j : Join) → Labelled M n (own_labels j scope nest body) → Toward M k scope nest body
        → Toward M (next_left j n k) (scope_left j scope) nest body
    unfolding own_labels next_left scope_left
    left-toward Join.par ls t = t
    left-toward (Join.seq x) ls t = has-toward (each-head ls)
    left-toward (Join.prune x) ls t = has-toward (each-head (each_from (let z : suc n ≡ n + 1 = omega arith in z) (each_tail ls)))

    right-toward : (j : Join) → Labelled M n (own_labels j scope nest body) → Toward M k scope nest body
        → Toward M (next_right j n k) (scope_right j scope) (nest_right j nest) body
    unfolding own_labels next_right scope_right nest_right
    right-toward Join.par ls t = t
    right-toward (Join.seq x) ls t = has-toward (each-head (each_from (let z : suc n ≡ n + 1 = omega arith in z) (each_tail ls)))
    right-toward (Join.prune x) ls t =
        has-toward (each-head (each_from (let z : suc (suc n) ≡ n + 2 = omega arith in z) (each_tail (each_tail ls))))

module _ (d : Dag) (M : Labels) where
  follows : {n k : ℕ} {l : Label} {scope : List ℕ} {nest : ℕ} {within : List ℕ} {under : ℕ}
      → Has M n l → Toward M k scope nest l.body → scope ≡ within → nest ≡ under → Follows d M n k within under
  follows h t e f = record { scope = t.scope ∙ e; nest = t.nest ∙ f; body = t.body ∙ sym h.body }

  -- the nodes that a join makes itself
  own-flows : {n k l r : ℕ} {scope : List ℕ} {j : Join} {nest : ℕ} {body : Bool} → GoodJoin scope j → Below scope
      → Labelled M n (own_labels j scope nest body)
      → Has M l (plain (scope_left j scope) nest body) → Has M r (plain (scope_right j scope) (nest_right j nest) body)
      → Toward M k scope nest body → Each (FlowAt d M) n (own_nodes j l r k)
  unfolding own_labels own_nodes scope_left scope_right nest_right
  own-flows GoodJoin.par b (Each.more h ls) hl hr t =
      Each.more
      (FlowAt.fork hl.value hr.value
      (follows h (has-toward hl) (sym h.scope) (sym h.nest))
      (follows h (has-toward hr) (sym h.scope) (sym h.nest)))
      Each.none
  own-flows {scope = scope} (GoodJoin.seq x) b (Each.more h (Each.more h' ls)) hl hr t =
      Each.more
      (FlowAt.assign h.value x (subst (Fresh (length scope)) (sym h.scope) (below-fresh b))
      (follows h (has-toward hr) (ap (λ s. length scope ∷ s) (sym h.scope)) (sym h.nest)))
      (Each.more (FlowAt.remove h'.value x h'.scope (below-fresh b) (follows h' t refl (sym h'.nest))) Each.none)
  own-flows {scope = scope} (GoodJoin.prune x) b (Each.more h (Each.more h' (Each.more h'' ls))) hl hr t =
      Each.more
      (FlowAt.where' hl.value hr.value x (subst (Fresh (length scope)) (sym h.scope) (below-fresh b))
      (follows h (has-toward hl) (ap (λ s. length scope ∷ s) (sym h.scope)) (sym h.nest))
      (follows h (has-toward hr) (sym h.scope) (ap suc (sym h.nest))))
      (Each.more (FlowAt.remove h'.value x h'.scope (below-fresh b) (follows h' t refl (sym h'.nest)))
      (Each.more (FlowAt.choke h''.value (let e : M.nest _ ≡ suc _ = h''.nest in omega arith)) Each.none))

  -- what the construction makes sure of for each definition call
  abbrev Entered : List ℕ → Type 0
  Entered formals = (e : ℕ) (ps : List Param) → e < length formals → length ps ≡ get_or formals e 0 → Enters d M e ps

  module _ (formals : List ℕ) (entered : Entered formals) where
    exp-flows : {left : ℕ} {scope : List ℕ} {e : Exp} → Good formals left scope e → Below scope → {n k : ℕ} (nest : ℕ) (body : Bool)
        → Labelled M n (exp_labels e scope nest body) → Toward M k scope nest body → Each (FlowAt d M) n (nodes_of e n k)
    unfolding exp_labels nodes_of
    exp-flows Good.stop b nest body ls t = Each.more FlowAt.stop Each.none
    exp-flows (Good.site {ps = ps} s a) b nest body (Each.more h ls) t =
        Each.more
        (FlowAt.site h.value (subst (λ x. All (GoodParam x) ps) (sym h.scope) a) (follows h t (sym h.scope) (sym h.nest)))
        Each.none
    exp-flows (Good.call {d = e} {ps = ps} l c a) b nest body (Each.more h ls) t =
        Each.more
        (FlowAt.call h.value (subst (λ x. All (GoodParam x) ps) (sym h.scope) a) (follows h t (sym h.scope) (sym h.nest))
        (entered e ps l c))
        Each.none
    exp-flows (Good.join {scope = scope} {j = j} {f = f} {g = g} bs gf gg) b {n} {k} nest body ls t =
        let parts = join-labelled M j f g scope nest body ls in
        let hl = root-labelled M f (scope_left j scope) nest body parts.second in
        let hr = root-labelled M g (scope_right j scope) (nest_right j nest) body parts.third in
        let left = n + own j in
        let right = n + own j + node_count f in
        three-each (own j) (node_count f) _ _ _ (own-length j (root f left) (root g right) k) (nodes-length f left (next_left j n k))
        (record {
          first = own-flows bs b parts.first hl hr t;
          second = exp-flows gf (below_left bs b) nest body parts.second (left-toward M j parts.first t);
          third = exp-flows gg (below_right bs b) (nest_right j nest) body parts.third (right-toward M j parts.first t);
        })

    program-flows : {ds : List Definition} {g : Exp} → All (GoodDefinition formals) ds → Good formals 24 [] g → (n : ℕ)
        → Labelled M n (program_labels ds g) → Each (FlowAt d M) n (construct_from n ds g).nodes
    unfolding program_labels construct_from
    program-flows {g = g} none gg n ls =
        let sink = each-head (then-labelled M g [] 0 false _ ls) in
        each_append (n + node_count g) (ap (λ x. n + x) (nodes-length g n (n + node_count g)))
        (exp-flows gg none 0 false (here-labelled M g [] 0 false _ ls) (has-toward sink))
        (Each.more (FlowAt.publish sink.value) Each.none)
    program-flows {g = g} (more {x = x} {xs = xs} h hs) gg n ls =
        let e = x.body in
        let scope = levels x.formals in
        let rest = then-labelled M e scope 0 true _ ls in
        let sink = each-head rest in
        each_append (n + node_count e) (ap (λ m. n + m) (nodes-length e n (n + node_count e)))
        (exp-flows h.body (levels-below x.formals) 0 true (here-labelled M e scope 0 true _ ls) (has-toward sink))
        (Each.more (FlowAt.return sink.value sink.nest sink.body) (program-flows hs gg (suc (n + node_count e)) (each_tail rest)))

module _ (M : Labels) where
  goal-labelled : (n : ℕ) (ds : List Definition) (g : Exp) → Labelled M n (program_labels ds g)
      → Has M (construct_from n ds g).goal (plain [] 0 false)
  unfolding program_labels construct_from
  goal-labelled n [] g ls = root-labelled M g [] 0 false (here-labelled M g [] 0 false _ ls)
  goal-labelled n (d ∷ ds) g ls =
      goal-labelled (suc (n + node_count d.body)) ds g (each_tail (then-labelled M d.body (levels d.formals) 0 true _ ls))

  body-labelled : (n : ℕ) (ds : List Definition) (g : Exp) → Labelled M n (program_labels ds g) → (e : ℕ) → e < length ds
      → Has M (get_or (construct_from n ds g).bodies e (record { root = 0; formals = 0 })).root
      (plain (levels (get_or (formals_of ds) e 0)) 0 true)
  unfolding program_labels construct_from
  body-labelled n [] g ls e l = absurd (omega arith)
  body-labelled n (d ∷ ds) g ls zero l =
      let scope = levels d.formals in root-labelled M d.body scope 0 true (here-labelled M d.body scope 0 true _ ls)
  body-labelled n (d ∷ ds) g ls (suc e) l =
      let rest = then-labelled M d.body (levels d.formals) 0 true _ ls in
      body-labelled (suc (n + node_count d.body)) ds g (each_tail rest) e (omega arith)

-- a definition call enters at a body's root, with the body's formals in scope
construct-entered : (p : Program) → WellFormed p → Entered (construct p) (labels_of p) (formals_of p.definitions)
unfolding construct body_at
construct-entered p w e ps l c =
    let ds = p.definitions in
    let known : length (formals_of ds) ≡ length ds = length-map ds (λ x. x.formals) in
    let bodies : length (construct p).bodies ≡ length ds = bodies-length 0 ds p.goal in
    let few : get_or (formals_of ds) e 0 ≤ 4 = All-at (formals-few w.bodies) e 0 l in
    let h = body-labelled (labels_of p) 0 ds p.goal (labelled-whole p) e (omega arith) in
    record {
      there = omega arith;
      few = omega arith;
      scope = h.scope ∙ ap levels (sym c);
      nest = h.nest;
      body = h.body;
      value = h.value;
    }

pub construct-flows : (p : Program) → WellFormed p → Flow (construct p) (labels_of p)
unfolding construct node_at
construct-flows p w =
    let ds = p.definitions in
    let d = construct p in
    let M = labels_of p in
    let all = program-flows d M (formals_of ds) (construct-entered p w) w.bodies w.goal 0 (labelled-whole p) in
    let goal = goal-labelled M 0 ds p.goal (labelled-whole p) in
    record {
      at = λ n l. subst (λ i. FlowAt d M i (node_at d n)) (let z : 0 + n ≡ n = omega arith in z) (each_at all n Node.unknown l);
      goal-scope = goal.scope;
      goal-nest = goal.nest;
      goal-body = goal.body;
      goal-value = goal.value;
    }
