-- The abstract program of a well-formed program's dag has the code of the program's meaning: of each body toward a return, of the goal
-- toward publish. Code and nodes follow the same recursion, and a node's label has the scope by which its variables are meant. Assumes
-- nothing.
use mathlib.Core.Path.{◌≡◌, sym, ◌∙◌, ap, ap₂, subst}
use mathlib.Core.Logic.{◌⊎◌, inl, inr}
use mathlib.Core.Bool.{Bool, true, false}
use mathlib.Core.List.{List, [], ◌∷◌, ◌++◌}
use Prim.Native.Nat.{ℕ, zero, suc, ◌+◌, ◌<◌}
use native.Mathlib.Omega.{arith}
use lib.ListN.{length, get_or, length-map}
use Rattle.job.specs.Test.{All, none, more}
use Rattle.job.specs.Site.{builtin_table, is_builtin, is_outside}
use Rattle.job.specs.Syntax.{Join, Exp, Definition, Program, formals_of, levels}
use Rattle.job.specs.WellFormed.{SiteTakes, Good, GoodDefinition, WellFormed}
use Rattle.job.specs.Node.{Node, Dag, node_at, body_at}
use Rattle.job.specs.Construct.{own, node_count, root, own_nodes, nodes_of, next_left, next_right, construct_from, construct}
use Rattle.calculus.specs.Meaning.{join_meant, exp_meant, body_meant, meaning}
use Rattle.calculus.specs.Expression as Calculus
use Rattle.job.proofs.Test.{lt-ltb, le-leb, and_both}
use Rattle.job.proofs.Size.{own-length, nodes-length}
use Rattle.job.proofs.DagHolds.{bodies-length}
use Rattle.simulation.proofs.AbstractMachine as Abstract
use Rattle.simulation.proofs.Relation.{Code}
use Rattle.simulation.proofs.Coded as Coded
use Rattle.simulation.proofs.Coded.{Bodies}
use Rattle.lockstep.proofs.Labels.{Labels, node_meant, program_of}
use Rattle.lockstep.proofs.Tails.{tails}
use Rattle.lockstep.proofs.Each.{Each, each-head, each_tail, each_left, each_right, each_three, each-own}
use Rattle.lockstep.proofs.Labelling.{Label, nest_right, own_labels, exp_labels, program_labels, labels_of}
use Rattle.lockstep.proofs.Labelling.{Has, Labelled, join-labelled, here-labelled, then-labelled, labelled-whole}

-- an expression's code from n on, toward a node of this kind
pub record Ends (G : Abstract.Program) (e : Calculus.Exp) (n : ℕ) (last : Abstract.Node) : Type 0 where
  pub sink : ℕ
  pub laid : Code G e n sink
  pub ending : G.node sink ≡ last

-- these nodes stand in the dag from n on
abbrev Laid : Dag → ℕ → List Node → Type 0
Laid d n ns = Each (λ i x. node_at d i ≡ x) n ns

-- the nodes that follow an expression's, its sink first
then-laid : (d : Dag) (e : Exp) {n : ℕ} (ns : List Node) → Laid d n (nodes_of e n (n + node_count e) ++ ns) → Laid d (n + node_count e) ns
then-laid d e {n} ns laid = let k = n + node_count e in each_right (nodes_of e n k) ns k (ap (λ m. n + m) (nodes-length e n k)) laid

site-known : {s n : ℕ} → SiteTakes s n → (is_builtin s ≡ true) ⊎ (is_outside s ≡ true)
unfolding is_builtin is_outside
site-known {s} (SiteTakes.builtin l e) = inl (lt-ltb s (length builtin_table) l)
site-known {s} (SiteTakes.outside l u f) = inr (and_both (le-leb 16 s l) (le-leb s 1023 u))

module _ (d : Dag) (M : Labels) (bodies : ℕ → Calculus.Exp) where
  abbrev G : Abstract.Program
  G = program_of d M bodies

  node-meant : {n : ℕ} {l : Label} {x : Node} → Has M n l → node_at d n ≡ x → G.node n ≡ node_meant l.scope x
  node-meant h e = ap₂ node_meant h.scope e

  -- the code of a join, from its own nodes and the code of its sides
  join-coded : (j : Join) (f g : Exp) {n k : ℕ} {e e' : Calculus.Exp} (scope : List ℕ) (nest : ℕ) (body : Bool)
      → Laid d n (own_nodes j (root f (n + own j)) (root g (n + own j + node_count f)) k)
      → Labelled M n (own_labels j scope nest body)
      → Code G e (root f (n + own j)) (next_left j n k) → Code G e' (root g (n + own j + node_count f)) (next_right j n k)
      → Code G (join_meant j e e') (root (Exp.join j f g) n) k
  unfolding own_nodes own_labels own root next_left next_right join_meant node_meant
  join-coded Join.par f g scope nest body (Each.more a ns) (Each.more h ls) c c' = Code.par (node-meant h a) c c'
  join-coded (Join.seq x) f g {n} scope nest body (Each.more a (Each.more a' ns)) (Each.more h (Each.more h' ls)) c c' =
      Code.seq c (node-meant h a) (subst (Code G _ _) (let z : n + 1 ≡ suc n = omega arith in z) c') (node-meant h' a')
  join-coded (Join.prune x) f g {n} scope nest body
      (Each.more a (Each.more a' (Each.more a'' ns))) (Each.more h (Each.more h' (Each.more h'' ls))) c c' =
      Code.prune (node-meant h a)
      (subst (Code G _ _) (let z : n + 1 ≡ suc n = omega arith in z) c) (node-meant h' a')
      (subst (Code G _ _) (let z : n + 2 ≡ suc (suc n) = omega arith in z) c') (node-meant h'' a'')

  module _ (formals : List ℕ) (counted : length formals ≡ length d.bodies) where
    exp-coded : {left : ℕ} {scope : List ℕ} {e : Exp} → Good formals left scope e → {n k : ℕ} (nest : ℕ) (body : Bool)
        → Laid d n (nodes_of e n k) → Labelled M n (exp_labels e scope nest body) → Code G (exp_meant scope e) (root e n) k
    unfolding nodes_of exp_labels exp_meant root node_meant
    exp-coded Good.stop nest body (Each.more a ns) (Each.more h ls) = Code.stop (node-meant h a)
    exp-coded (Good.site t ps) nest body (Each.more a ns) (Each.more h ls) = Code.site (site-known t) (node-meant h a)
    exp-coded (Good.call {d = e} l t ps) nest body (Each.more a ns) (Each.more h ls) =
        let known : e < length d.bodies = omega arith in Code.call known (node-meant h a)
    exp-coded (Good.join {scope = scope} {j = j} {f = f} {g = g} b gf gg) {n} {k} nest body ns ls =
        let first = n + own j in
        let second = n + own j + node_count f in
        let parts = join-labelled M j f g scope nest body ls in
        let nodes =
        each_three (own j) (node_count f)
        (own_nodes j (root f first) (root g second) k) (nodes_of f first (next_left j n k)) (nodes_of g second (next_right j n k))
        (own-length j (root f first) (root g second) k) (nodes-length f first (next_left j n k)) ns in
        join-coded j f g scope nest body nodes.first parts.first
        (exp-coded gf nest body nodes.second parts.second)
        (exp-coded gg (nest_right j nest) body nodes.third parts.third)

    -- an expression with its sink, and what follows
    ends-coded : {left : ℕ} {scope : List ℕ} {e : Exp} → Good formals left scope e
        → {n : ℕ} (body : Bool) (last : Node) (ns : List Node) (ls : List Label)
        → Laid d n (nodes_of e n (n + node_count e) ++ (last ∷ ns)) → Labelled M n (exp_labels e scope 0 body ++ ls)
        → Ends G (exp_meant scope e) (root e n) (node_meant (M.scope (n + node_count e)) last)
    ends-coded {scope = scope} {e = e} ge {n} body last ns ls laid labelled =
        let sink = n + node_count e in
        let nodes = nodes_of e n sink in
        record {
          sink = sink;
          laid = exp-coded ge 0 body (each_left nodes (last ∷ ns) laid) (here-labelled M e scope 0 body ls labelled);
          ending = ap (node_meant (M.scope sink)) (each-head (then-laid d e (last ∷ ns) laid));
        }

    goal-ends : {ds : List Definition} {g : Exp} → All (GoodDefinition formals) ds → Good formals 24 [] g → (n : ℕ)
        → Laid d n (construct_from n ds g).nodes → Labelled M n (program_labels ds g)
        → Ends G (exp_meant [] g) (construct_from n ds g).goal Abstract.Node.publish
    unfolding construct_from program_labels node_meant
    goal-ends none gg n laid ls = ends-coded gg false Node.publish [] _ laid ls
    goal-ends {g = g} (more {x = x} {xs = xs} h hs) gg n laid ls =
        let after = suc (n + node_count x.body) in
        goal-ends hs gg after
        (each_tail (then-laid d x.body (Node.return ∷ (construct_from after xs g).nodes) laid))
        (each_tail (then-labelled M x.body (levels x.formals) 0 true _ ls))

    body-ends : {ds : List Definition} (g : Exp) → All (GoodDefinition formals) ds → (n : ℕ)
        → Laid d n (construct_from n ds g).nodes → Labelled M n (program_labels ds g) → (e : ℕ) → e < length ds
        → Ends G (body_meant ds e) (get_or (construct_from n ds g).bodies e (record { root = 0; formals = 0 })).root Abstract.Node.return
    unfolding construct_from program_labels node_meant body_meant
    body-ends g none n laid ls e l = absurd (omega arith)
    body-ends g (more {x = x} {xs = xs} h hs) n laid ls zero l =
        ends-coded h.body true Node.return (construct_from (suc (n + node_count x.body)) xs g).nodes _ laid ls
    body-ends g (more {x = x} {xs = xs} h hs) n laid ls (suc e) l =
        let after = suc (n + node_count x.body) in
        body-ends g hs after
        (each_tail (then-laid d x.body (Node.return ∷ (construct_from after xs g).nodes) laid))
        (each_tail (then-labelled M x.body (levels x.formals) 0 true _ ls)) e (omega arith)

-- the abstract program of a program
abbrev pub abstract_of : Program → Abstract.Program
abstract_of p = program_of (construct p) (labels_of p) (meaning p).body

module _ (p : Program) (w : WellFormed p) where
  counted : length (formals_of p.definitions) ≡ length (construct p).bodies
  unfolding construct
  counted = length-map p.definitions (λ x. x.formals) ∙ sym (bodies-length 0 p.definitions p.goal)

  whole-laid : Laid (construct p) 0 (construct p).nodes
  unfolding node_at
  whole-laid = each-own (construct p).nodes Node.unknown

  pub goal-coded : Ends (abstract_of p) (meaning p).goal (construct p).goal Abstract.Node.publish
  unfolding construct meaning
  goal-coded =
      goal-ends (construct p) (labels_of p) (meaning p).body (formals_of p.definitions) counted
      w.bodies w.goal 0 whole-laid (labelled-whole p)

  body-laid : (e : ℕ) → e < (abstract_of p).count → Coded.Laid (abstract_of p) Abstract.Node.return ((meaning p).body e) ((abstract_of
      p).entry e)
  unfolding construct meaning body_at
  body-laid e l =
      let known : length (construct p).bodies ≡ length p.definitions = bodies-length 0 p.definitions p.goal in
      let x =
      body-ends (construct p) (labels_of p) (meaning p).body (formals_of p.definitions) counted
      p.goal w.bodies 0 whole-laid (labelled-whole p) e (omega arith) in
      record { sink = x.sink; laid = x.laid; at-sink = x.ending }

  pub bodies-coded : Bodies (abstract_of p)
  bodies-coded = record { laid = body-laid; tails = tails (construct p) (labels_of p) (meaning p).body }
