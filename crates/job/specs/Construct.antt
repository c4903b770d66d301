-- "From entries to dag": the construction. Assumes nothing: these are definitions.
use Rattle.std.specs.Prelude.{List, [], ◌∷◌, ◌++◌, ℕ, suc, ◌+◌}
use Rattle.job.specs.Syntax.{Join, par, seq, prune, Exp, stop, site, call, join, Definition, Program}
use Rattle.job.specs.Node.{Node, Dag}

-- "sequence makes assign, remove; prune makes where, remove, choke": the nodes that a join makes itself
unfoldable pub own : Join → ℕ
own par = 1
own (seq x) = 2
own (prune x) = 3

-- the number of nodes of an expression
unfoldable pub node_count : Exp → ℕ
node_count stop = 1
node_count (site s ps) = 1
node_count (call d ps) = 1
node_count (join j f g) = own j + node_count f + node_count g

-- "Nodes are numbered by entry": f's nodes follow a join's own, g's follow f's
abbrev pub first_left : Join → ℕ → ℕ
first_left j n = n + own j

abbrev pub first_right : Join → Exp → ℕ → ℕ
first_right j f n = n + own j + node_count f

-- where a token enters an expression whose nodes are numbered from n: a sequence is entered at its f (docs/DECISIONS.md, "Where a sequence
-- begins")
unfoldable pub root : Exp → ℕ → ℕ
root stop n = n
root (site s ps) n = n
root (call d ps) n = n
root (join par f g) n = n
root (join (seq x) f g) n = root f (n + 2)
root (join (prune x) f g) n = n

-- "f | g: a fork to f and g, both toward next. f >x> g: f toward assign(x), then g toward remove(x), then next.
-- f <x< g: where(x); left is f toward remove(x), then next; right is g toward choke."
-- Here n is the join's first node, l and r are the roots of f and g, k is next
unfoldable pub own_nodes : Join → (l r k : ℕ) → List Node
own_nodes par l r k = Node.fork l r ∷ []
own_nodes (seq x) l r k = Node.assign x r ∷ Node.remove x k ∷ []
own_nodes (prune x) l r k = Node.where' x l r ∷ Node.remove x k ∷ Node.choke ∷ []

unfoldable pub next_left : Join → (n k : ℕ) → ℕ
next_left par n k = k
next_left (seq x) n k = n
next_left (prune x) n k = n + 1

unfoldable pub next_right : Join → (n k : ℕ) → ℕ
next_right par n k = k
next_right (seq x) n k = n + 1
next_right (prune x) n k = n + 2

-- "Compile an expression toward a next node": its nodes, numbered from n, toward k
unfoldable pub nodes_of : Exp → (n k : ℕ) → List Node
nodes_of stop n k = Node.stop ∷ []
nodes_of (site s ps) n k = Node.site s ps k ∷ []
nodes_of (call d ps) n k = Node.call d ps k ∷ []
nodes_of (join j f g) n k =
    let a = first_left j n in
    let b = first_right j f n in
    own_nodes j (root f a) (root g b) k ++ nodes_of f a (next_left j n k) ++ nodes_of g b (next_right j n k)

-- "A definition's body goes toward return, the goal toward publish"; "a body's sink follows its last entry"
unfoldable pub construct_from : ℕ → List Definition → Exp → Dag
construct_from n [] g =
    record { nodes = nodes_of g n (n + node_count g) ++ (Node.publish ∷ []); bodies = []; goal = root g n }
construct_from n (d ∷ ds) g =
    let sink = n + node_count d.body in
    let rest = construct_from (suc sink) ds g in
    record {
      nodes = nodes_of d.body n sink ++ (Node.return ∷ rest.nodes);
      bodies = record { root = root d.body n; formals = d.formals } ∷ rest.bodies;
      goal = rest.goal;
    }

unfoldable pub construct : Program → Dag
construct p = construct_from 0 p.definitions p.goal
