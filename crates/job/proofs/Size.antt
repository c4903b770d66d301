-- How many nodes a construction makes: an expression as many as its size, a program of 512 entries at most 1,022. A join makes at most
-- three nodes of its own and stands over two operands, so j joins make at most 4j + 1 nodes and take at least 2j + 1 entries. Assumes
-- nothing.
use mathlib.Core.Path.{◌≡◌, refl}
use mathlib.Core.List.{List, [], ◌∷◌, ◌++◌}
use Prim.Native.Nat.{ℕ, suc, ◌+◌, ◌*◌, ◌≤◌}
use native.Mathlib.Omega.{arith}
use lib.ListN.{length, length-append}
use Rattle.job.specs.Syntax.{Join, par, seq, prune, Exp, stop, site, call, join, Definition, Program}
use Rattle.job.specs.Encode.{encode_exp, encode_definitions, encode_entries}
use Rattle.job.specs.WellFormed.{WellFormed}
use Rattle.job.specs.Node.{Node}
use Rattle.job.specs.Construct.{own, node_count, root, own_nodes, nodes_of, next_left, next_right, construct_from, construct}

pub own-length : (j : Join) (l r k : ℕ) → length (own_nodes j l r k) ≡ own j
unfolding own_nodes own
own-length par l r k = refl
own-length (seq x) l r k = refl
own-length (prune x) l r k = refl

pub nodes-length : (e : Exp) (n k : ℕ) → length (nodes_of e n k) ≡ node_count e
unfolding nodes_of node_count
nodes-length stop n k = refl
nodes-length (site s ps) n k = refl
nodes-length (call d ps) n k = refl
nodes-length (join j f g) n k =
    let a = n + own j in
    let b = n + own j + node_count f in
    let o = own-length j (root f a) (root g b) k in
    let l = nodes-length f a (next_left j n k) in
    let r = nodes-length g b (next_right j n k) in
    simp (length-append, o, l, r)

pub nodes-append-length : (e : Exp) (n k : ℕ) (ns : List Node) → length (nodes_of e n k ++ ns) ≡ node_count e + length ns
nodes-append-length e n k ns = simp (length-append, nodes-length)

pub own-some : (j : Join) → 1 ≤ own j
unfolding own
own-some par = omega arith
own-some (seq x) = omega arith
own-some (prune x) = omega arith

pub size-some : (e : Exp) → 1 ≤ node_count e
unfolding node_count
size-some stop = omega arith
size-some (site s ps) = omega arith
size-some (call d ps) = omega arith
size-some (join j f g) = let z = size-some f in omega arith

-- how many joins an expression has
unfoldable pub joins : Exp → ℕ
joins stop = 0
joins (site s ps) = 0
joins (call d ps) = 0
joins (join j f g) = 1 + joins f + joins g

pub own-few : (j : Join) → own j ≤ 3
unfolding own
own-few par = omega arith
own-few (seq x) = omega arith
own-few (prune x) = omega arith

pub size_few : (e : Exp) → node_count e ≤ 4 * joins e + 1
unfolding node_count joins
size_few stop = omega arith
size_few (site s ps) = omega arith
size_few (call d ps) = omega arith
size_few (join j f g) = omega (arith, own-few j, size_few f, size_few g)

pub entries-many : (e : Exp) → 2 * joins e + 1 ≤ length (encode_exp e)
unfolding joins encode_exp
entries-many stop = omega arith
entries-many (site s ps) = omega arith
entries-many (call d ps) = omega arith
entries-many (join j f g) = simp length-append (omega (arith, entries-many f, entries-many g))

-- how many joins stand in definitions and a goal
unfoldable pub joins_in : List Definition → Exp → ℕ
joins_in [] g = joins g
joins_in (d ∷ ds) g = joins d.body + joins_in ds g

pub nodes-by-joins : (n : ℕ) (ds : List Definition) (g : Exp)
    → length (construct_from n ds g).nodes ≤ 4 * joins_in ds g + 2 * length ds + 2
unfolding construct_from joins_in
nodes-by-joins n [] g = simp nodes-append-length (omega (arith, size_few g))
nodes-by-joins n (d ∷ ds) g =
    let sink = n + node_count d.body in
    let rest = nodes-by-joins (suc sink) ds g in
    simp nodes-append-length (omega (arith, size_few d.body, rest))

pub entries-by-joins : (ds : List Definition) (g : Exp)
    → 2 * joins_in ds g + 2 * length ds + 1 ≤ length (encode_definitions ds ++ encode_exp g)
unfolding encode_definitions joins_in
entries-by-joins [] g = omega (arith, entries-many g)
entries-by-joins (d ∷ ds) g =
    let rest = entries-by-joins ds g in
    let split = length-append (encode_definitions ds) (encode_exp g) in
    simp length-append (omega (arith, entries-many d.body, rest, split))

-- "at most 1,022 nodes": j joins and D definitions take at least 2j + 2D + 1 of 512 entries, so j + D is at most 255
pub nodes-few : (p : Program) → WellFormed p → length (construct p).nodes ≤ 1022
unfolding construct encode_entries
nodes-few p w =
    let nodes = nodes-by-joins 0 p.definitions p.goal in
    let entries = entries-by-joins p.definitions p.goal in
    let few = w.entries in
    omega arith
