-- The rows of an expression's nodes: twelve words a node, and rows behind rows are those of both. Assumes nothing.
use mathlib.Core.Path.{◌≡◌, refl}
use mathlib.Core.List.{List, [], ◌∷◌, ◌++◌, append_assoc}
use Prim.Native.Nat.{ℕ, ◌*◌}
use native.Mathlib.Omega.{arith}
use lib.ListN.{length, length-append}
use Rattle.job.specs.Syntax.{Join, par, seq, prune, Exp, stop, site, call, join}
use Rattle.job.specs.Node.{Node}
use Rattle.job.specs.Construct.{own, node_count, own_nodes, nodes_of}
use Rattle.job.specs.Words.{param_words, node_words, rows_of_nodes}
use Rattle.job.proofs.Words.{param-words-length}

pub rows_append : (a b : List Node) → rows_of_nodes (a ++ b) ≡ rows_of_nodes a ++ rows_of_nodes b
unfolding rows_of_nodes
rows_append [] b = refl
rows_append (x ∷ a) b = rw (rows_append a b, append_assoc)

pub own-rows-length : (j : Join) (l r k : ℕ) → length (rows_of_nodes (own_nodes j l r k)) ≡ 12 * own j
unfolding rows_of_nodes own_nodes own node_words param_words
own-rows-length par l r k = refl
own-rows-length (seq x) l r k = refl
own-rows-length (prune x) l r k = refl

pub rows-length : (e : Exp) (n k : ℕ) → length (rows_of_nodes (nodes_of e n k)) ≡ 12 * node_count e
unfolding rows_of_nodes nodes_of node_count node_words param_words
rows-length stop n k = refl
rows-length (site s ps) n k = simp (length-append, param-words-length)
rows-length (call d ps) n k = simp (length-append, param-words-length)
rows-length (join j f g) n k = simp (rows_append, length-append, own-rows-length, rows-length f, rows-length g) (omega arith)
