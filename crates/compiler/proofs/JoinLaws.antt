-- The rows of a join's own nodes, for each kind of join. Assumes nothing.
use Prim.Native.Nat.{ℕ, ◌+◌, ◌*◌}
use mathlib.Core.Path.{◌≡◌, refl, sym, ◌∙◌}
use mathlib.Core.List.{List, [], ◌∷◌}
use native.Mathlib.Omega.{arith}
use lib.ListN.{length}
use lib.Seq.{sets}
use Rattle.job.specs.Node.{Node}
use Rattle.job.specs.Construct.{own_nodes}
use Rattle.job.specs.Words.{head_words, param_words, node_words, rows_of_nodes}
use Rattle.job.proofs.Stores.{sets-append}
use Rattle.entries.specs.NamedKind.{join_of}
use Rattle.entries.specs.declared.table_kind.JoinKind.TheVariants as joins

-- the row of one node, and of one node before others
row_last : (d d' : List ℕ) (n : ℕ) (x : Node) → d' ≡ sets d (head_words + 12 * n) (node_words x)
    → d' ≡ sets d (head_words + 12 * n) (rows_of_nodes (x ∷ []))
unfolding rows_of_nodes
row_last d d' n x e = e ∙ sym (sets-append d (head_words + 12 * n) (node_words x) [])

row-then : (d c d' : List ℕ) (n : ℕ) (x : Node) (xs : List Node) → length (node_words x) ≡ 12
    → c ≡ sets d (head_words + 12 * n) (node_words x)
    → d' ≡ sets c (head_words + 12 * (n + 1)) (rows_of_nodes xs) → d' ≡ sets d (head_words + 12 * n) (rows_of_nodes (x ∷ xs))
unfolding rows_of_nodes
row-then d c d' n x xs w e f =
    let b : head_words + 12 * (n + 1) ≡ head_words + 12 * n + length (node_words x) = omega arith in
    f ∙ rw (e, b, ← sets-append)

-- twelve words, of which the first four are these
abbrev pub words : (a b c d : ℕ) → List ℕ
words a b c d = a ∷ b ∷ c ∷ d ∷ 0 ∷ 0 ∷ 0 ∷ 0 ∷ 0 ∷ 0 ∷ 0 ∷ 0 ∷ []

module _ (x n l r k : ℕ) (d : List ℕ) where
  pub own-par : (d' : List ℕ) → d' ≡ sets d (head_words + 12 * n) (words 3 l r 0)
      → d' ≡ sets d (head_words + 12 * n) (rows_of_nodes (own_nodes (join_of joins.Par x) l r k))
  unfolding join_of own_nodes node_words param_words
  own-par d' e = row_last d d' n (Node.fork l r) e

  pub own-seq : (c d' : List ℕ) → c ≡ sets d (head_words + 12 * n) (words 4 x r 0)
      → d' ≡ sets c (head_words + 12 * (n + 1)) (words 5 x k 0)
      → d' ≡ sets d (head_words + 12 * n) (rows_of_nodes (own_nodes (join_of joins.Seq x) l r k))
  unfolding join_of own_nodes node_words param_words
  own-seq c d' e f = row-then d c d' n (Node.assign x r) _ refl e (row_last c d' (n + 1) (Node.remove x k) f)

  pub own-prune : (b c d' : List ℕ) → b ≡ sets d (head_words + 12 * n) (words 6 l r x)
      → c ≡ sets b (head_words + 12 * (n + 1)) (words 5 x k 0) → d' ≡ sets c (head_words + 12 * (n + 2)) (words 7 0 0 0)
      → d' ≡ sets d (head_words + 12 * n) (rows_of_nodes (own_nodes (join_of joins.Prune x) l r k))
  unfolding join_of own_nodes node_words param_words
  own-prune b c d' e f i =
      let z : n + 2 ≡ n + 1 + 1 = omega arith in
      row-then d b d' n (Node.where' x l r) _ refl e
      (row-then b c d' (n + 1) (Node.remove x k) _ refl f (row_last c d' (n + 1 + 1) Node.choke (rw z at i)))
