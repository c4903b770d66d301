-- The construction makes as many nodes as the sizes say, with one sink for each body. Assumes nothing.
use mathlib.Core.Path.{◌≡◌}
use mathlib.Core.List.{List, [], ◌∷◌}
use Prim.Native.Nat.{ℕ, suc, ◌+◌}
use native.Mathlib.Omega.{arith}
use lib.ListN.{length, length-append}
use Rattle.job.specs.Syntax.{Exp, Definition, Program}
use Rattle.job.specs.Construct.{node_count, construct_from, construct}
use Rattle.job.proofs.Size.{nodes-length}
use Rattle.reader.specs.Definition.{definition_list_nodes}

from-length : (n : ℕ) (ds : List Definition) (g : Exp) → length (construct_from n ds g).nodes ≡ definition_list_nodes ds + (node_count g +
    1)
unfolding construct_from definition_list_nodes
from-length n [] g = simp length-append (omega (arith, nodes-length g n (n + node_count g)))
from-length n (d ∷ ds) g =
    simp length-append
    (omega (arith, nodes-length d.body n (n + node_count d.body), from-length (suc (n + node_count d.body)) ds g))

pub construct-length : (p : Program) → length (construct p).nodes ≡ definition_list_nodes p.definitions + (node_count p.goal + 1)
unfolding construct
construct-length p = from-length 0 p.definitions p.goal
