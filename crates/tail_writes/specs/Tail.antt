-- A node of a dag that keeps the index rules. Assumes nothing: these are definitions.
use Rattle.std.specs.Prelude.{◌≡◌, true, List, ℕ, ◌<◌, length}
use Rattle.job.specs.Node.{dag_holds}
use Rattle.job.specs.Words.{dag_of}

-- the words hold a dag that keeps the rules, and n is one of its nodes
pub record NodeInside (ws : List ℕ) (n : ℕ) : Type 0 where
  pub size : length ws ≡ 12331
  pub dag : dag_holds (dag_of ws) ≡ true
  pub inside : n < length (dag_of ws).nodes
