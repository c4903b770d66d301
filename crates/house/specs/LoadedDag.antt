-- What is known of a dag that was loaded. Assumes nothing: these are definitions.
use Rattle.std.specs.Prelude.{◌≡◌, List, ℕ}
use Rattle.job.specs.Syntax.{Program}
use Rattle.job.specs.Read.{read_table, accepted}
use Rattle.job.specs.Construct.{construct}
use Rattle.job.specs.Words.{dag_of}

-- the words are those of an accepted table's dag
pub record Accepted (words : List ℕ) : Type 0 where
  pub table : List ℕ
  pub program : Program
  pub read : read_table table ≡ accepted program
  pub holds : dag_of words ≡ construct program
