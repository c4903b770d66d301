-- Demand 3 on the words that `load` writes for an accepted table, whatever the array held before: all three parts, since the words decode
-- to the dag of the construction. Assumes nothing.
use mathlib.Core.Path.{◌≡◌, sym, subst}
use mathlib.Core.List.{List}
use Prim.Native.Nat.{ℕ}
use lib.ListN.{length}
use Rattle.job.specs.Syntax.{Program}
use Rattle.job.specs.Read.{read_table, accepted}
use Rattle.job.specs.Construct.{construct}
use Rattle.job.specs.Words.{array_words, dag_of, written}
use Rattle.model.specs.Run.Call.{runner}
use Rattle.model.specs.Run.Demand3.{FirstOn, MiddleOn, LastOn}
use Rattle.job.proofs.Accepted.{accepted-well-formed}
use Rattle.model.proofs.Machine.StartAccepted.{words-construct}
use Rattle.demand3.proofs.Demand3.{demand3}

module _ (table : List ℕ) (p : Program) (read : read_table table ≡ accepted p) (words : List ℕ) (sized : length words ≡ array_words) where
  same : construct p ≡ dag_of (written (construct p) words)
  same = sym (words-construct p words (accepted-well-formed table p read) sized)

  pub loaded-first : FirstOn runner p (dag_of (written (construct p) words))
  loaded-first = subst (FirstOn runner p) same (demand3.first table p read)

  pub loaded-middle : MiddleOn runner p (dag_of (written (construct p) words))
  loaded-middle = subst (MiddleOn runner p) same (demand3.middle table p read)

  pub loaded-last : LastOn runner p (dag_of (written (construct p) words))
  loaded-last = subst (LastOn runner p) same (demand3.last table p read)
