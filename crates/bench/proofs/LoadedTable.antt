-- What `load` gives as a number of nodes, and the words of a start on its dag. Assumes nothing.
use mathlib.Core.Path.{◌≡◌, refl, sym, ap, ◌∙◌}
use mathlib.Core.List.{List}
use Prim.Native.Nat.{ℕ}
use lib.ListN.{get_or}
use Rattle.job.specs.Read.{Answer, accepted, declined}
use Rattle.job.specs.Words.{dag_of}
use Rattle.loader.specs.TableLoaded.{loaded}
use Rattle.std.specs.Prelude.{Ok, Err}
use Rattle.entries.specs.declared.refusal.Refused.{Refused}
use Rattle.entries.proofs.RefusalNumbers.{clash}
use Rattle.model.specs.Machine.Limits.{paper}
use Rattle.model.specs.Machine.Start.{start_machine}
use Rattle.record.specs.Holds.{Holds}
use Rattle.bench.specs.Timed.{answer_nodes, words_of_start}

pub count-accepted : (a : Answer) (k : ℕ) → Ok k ≡ loaded a → k ≡ answer_nodes a
unfolding loaded answer_nodes
count-accepted (accepted p) k q = cc
count-accepted (declined n e) k q = clash q

pub count-refused : (a : Answer) (x : Refused) → Err x ≡ loaded a → 0 ≡ answer_nodes a
unfolding loaded answer_nodes
count-refused (accepted p) x q = clash (sym q)
count-refused (declined n e) x q = refl

pub start-words : {dag loaded ws : List ℕ} → dag ≡ loaded → Holds ws (start_machine paper (get_or dag 2 0)) → ws ≡ words_of_start loaded
unfolding words_of_start dag_of
start-words e h = h.codes.words ∙ ap words_of_start e
