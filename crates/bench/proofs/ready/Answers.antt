-- `ready` meets its contract: the word that it reads is the decoded record's count. Assumes nothing.
use mathlib.Core.Path.{refl}
use Rattle.record.specs.LayoutDecoded.{machine_of}
use Rattle.bench.proofs.ready.Goals as goal

pub returns : goal.returns
unfolding machine_of
returns c = refl
