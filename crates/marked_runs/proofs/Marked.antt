-- "Twelve marked runs": `orcrun` prints what document 01 says, by computation; E() = E() what document 02 says, which proofs/Endless.antt
-- counts. Assumes nothing.
use mathlib.Core.Path.{◌≡◌, refl}
use lib.ListN.{take, drop}
use Rattle.job.specs.Test.{All, none, more}
use Rattle.model.specs.Output.Orcrun.{orcrun}
use Rattle.marked_runs.specs.Marked.{Case, marked_runs}
use Rattle.job.proofs.All.{All-append}
use Rattle.model.proofs.Run.Computing.{computing}
use Rattle.marked_runs.proofs.Endless.{loop-prints}

abbrev Prints : Case → Type 0
Prints c = orcrun c.input ≡ c.output

-- those in front of it, and the last
ten : All Prints (take 10 marked_runs)
unfolding computing
ten = more refl (more refl (more refl (more refl (more refl (more refl (more refl (more refl (more refl (more refl none)))))))))

last : All Prints (drop 11 marked_runs)
unfolding computing
last = more refl none

pub marked-runs : All (λ (c : Case). orcrun c.input ≡ c.output) marked_runs
marked-runs = All-append ten (more loop-prints last)
