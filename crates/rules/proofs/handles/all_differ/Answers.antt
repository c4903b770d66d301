-- After i turns the flag says whether the first i numbers differ.
use Rattle.std.proofs.Common.{arith, rules}
use Rattle.job.specs.Test.{distinct}
use Rattle.job.proofs.Loop.{done}
use Rattle.rules.proofs.HandlesLaws.{differ-turn}
use Rattle.rules.proofs.handles.all_differ.Goals as goal

pub loop-i-init : goal.loop-i-init
unfolding distinct
loop-i-init c = search rules

pub loop-i-preserved : goal.loop-i-preserved
loop-i-preserved c = differ-turn c.args.list.now c.loop-i.i (omega arith) c.loop-i.invariant c.is_new-ok.ensures

pub returns : goal.returns
returns c = done distinct c.args.list.now c.loop-i.i (omega arith) c.loop-i.invariant
