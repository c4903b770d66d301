-- `callees::is_shared` meets its contract. Assumes nothing.
use mathlib.Core.Bool.{true, false}
use native.Mathlib.Omega.{arith}
use Rattle.job.proofs.Lists.{get_d_any}
use Rattle.unchecked.proofs.callees.is_shared.Goals as goal

pub returns : goal.returns
returns c = let k = c.requires in get_d_any c.args.shared.now c.args.f false true (omega arith)
