-- `unchecked::start` meets its contract: the words are those of a start, and one token is marked. Assumes nothing.
use Rattle.unchecked.proofs.WholeCall.{start-holds, start-tokens, start-cells}
use Rattle.unchecked.proofs.start.start.Goals as goal

pub returns : goal.returns
returns c = (start-holds _ c.start.ensures, record { tokens = start-tokens _; cells = start-cells _ })
