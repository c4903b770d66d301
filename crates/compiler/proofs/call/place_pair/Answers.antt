-- `call::place_pair` meets its contract: by whether the parameter is there. Assumes nothing.
use mathlib.Core.Path.{refl}
use Rattle.compiler.proofs.CallPlaces.{pair-there, pair-absent}
use Rattle.compiler.proofs.call.place_pair.Goals as goal

pub returns-then-i-count : goal.returns-then-i-count
returns-then-i-count c = pair-there _ _ _ _ _ _ _ c.if-i-count.true refl c.operand.ensures

pub returns-else-i-count : goal.returns-else-i-count
returns-else-i-count c = pair-absent _ _ _ _ _ c.if-i-count.false
