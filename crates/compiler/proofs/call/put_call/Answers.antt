-- `call::put_call` meets its contract: the first four words, and the places by twos. Assumes nothing.
use Rattle.compiler.proofs.CallPlaces.{call-stored}
use Rattle.compiler.proofs.call.put_call.Goals as goal

pub returns : goal.returns
returns c = call-stored _ _ _ _ _ _ _ _ _ _ c.operand-head.ensures c.put_four.ensures c.put_places.ensures
    c.put_places-2.ensures
