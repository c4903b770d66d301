-- `call::put_places` meets its contract: the words are those that were called for. Assumes nothing.
use Rattle.compiler.proofs.CallPlaces.{places-stored}
use Rattle.compiler.proofs.call.put_places.Goals as goal

pub returns : goal.returns
returns c = places-stored _ _ _ _ _ _ _ _ c.place_pair-first.ensures c.place_pair-second.ensures c.put_four.ensures
