-- Demand 3, whole: the record of specs/Run/Demand3.antt, one term without parameter or premise. Assumes nothing.
use Rattle.model.specs.Run.Demand3.{Demand3}
use Rattle.lockstep.proofs.First.{runs-are-allowed}
use Rattle.demand3.proofs.Middle.{allowed-lists-are-shown}
use Rattle.model.proofs.Run.Last.{house-order-is-fair}

pub demand3 : Demand3
demand3 = record { first = runs-are-allowed; middle = allowed-lists-are-shown; last = house-order-is-fair }
