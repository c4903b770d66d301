use Rattle.places.proofs.PlaceNearest.{Nearest}
use Rattle.places.proofs.place.nearest.Given as goal

abbrev pub invariant-loop-i : goal.invariant-loop-i
invariant-loop-i l = Nearest l.marks l.first l.i l.best
