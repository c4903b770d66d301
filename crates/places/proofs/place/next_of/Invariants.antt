use mathlib.Core.Path.{◌≡◌}
use Prim.Native.Nat.{◌-◌}
use Rattle.places.proofs.PlaceSearch.{next_or, seek}
use Rattle.places.proofs.place.next_of.Given as goal

abbrev pub invariant-loop : goal.invariant-loop
invariant-loop l = next_or l.end l.marks l.last ≡ seek l.end l.marks (l.end - l.counter) l.p
