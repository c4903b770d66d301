-- `place::nearest` meets its contract. The loop's invariant: `best` is the distance of the nearest of the places looked at. Assumes
-- nothing.
use borrow.Author.Rules.{rules}
use Rattle.places.proofs.PlaceNearest.{nearest-none, nearest-taken, nearest-passed, nearest-full, nearest-place}
use Rattle.places.proofs.place.nearest.Goals as goal
use Rattle.places.proofs.place.nearest.Goals.{then-d-best, else-d-best}

pub loop-i-init : goal.loop-i-init
loop-i-init c = search (rules, nearest-none)

pub loop-i-preserved : goal.loop-i-preserved
loop-i-preserved c = let turn = c.loop-i.invariant in
    let said = c.distance-d.ensures in
    elim c.if-d-best.branch [
      | then-d-best h ↦
          nearest-taken _ (search rules) _ _ _ (search rules) turn (search rules) _ _ said.in_use said.free h.if-d-best.true h.best-is
      | else-d-best h ↦
          nearest-passed _ (search rules) _ _ _ (search rules) turn (search rules) _ _ said.in_use said.free h.if-d-best.false h.best-is
    ]

pub returns-then-best-eq64 : goal.returns-then-best-eq64
returns-then-best-eq64 c = record {
  value = λ last e.
      nearest-full _ (search rules) _ _ _ (search rules) c.loop-i.invariant (search rules) last e c.if-best-eq64.true;
  upper_bound = search rules;
}

pub returns : goal.returns
returns c = record {
  value = λ last e.
      nearest-place _ (search rules) _ _ _ (search rules) c.loop-i.invariant (search rules) last e c.if-best-eq64.false;
  upper_bound = search rules;
}
