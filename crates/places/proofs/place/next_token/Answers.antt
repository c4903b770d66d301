-- `place::next_token` meets its contract: one of the next two places, or the nearest. Assumes nothing.
use Rattle.std.proofs.Common.{not, ap}
use borrow.Author.Rules.{rules}
use native.Mathlib.Omega.{arith}
use Rattle.places.proofs.PlaceSearch.{next-some, place-one, place-two}
use Rattle.places.proofs.place.next_token.Goals as goal

pub returns-then-not-slice-first : goal.returns-then-not-slice-first
returns-then-not-slice-first c = let after = c.wide in record {
  value =
      next-some _ 64 (search rules) _ (search rules)
      (place-one _ 64 (search rules) _ after.result _ after.ensures (search rules) (search rules) (ap not c.if-not-slice-first.true));
  upper_bound = search rules;
}

pub returns-then-not-slice-second : goal.returns-then-not-slice-second
returns-then-not-slice-second c = let after = c.wide in record {
  value =
      next-some _ 64 (search rules) _ (search rules)
      (place-two _ 64 (search rules) _ after.result _ after.ensures (search rules) (search rules) (ap not c.if-not-slice-first.false) _
      (search rules) (omega arith) (search rules) (ap not c.if-not-slice-second.true));
  upper_bound = search rules;
}

pub returns : goal.returns
returns c = record { value = c.nearest.ensures.value _ (cc); upper_bound = c.nearest.ensures.upper_bound }
