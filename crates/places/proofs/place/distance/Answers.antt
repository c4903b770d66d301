-- `place::distance` meets its contract, by cases. Assumes nothing.
use borrow.Author.Rules.{rules}
use native.Mathlib.Omega.{arith}
use Rattle.reach.proofs.MarksEnd.{byte_small}
use Rattle.places.proofs.PlaceNearest.{mark-true, mark-false}
use Rattle.places.proofs.place.distance.Goals as goal

pub overflow_mul-result : goal.overflow_mul-result
overflow_mul-result c = search (rules, byte_small c.args.used)

pub overflow_add-result-2 : goal.overflow_add-result-2
overflow_add-result-2 c = search (rules, byte_small c.args.used)

pub returns : goal.returns
returns c = record { in_use = (λ e. omega (arith, mark-true _ e)); free = (λ e. omega (arith, mark-false _ e)) }
