-- `place::around` meets its contract, by cases. Assumes nothing.
use borrow.Author.Rules.{rules}
use Rattle.places.proofs.PlaceSearch.{around-inside, around-outside}
use Rattle.places.proofs.place.around.Goals as goal

pub returns-then-p-size : goal.returns-then-p-size
returns-then-p-size c = record { value = around-inside _ _ (search rules); upper_bound = search rules }

pub returns-else-p-size : goal.returns-else-p-size
returns-else-p-size c = record { value = around-outside _ _ (search rules); upper_bound = search rules }
