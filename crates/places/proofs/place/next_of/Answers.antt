-- `place::next_of` meets its contract. The loop's invariant: the search goes on at `p`, over the places that are left. Assumes nothing.
use mathlib.Core.Path.{◌≡◌, refl}
use borrow.Author.Rules.{rules}
use lib.ListN.{length}
use Rattle.places.proofs.PlaceSearch.{next_or, next-some, next-none, place-first, place_none, place_found, place-next}
use Rattle.places.proofs.place.next_of.Goals as goal

pub loop-init : goal.loop-init
loop-init c = search (rules, place-first)

pub returns-then-not-marks-q : goal.returns-then-not-marks-q
returns-then-not-marks-q c =
    let marks = c.args.marks.now in
    let here : c.around-q.result ≡ next_or (length marks) marks c.args.last = search (rules, place_found) in
    record { value = next-some marks _ refl _ (search rules) here; upper_bound = search rules }

pub loop-preserved : goal.loop-preserved
loop-preserved c = search (rules, place-next)

pub returns : goal.returns
returns c =
    let marks = c.args.marks.now in
    let none : length marks ≡ next_or (length marks) marks c.args.last = search (rules, place_none) in
    record { value = next-none marks _ refl _ none; upper_bound = search rules }
