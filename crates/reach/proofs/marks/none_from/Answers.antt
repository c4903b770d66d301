-- `marks::none_from` meets its contract: the marks are gathered from the front. Assumes nothing.
use mathlib.Core.Bool.{false, not, ◌||◌}
use mathlib.Core.Path.{◌≡◌, refl, ap, ◌∙◌}
use lib.ListN.{drop}
use borrow.Author.Rules.{rules}
use Rattle.std.specs.List.{fold}
use Rattle.std.proofs.lemmas.Fn.{fold_over, fronts, slice_gives}
use Rattle.std.proofs.lemmas.List.Sums.{fold_push}
use Rattle.std.proofs.lemmas.List.{take_rest}
use Rattle.reach.proofs.MarksEnd.{none-gathered}
use Rattle.reach.proofs.marks.none_from.Goals as goal

pub returns : goal.returns
returns c =
    let marks = drop c.args.from c.args.marks.now in
    let e : c.fold.result ≡ fold ◌||◌ false marks =
    fold_over fronts (λ y. y.now) _ (λ ys b. b ≡ fold ◌||◌ false ys) _
    (λ ys a x b f' j k. let more = fold_push ◌||◌ false ys x.now in search rules)
    _ _ _ _ (slice_gives c.iter.result) refl c.fold.ensures.ran
    ∙ ap (fold ◌||◌ false) (c.iter.ensures.rest ∙ take_rest c.args.marks.now c.args.from) in
    ap not e ∙ none-gathered false marks
