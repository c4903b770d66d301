-- `links::binds_cell` meets its contract: the tests of the eight slots are the definition's. Assumes nothing.
use mathlib.Core.Path.{refl, ◌∙◌}
use lib.ListN.{get_or}
use borrow.Author.Rules.{rules}
use Rattle.model.specs.Machine.Blank.{empty, token_at}
use Rattle.std.proofs.Common.{tests}
use Rattle.std.proofs.lemmas.Iterator.{YieldsList-from_range}
use Rattle.std.proofs.lemmas.Iterator.Search.{any_from_yields_List}
use Rattle.acts.specs.Links.{to_cell}
use Rattle.acts.proofs.LinksBound.{cell-test, eight-slots}
use Rattle.acts.proofs.links.binds_cell.Goals as goal

pub returns : goal.returns
returns c = λ m h.
    let bs = (token_at m.tokens c.args.p).binds in
    any_from_yields_List (λ x. to_cell (get_or bs x empty)) _ _ c.any.result c.any.ensures.ran (YieldsList-from_range 0 8 8 refl refl)
    (λ x b q k. (search (rules, tests), search (rules, tests, cell-test)))
    ∙ eight-slots bs (h.shaped.binds _)
