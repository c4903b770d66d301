-- `mark::mark_parents` meets its contract: the links are those of the table's rows. Assumes nothing.
use mathlib.Core.List.{map}
use mathlib.Core.Path.{◌≡◌, sym, ap, ◌∙◌}
use borrow.Author.Rules.{rules}
use lib.ListN.{get_or-map}
use Rattle.model.specs.Machine.Blank.{blank_cell, cell_at}
use Rattle.model.specs.Machine.InUse.{mark_chain}
use Rattle.model.specs.Machine.Held.{Place}
use Rattle.model.specs.declared.cell.Cell.{Cell}
use Rattle.record.specs.Layout.{place_number}
use Rattle.record.specs.LayoutDecoded.{place_from}
use Rattle.reach.proofs.MarkChain.{walk-linked}
use Rattle.reach.proofs.mark.mark_parents.Goals as goal

pub returns : goal.returns
unfolding cell_at
returns c = λ m h.
    let link = λ (t : Cell). t.parent in
    let q = place_from c.args.start in
    let marks = c.args.marks.now in
    c.mark_chain.ensures (map link m.cells) (link blank_cell)
    (λ p r k e.
    let here : r ≡ place_number (cell_at m.cells p).parent = search rules in
    here ∙ ap place_number (sym (get_or-map link m.cells p blank_cell)))
    ∙ ap (λ n. mark_chain (λ (q : Place). q) (link blank_cell) (map link m.cells) n q marks) c.requires
    ∙ walk-linked link blank_cell m.cells 32 q marks
