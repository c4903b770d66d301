-- `sweep::sweep_to` meets its contract: both tables are swept, and that changes nothing of what is in use. Assumes nothing.
use mathlib.Core.Path.{◌∙◌, subst, sym}
use Rattle.model.specs.Machine.Update.{with_tables}
use Rattle.model.proofs.Keeps.Clean.{sweep-tokens, sweep-cells}
use Rattle.record.specs.Holds.{Holds}
use Rattle.reach.specs.Marks.{BlankFrom, tokens_swept}
use Rattle.sweep.proofs.SweepLaws.{tokens-swept, swept, swept-blank, reach-kept}
use Rattle.sweep.proofs.sweep.sweep_to.Goals as goal

pub returns : goal.returns
unfolding with_tables
returns c = λ m h v.
    let none : BlankFrom m c.args.end = λ i from to. v.tokens i to (c.requires.1 i from to) in
    let used = c.mark_tokens.ensures m h.codes none in
    let first = subst (Holds _) (tokens-swept m _ used) (c.keep_tokens.ensures m h v.tokens) in
    let then = c.sweep_cells.ensures (tokens_swept m) first (swept-blank m c.args.end none) v.cells in (
      subst (Holds _) (swept m _ used) then.0,
      record {
        tokens = c.copy_from_slice.ensures.after ∙ used ∙ sym (sweep-tokens m);
        cells = then.1 ∙ (reach-kept m _ used ∙ sym (sweep-cells m));
      },
    )
