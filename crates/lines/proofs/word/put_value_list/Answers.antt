-- `word::put_value_list` meets its contract: each value has at most 12 bytes. Assumes nothing.
use borrow.Author.Rules.{rules}
use lib.IntN.{pos}
use lib.ListN.{get_or}
use mir.Syntax.{w32}
use mir.Val.{SFits}
use mir.Facts.{to_z-of_z}
use Rattle.lines.specs.WordBytes.{all_spaced}
use Rattle.decimal.proofs.Written.{none_written}
use Rattle.lines.proofs.WordParts.{values-written}
use Rattle.lines.proofs.word.put_value_list.Goals as goal

pub loop-v-init : goal.loop-v-init
unfolding all_spaced
loop-v-init c = none_written _ _

pub loop-v-preserved : goal.loop-v-preserved
loop-v-preserved c = let values = c.args.values.now in
    let i = c.loop-v.v-index in
    let fits : SFits w32 (get_or values i (pos 0)) = search rules in
    values-written values (pos 0) _ _ _ _ _ _ i c.loop-v-test.true c.loop-v.invariant (rw (to_z-of_z fits) at c.put_value-to.ensures)
