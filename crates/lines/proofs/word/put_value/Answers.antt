-- `word::put_value` meets its contract: a space, and then the value. Assumes nothing.
use borrow.Author.Rules.{rules}
use mathlib.Core.Path.{◌∙◌}
use lib.ListN.{length-set}
use mir.Facts.{to_z-of_z}
use Rattle.job.specs.Decimal.{ascii}
use Rattle.decimal.proofs.SignedDigits.{signed-few}
use Rattle.lines.specs.WordBytes.{spaced}
use Rattle.decimal.proofs.Written.{one_written, then-written, written-length}
use Rattle.lines.proofs.word.put_value.Goals as goal

pub put_signed-requires : goal.put_signed-requires
put_signed-requires c = let fits = c.ranges.v in
    let few = signed-few _ fits in
    simp (length-set, to_z-of_z fits) (search rules)

pub shape_of-buffer : goal.shape_of-buffer
shape_of-buffer c = written-length c.put_signed.ensures ∙ simp length-set

pub returns : goal.returns
unfolding ascii spaced
returns c = then-written (one_written _ _ 32) (rw (to_z-of_z c.ranges.v) at c.put_signed.ensures)
