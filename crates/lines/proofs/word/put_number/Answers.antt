-- `word::put_number` meets its contract: a space, and then the number. Assumes nothing.
use borrow.Author.Rules.{rules}
use mathlib.Core.Path.{◌∙◌}
use lib.ListN.{length-set}
use Rattle.job.specs.Decimal.{ascii}
use Rattle.decimal.proofs.UnsignedDigits.{decimal-few}
use Rattle.lines.specs.WordBytes.{spaced}
use Rattle.decimal.proofs.Written.{one_written, then-written, written-length}
use Rattle.lines.proofs.word.put_number.Goals as goal

pub put_decimal-requires : goal.put_decimal-requires
put_decimal-requires c = let few = decimal-few _ c.ranges.n in simp length-set (search rules)

pub shape_of-buffer : goal.shape_of-buffer
shape_of-buffer c = written-length c.put_decimal.ensures ∙ simp length-set

pub returns : goal.returns
unfolding ascii spaced
returns c = then-written (one_written _ _ 32) c.put_decimal.ensures
