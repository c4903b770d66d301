-- `shown::show_byte` meets its contract: the byte is before the part that is shown, in it, or behind it. Assumes nothing.
use Rattle.lines.proofs.ShownBytes.{placed-before, placed-inside, placed-behind}
use Rattle.lines.proofs.shown.show_byte.Goals as goal

pub returns-then-i-output : goal.returns-then-i-output
returns-then-i-output c = search placed-inside

pub returns-else-i-output : goal.returns-else-i-output
returns-else-i-output c = search placed-behind

pub returns-else-from-total : goal.returns-else-from-total
returns-else-from-total c = search placed-before
