-- `line::put_counted` meets its contract: its parts are written one behind the other. Assumes nothing.
use native.Mathlib.Omega.{arith}
use mathlib.Core.List.{[]}
use Rattle.lines.specs.WordBytes.{all_spaced}
use Rattle.decimal.proofs.Written.{then-written, written_as}
use Rattle.lines.proofs.LineParts.{one-spaced}
use Rattle.lines.proofs.line.put_counted.Goals as goal

pub returns : goal.returns
unfolding all_spaced
returns c = let number = then-written c.put_number-to.ensures c.put_feed.ensures in
    written_as (then-written c.put_word-to.ensures number) (one-spaced _ _ []) (omega arith)
