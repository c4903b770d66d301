-- `range::sizes_in_range` meets its contract: count by count. Assumes nothing.
use mathlib.Core.Path.{ap}
use lib.Dec.{leb, ltb}
use Rattle.job.proofs.Both.{four}
use Rattle.row_rules.proofs.range.sizes_in_range.Goals as goal

pub returns : goal.returns
returns c = λ m h.
    four (ap (λ n. leb n 1000000) (c.calls_made.ensures m h))
    (ap (λ n. ltb n 64) (c.last_token.ensures m h))
    (ap (λ n. ltb n 32) (c.last_cell.ensures m h))
    (ap (λ n. leb n 2147483647) (c.clock.ensures m h))
