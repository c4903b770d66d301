-- `order::count` meets its contract: the word that it reads is the count. Assumes nothing.
use mathlib.Core.Path.{◌∙◌}
use Rattle.record.proofs.OrderLaws.{count-read}
use Rattle.record.proofs.order.count.Goals as goal

pub returns : goal.returns
returns g c = let o = g.O.Order in λ m h. count-read h o.which (c.LENGTH.ensures ∙ o.counted)
