-- `order::place_at` meets its contract: the word that it reads is the name. Assumes nothing.
use borrow.Author.Rules.{rules}
use mathlib.Core.Path.{◌∙◌}
use Rattle.record.proofs.OrderLaws.{name-read}
use Rattle.record.proofs.order.place_at.Goals as goal

pub returns : goal.returns
returns g c = let o = g.O.Order in λ m h. name-read h o.which (c.START.ensures ∙ o.starts) _ (search rules)
