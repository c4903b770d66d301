-- `order::join` meets its contract: the array is the order's names and zeros, before and after. Assumes nothing.
use mathlib.Core.Path.{◌∙◌}
use native.Mathlib.Omega.{arith}
use Rattle.record.proofs.OrderLaws.{count-read, joined-put}
use Rattle.record.proofs.order.join.Goals as goal

pub returns-then-n-lt-TOKENS : goal.returns-then-n-lt-TOKENS
returns-then-n-lt-TOKENS g c = let o = g.O.Order in
    let counted = c.LENGTH-length.ensures ∙ o.counted in
    λ m h l.
    joined-put h o.which (c.START.ensures ∙ o.starts) counted _ _
    (c.wide-n.ensures ∙ count-read h.codes o.which counted) (omega arith)

pub returns-else-n-lt-TOKENS : goal.returns-else-n-lt-TOKENS
returns-else-n-lt-TOKENS g c = let o = g.O.Order in
    λ m h l. absurd (omega (arith, count-read h.codes o.which (c.LENGTH-length.ensures ∙ o.counted), c.wide-n.ensures))
