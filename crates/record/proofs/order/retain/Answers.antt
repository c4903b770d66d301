-- The part lent is the record's order, so the names that stay there are those that stay in the record. Assumes nothing.
use Prim.Native.Nat.{◌+◌, ◌-◌}
use mathlib.Core.Path.{◌≡◌, ◌∙◌}
use native.Mathlib.Omega.{arith}
use Rattle.record.proofs.OrderLaws.{count-read, count-fits, order-at, retain-put}
use Rattle.record.proofs.order.retain.Goals as goal

pub overflow_cast-w : goal.overflow_cast-w
overflow_cast-w g c = omega (arith, c.retained-n.ensures.few)

pub returns-then-count-le-TOKENS : goal.returns-then-count-le-TOKENS
returns-then-count-le-TOKENS g c = let o = g.O.Order in
    let counted = c.LENGTH-length.ensures ∙ o.counted in
    let part : c.START-start.result + c.wide-count.result - c.START-start.result ≡ c.wide-count.result = omega arith in
    let kept = rw part at c.retained-n.ensures in
    λ m h. rw part (retain-put (order-at h o.which (c.START-start.ensures ∙ o.starts) counted) _ _ _ _
    (c.wide-count.ensures ∙ count-read h.codes o.which counted) kept)

pub returns-else-count-le-TOKENS : goal.returns-else-count-le-TOKENS
returns-else-count-le-TOKENS g c = let o = g.O.Order in
    λ m h.
    let n = c.wide-count.ensures ∙ count-read h.codes o.which (c.LENGTH-length.ensures ∙ o.counted) in
    let fits = count-fits h o.which in
    absurd (omega arith)
