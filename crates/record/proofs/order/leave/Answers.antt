-- `order::leave` meets its contract: the array is the order's names and zeros, before and after. Assumes nothing.
use Prim.Native.Nat.{◌+◌, ◌-◌}
use mathlib.Core.Path.{◌≡◌, ◌∙◌}
use native.Mathlib.Omega.{arith}
use Rattle.record.proofs.OrderLaws.{count-read, count-fits, order-at, leave-put}
use Rattle.record.proofs.order.leave.Goals as goal
use Rattle.record.proofs.order.leave.Goals.{else-count-le-TOKENS-via-then-count-le-TOKENS+else-index-count}
use Rattle.record.proofs.order.leave.Goals.{else-count-le-TOKENS-via-else-count-le-TOKENS}

pub returns-then-index-count : goal.returns-then-index-count
returns-then-index-count g c = let o = g.O.Order in
    let counted = c.LENGTH-length.ensures ∙ o.counted in
    let part : c.START-start.result + c.wide-count.result - c.START-start.result ≡ c.wide-count.result = omega arith in
    let out = rw part at c.left_out.ensures in
    λ m h l. rw part (leave-put (order-at h o.which (c.START-start.ensures ∙ o.starts) counted) _ _ _
    (c.wide-count.ensures ∙ count-read h.codes o.which counted) (omega arith) out)

pub returns-else-count-le-TOKENS : goal.returns-else-count-le-TOKENS
returns-else-count-le-TOKENS g c = let o = g.O.Order in
    let counted = c.LENGTH-length.ensures ∙ o.counted in
    λ m h l.
    let n = c.wide-count.ensures ∙ count-read h.codes o.which counted in
    let fits = count-fits h o.which in
    elim c.else-count-le-TOKENS.branch [
      | else-count-le-TOKENS-via-then-count-le-TOKENS+else-index-count w ↦ absurd (omega (arith, w.if-index-count.false))
      | else-count-le-TOKENS-via-else-count-le-TOKENS w ↦ absurd (omega (arith, w.if-count-le-TOKENS.false))
    ]
