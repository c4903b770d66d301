-- `order::order_counts` meets its contract: each answer is that of the rule which decides. Assumes nothing.
use mathlib.Core.Path.{◌∙◌}
use native.Mathlib.Omega.{arith}
use Rattle.order_rules.proofs.OrderCounts.{too-many, wild-name, something-behind, counts-say}
use Rattle.order_rules.proofs.order.order_counts.Goals as goal

pub returns-then-n-gt-TOKENS : goal.returns-then-n-gt-TOKENS
returns-then-n-gt-TOKENS g c = λ m h. too-many h g.O.Order.which _ (c.wide-n.ensures ∙ c.count.ensures m h) (omega arith)

pub returns-in_err-counts : goal.returns-in_err-counts
returns-in_err-counts g c = let o = g.O.Order in
    λ m h.
    rw c.from_residual.ensures
    (wild-name h o.which _ (c.wide-n.ensures ∙ c.count.ensures m h) (c.START-start.ensures ∙ o.starts) (omega arith) _ (omega arith)
    c.in_err-counts.ensures)

pub returns-then-all_zero : goal.returns-then-all_zero
returns-then-all_zero g c = let o = g.O.Order in
    λ m h.
    counts-say h o.which _ (c.wide-n.ensures ∙ c.count.ensures m h) (c.START-start.ensures ∙ o.starts) (omega arith) _ (omega arith)
    _ c.in_ok-counts.ensures.0 c.in_ok-counts.ensures.1 _ (omega arith) c.all_zero.ensures c.if-all_zero.true

pub returns-else-all_zero : goal.returns-else-all_zero
returns-else-all_zero g c = let o = g.O.Order in
    λ m h.
    something-behind h o.which _ (c.wide-n.ensures ∙ c.count.ensures m h) (c.START-start.ensures ∙ o.starts) (omega arith) _ (omega arith)
    _ c.in_ok-counts.ensures.0 c.in_ok-counts.ensures.1 _ (omega arith) c.all_zero.ensures c.if-all_zero.false
