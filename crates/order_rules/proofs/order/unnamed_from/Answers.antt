-- `order::unnamed_from` meets its contract: after each turn the flag says whether an order names a place before it. Assumes nothing.
use mathlib.Core.Path.{◌≡◌, sym, ◌∙◌, ap, ap₂}
use Prim.Native.Nat.{suc, ◌+◌, ◌-◌}
use native.Mathlib.Omega.{arith}
use Rattle.job.specs.Test.{◌and◌}
use Rattle.job.proofs.Both.{four_are}
use Rattle.order_rules.specs.OrderCounts.{each_from, unnamed}
use Rattle.order_rules.proofs.order.unnamed_from.Goals as goal

pub loop-i-init : goal.loop-i-init
unfolding each_from
loop-i-init c = let args = c.args in
    let z : args.from - args.from ≡ 0 = omega arith in
    rw z

pub loop-i-preserved : goal.loop-i-preserved
unfolding each_from
loop-i-preserved c = let args = c.args in
    let now = c.loop-i in
    let queue = args.counts.now.queue in
    let waits = args.counts.now.waits in
    let timers = args.counts.now.timers in
    let here : args.from + (now.i - args.from) ≡ now.i = omega arith in
    let next : now.i + 1 - args.from ≡ suc (now.i - args.from) = omega arith in
    four_are now.ok _ _ _
    ∙ ap₂ ◌and◌ now.invariant (ap (unnamed queue waits timers) (sym here))
    ∙ sym (ap (each_from (unnamed queue waits timers) args.from) next)

pub returns : goal.returns
returns c = let args = c.args in
    let last = c.loop-i in
    let e : last.i ≡ 64 = omega arith in
    let counts = args.counts.now in
    last.invariant ∙ ap (λ i. each_from (unnamed counts.queue counts.waits counts.timers) args.from (i - args.from)) e
