-- `order::counted` meets its contract: after i turns each place is counted in the first i names. Assumes nothing.
use mathlib.Core.Path.{refl, sym, ◌∙◌, ap}
use Prim.Native.Nat.{◌<◌}
use native.Mathlib.Omega.{arith}
use lib.ListN.{length-set, get_or-replicate}
use borrow.Author.Count.{below_more}
use Rattle.std.proofs.lemmas.List.{take_all}
use Rattle.job.specs.Test.{occurrences}
use Rattle.order_rules.proofs.OrderCounts.{count-few, none-counted, count_turn, wild, tame}
use Rattle.order_rules.proofs.order.counted.Goals as goal

pub loop-name-init : goal.loop-name-init
unfolding occurrences
loop-name-init c = (refl, none-counted, λ j l. absurd (omega arith), λ p l. get_or-replicate 64 p 0 0 l)

pub returns-then-name-ge-TOKEN_PLACE_COUNT : goal.returns-then-name-ge-TOKEN_PLACE_COUNT
returns-then-name-ge-TOKEN_PLACE_COUNT c = wild c.args.names.now c.loop-name.name-index (omega arith) (omega arith)

pub loop-name-preserved : goal.loop-name-preserved
loop-name-preserved c = let now = c.loop-name in
    let names = c.args.names.now in
    let p = c.wide.result in
    let small : p < 64 = omega arith in (
      length-set now.counts _ _ ∙ now.invariant.0,
      count-few now.counts now.name-index p now.invariant.0 small now.invariant.1,
      below_more _ _ now.invariant.2 c.if-name-ge-TOKEN_PLACE_COUNT.false,
      count_turn names now.counts now.name-index now.invariant.0 (omega arith) now.invariant.3 p small (sym c.wide.ensures),
    )

pub returns : goal.returns
returns c = let last = c.loop-name in
    let names = c.args.names.now in (
      tame names (λ i l. last.invariant.2 i (omega arith)),
      λ p l. last.invariant.3 p l ∙ ap (occurrences p) (take_all last.name-index names (omega arith)),
    )
