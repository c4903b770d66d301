-- `house::run_turns` meets its contract. The loop's invariant: the run is under way, and the words hold its record. Assumes nothing.
use borrow.Author.Rules.{rules}
use native.Mathlib.Omega.{arith}
use mathlib.Core.Path.{refl, ◌∙◌}
use Rattle.lines.specs.LineTold.{told}
use Rattle.lines.proofs.ShownBytes.{shows-as}
use Rattle.lines.proofs.LineParts.{text-one}
use Rattle.house.proofs.HouseLent.{lent-begins, lent-last, lent-there, lent-delivers, lent-delivers-less, lent_limit}
use Rattle.house.proofs.HouseLent.{lent-ready}
use Rattle.house.proofs.HouseLent.{lent-few, lent-ends, lent-steps, lent-steps-less}
use Rattle.house.proofs.house.run_turns.Goals as goal

pub loop-left-init : goal.loop-left-init
loop-left-init c = record {
  same_reference = refl;
  from = search rules;
  lent =
      rw (c.new-window.ensures.total, c.new-window.ensures.output)
      (lent-begins _ _ _ _ c.args.shared.now c.requires.accepted c.requires.one_callee);
}

pub overflow_sub-left : goal.overflow_sub-left
overflow_sub-left c = let inside = c.loop-left.invariant.lent.going.inside in omega arith

pub show_last-requires : goal.show_last-requires
show_last-requires c = let room = c.loop-left.invariant.lent.going.room in omega arith

pub returns-then-left-lt8 : goal.returns-then-left-lt8
returns-then-left-lt8 c =
    let shown = rw c.loop-left.invariant.from at c.show_last.ensures.shows_bytes in
    let whole =
    lent-last _ _ _ _ c.loop-left.invariant.lent _ c.count.ensures c.if-count-eq0.true c.if-left-lt8.true shown in
    search rules

pub deliver_turn-requires : goal.deliver_turn-requires
deliver_turn-requires c =
    let lent = c.loop-left.invariant.lent in
    let room = lent.going.room in
    (lent-there _ _ _ _ lent _ c.count.ensures c.if-count-eq0.true c.if-left-lt8.false, omega arith)

pub overflow_add-at : goal.overflow_add-at
overflow_add-at c =
    let inside = c.loop-left.invariant.lent.going.inside in
    let few = c.requires.accepted.1 in
    omega arith

pub loop-left-smaller-then-count-eq0 : goal.loop-left-smaller-then-count-eq0
loop-left-smaller-then-count-eq0 c =
    lent-delivers-less _ _ _ _ c.loop-left.invariant.lent _ c.count.ensures c.if-count-eq0.true c.if-left-lt8.false _
    (rw c.loop-left.invariant.from at c.deliver_turn.ensures.leaves)

pub loop-left-preserved-then-count-eq0 : goal.loop-left-preserved-then-count-eq0
loop-left-preserved-then-count-eq0 c =
    record {
      same_reference = search rules;
      from = search rules;
      lent =
          lent-delivers _ _ _ _ c.loop-left.invariant.lent _ c.count.ensures c.if-count-eq0.true c.if-left-lt8.false _
          (rw c.loop-left.invariant.from at c.deliver_turn.ensures.leaves);
    }

pub show_limit-requires : goal.show_limit-requires
show_limit-requires c = let room = c.loop-left.invariant.lent.going.room in omega arith

pub returns-then-steps-eq-STEPS : goal.returns-then-steps-eq-STEPS
returns-then-steps-eq-STEPS c =
    let shown = rw c.loop-left.invariant.from at c.show_limit.ensures.shows_bytes in
    let whole =
    lent_limit _ _ _ _ c.loop-left.invariant.lent _ c.count.ensures c.if-count-eq0.false c.if-steps-eq-STEPS.true shown in
    search rules

pub step_turn-requires : goal.step_turn-requires
step_turn-requires c =
    let lent = c.loop-left.invariant.lent in
    let room = lent.going.room in
    (lent-ready _ _ _ _ lent _ c.count.ensures c.if-count-eq0.false, omega arith)

pub show_line-requires : goal.show_line-requires
show_line-requires c =
    let lent = c.loop-left.invariant.lent in
    let room = lent.going.room in
    let few =
    lent-few _ _ _ _ lent _ c.count.ensures c.if-count-eq0.false c.if-steps-eq-STEPS.false _ _
    (rw c.loop-left.invariant.from at c.step_turn.ensures.leaves) in
    search rules

pub returns-then-step_turn : goal.returns-then-step_turn
unfolding told
returns-then-step_turn c =
    let left = rw c.loop-left.invariant.from at c.step_turn.ensures.leaves in
    let from = c.step_turn.ensures.from ∙ c.loop-left.invariant.from in
    let shown = shows-as (text-one _) (rw from at c.show_line.ensures.shows.shows_bytes) in
    let whole =
    lent-ends _ _ _ _ c.loop-left.invariant.lent _ c.count.ensures c.if-count-eq0.false c.if-steps-eq-STEPS.false _ _ left
    c.if-step_turn.true shown in
    search rules

pub overflow_add-steps : goal.overflow_add-steps
overflow_add-steps c = let few = c.loop-left.invariant.lent.going.few in omega arith

pub loop-left-smaller : goal.loop-left-smaller
loop-left-smaller c =
    lent-steps-less _ _ _ _ c.loop-left.invariant.lent _ c.count.ensures c.if-count-eq0.false c.if-steps-eq-STEPS.false _ _
    (rw c.loop-left.invariant.from at c.step_turn.ensures.leaves)
    c.if-step_turn.false

pub loop-left-preserved : goal.loop-left-preserved
loop-left-preserved c =
    record {
      same_reference = search rules;
      from = search rules;
      lent =
          lent-steps _ _ _ _ c.loop-left.invariant.lent _ c.count.ensures c.if-count-eq0.false c.if-steps-eq-STEPS.false _ _
          (rw c.loop-left.invariant.from at c.step_turn.ensures.leaves)
          c.if-step_turn.false;
    }
