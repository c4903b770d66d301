-- The walk up by the words' numbers is the definition's; a number beyond the cells names a blank cell, which is below none. Assumes
-- nothing.
use mathlib.Core.Path.{◌≡◌, refl, sym, ap, ◌∙◌}
use Prim.Native.Nat.{◌-◌, ◌+◌}
use native.Mathlib.Omega.{arith}
use Rattle.pruning.proofs.ChokeLaws.{walk, walk-starts, walk-out, walk-root, walk-found, walk-on, walk-outside}
use Rattle.pruning.proofs.choke.is_within.Goals as goal

pub loop-init : goal.loop-init
loop-init c = λ m h. refl

pub returns-then-number-eq0 : goal.returns-then-number-eq0
returns-then-number-eq0 c = λ m q h e. walk-root m.cells _ _ _ c.if-number-eq0.true ∙ sym (c.loop.invariant m h)
    ∙ sym (walk-starts m.cells _ 32 _ q e h.shaped.cells)

pub returns-then-c-b : goal.returns-then-c-b
returns-then-c-b c = λ m q h e. walk-found m.cells _ _ _ _ (omega arith) (omega arith)
    (ap (λ n. n - 1) c.wide-b.ensures) c.if-c-b.true ∙ sym (c.loop.invariant m h)
    ∙ sym (walk-starts m.cells _ 32 _ q e h.shaped.cells)

pub returns-then-b-ge-CELLS : goal.returns-then-b-ge-CELLS
returns-then-b-ge-CELLS c = λ m q h e. walk-outside m.cells _ _ _ _ (omega arith) (omega arith)
    (ap (λ n. n - 1) c.wide-b.ensures) c.if-c-b.false (omega (arith, h.shaped.cells))
    ∙ sym (c.loop.invariant m h) ∙ sym (walk-starts m.cells _ 32 _ q e h.shaped.cells)

pub loop-preserved : goal.loop-preserved
loop-preserved c = λ m h.
    let l = c.loop in
    let left : 32 - l.counter - 1 ≡ 32 - (l.counter + 1) = omega arith in
    l.invariant m h
    ∙ walk-on m.cells _ _ _ _ _ (omega arith) (omega arith) (ap (λ n. n - 1) c.wide-b.ensures) c.if-c-b.false (c.parent-number.ensures m h)
    ∙ ap (λ n. walk m.cells c.args.c n c.parent-number.result) left

pub returns : goal.returns
returns c = λ m q h e. walk-out m.cells _ _ _ (omega (arith, c.loop-test.false)) ∙ sym (c.loop.invariant m h)
    ∙ sym (walk-starts m.cells _ 32 _ q e h.shaped.cells)
