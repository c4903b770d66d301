-- `under_set::under_set` meets its contract. The loop's invariant: the answer is that of a climb from `q`. Assumes nothing.
use mathlib.Core.Path.{◌∙◌}
use borrow.Author.Rules.{rules}
use Rattle.reach.proofs.UnderSet.{climb-under, climb-ends, climb-outside, climb-found, climb-on, climb-over}
use Rattle.reach.proofs.under_set.under_set.Goals as goal

pub loop-init : goal.loop-init
loop-init c = λ m h. climb-under m.cells 32 _ h.shaped.cells

pub returns-then-q-eq0 : goal.returns-then-q-eq0
returns-then-q-eq0 c = λ m h.
    let l = c.loop in
    climb-ends m.cells 32 l.counter l.q _ h.shaped.cells (l.invariant m h) (search rules)

pub returns-then-c-ge-CELLS : goal.returns-then-c-ge-CELLS
returns-then-c-ge-CELLS c = λ m h.
    let l = c.loop in
    climb-outside m.cells 32 l.counter l.q _ h.shaped.cells (l.invariant m h) (search rules) (search rules)

pub returns-then-value_kind-ne0 : goal.returns-then-value_kind-ne0
returns-then-value_kind-ne0 c = λ m h.
    let l = c.loop in
    climb-found m.cells 32 l.counter l.q _ h.shaped.cells (l.invariant m h) _ (search rules) (search rules)
    (c.value_kind.ensures m h) (search rules)

pub loop-preserved : goal.loop-preserved
loop-preserved c = λ m h.
    let l = c.loop in
    climb-on m.cells 32 l.counter l.q _ h.shaped.cells (l.invariant m h) _ (search rules) (search rules)
    (c.value_kind.ensures m h) _ (search rules)
    (c.wide-q.ensures ∙ c.parent.ensures m h)

pub returns : goal.returns
returns c = λ m h. let l = c.loop in climb-over m.cells 32 l.counter l.q _ h.shaped.cells (l.invariant m h) (search rules)
