-- `marks::mark_cells` meets its contract. The loop's invariant: the cells of the tokens in use from `p` on are left. Assumes nothing.
use mathlib.Core.Bool.{false}
use mathlib.Core.Path.{◌≡◌, ◌∙◌, sym, ap}
use Prim.Native.Nat.{◌+◌}
use borrow.Author.Rules.{rules}
use native.Mathlib.Omega.{arith}
use lib.ListN.{replicate}
use Rattle.reach.proofs.UsedMarking.{cells_left, cells-first, cells-next, cells-last}
use Rattle.reach.proofs.marks.mark_cells.Goals as goal

pub loop-p-init : goal.loop-p-init
loop-p-init c = let e : c.fill.new.self ≡ replicate 32 false = search rules in λ m h. cells-first m _ _ h.shaped.cells e

pub loop-p-preserved : goal.loop-p-preserved
loop-p-preserved c = λ m h.
    let l = c.loop-p in
    let tokens = c.args.tokens.now in
    l.invariant m h
    ∙ cells-next m tokens l.p _ c.requires.0 h.shaped.tokens (search rules)
    ∙ ap (cells_left m tokens (l.p + 1)) (sym (c.mark_held.ensures m h))

pub returns : goal.returns
returns c = λ m h blank.
    let l = c.loop-p in
    let z : l.p ≡ c.args.end = search rules in
    sym (l.invariant m h ∙ cells-last m _ l.p _ c.requires.0 h.shaped.tokens (search rules) (λ i from. blank i (omega arith)))
