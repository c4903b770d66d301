-- `marks::mark_tokens` meets its contract. The loop's invariant: the chains from the active tokens from `p` on are left. Assumes nothing.
use mathlib.Core.Bool.{false}
use mathlib.Core.Path.{◌≡◌, ◌∙◌, sym, ap}
use borrow.Author.Rules.{rules}
use native.Mathlib.Omega.{arith}
use lib.ListN.{replicate}
use Rattle.reach.proofs.UsedMarking.{callers_left, callers-first, callers-next, callers-last}
use Rattle.reach.proofs.marks.mark_tokens.Goals as goal

pub loop-p-init : goal.loop-p-init
loop-p-init c = let e : c.fill.new.self ≡ replicate 64 false = search rules in λ m h. callers-first m _ h.shaped.tokens e

pub loop-p-preserved : goal.loop-p-preserved
loop-p-preserved c = λ m h.
    let l = c.loop-p in
    l.invariant m h ∙ callers-next m l.p _ h.shaped.tokens (search rules) ∙ ap (callers_left m _) (sym (c.mark_active.ensures m h))

pub returns : goal.returns
returns c = λ m h blank.
    let l = c.loop-p in
    let z : l.p ≡ c.args.end = search rules in
    sym (l.invariant m h ∙ callers-last m l.p _ h.shaped.tokens (search rules) (λ i from. blank i (omega arith)))
