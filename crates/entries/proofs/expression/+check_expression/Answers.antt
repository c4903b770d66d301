-- `expression::check_expression` meets its contract: there is a law for each way out, the depth left falls, and the nodes of a
-- table of 512 entries are few enough for their sums to fit. Assumes nothing.
use borrow.Author.Rules.{Fits-under}
use mir.Syntax.{w64}
use Prim.Native.Nat.{◌≤◌}
use native.Mathlib.Omega.{arith}
use Rattle.std.proofs.lemmas.Result.{err_from_is_err_and}
use Rattle.entries.proofs.ExpressionNodes.{nodes-few}
use Rattle.entries.proofs.ExpressionLaws.{exp-end, exp-unknown, exp-fault, exp-stop, call-refused, call-read, no-other, binder-room, depth-left, own-fits}
use Rattle.entries.proofs.ExpressionLaws.{left-refused, right-refused, join-read}
use Rattle.entries.proofs.expression.+check_expression.Goals as goal

pub returns-then-len-at : goal.returns-then-len-at
returns-then-len-at t c = λ l m. search exp-end

pub returns-in_err-kind : goal.returns-in_err-kind
returns-in_err-kind t c = λ l m.
    let p = err_from_is_err_and c.from_residual.result c.from_residual.ensures.1 in
    let h = c.in_err-kind.was in
    rw (p.1, p.2) (search exp-unknown)

pub returns-in_err-fault : goal.returns-in_err-fault
returns-in_err-fault t c = λ l m.
    let p = err_from_is_err_and c.from_residual-in_err-fault.result c.from_residual-in_err-fault.ensures.1 in
    let h = c.in_ok-kind.was in
    let f = c.fault.ensures l m in
    let g = c.in_err-fault.was in
    rw (p.1, p.2) (search exp-fault)

pub returns-in-Stop : goal.returns-in-Stop
returns-in-Stop t c = λ l m. let h = c.in_ok-kind.was in let f = c.fault.ensures l m in let g = c.in_ok-fault.was in
    search exp-stop

pub returns-in_err-next-in-Site : goal.returns-in_err-next-in-Site
returns-in_err-next-in-Site t c = λ l m.
    let p = err_from_is_err_and c.from_residual-in_err-next-in-Site.result c.from_residual-in_err-next-in-Site.ensures.1 in
    let h = c.in_ok-kind.was in
    let f = c.fault.ensures l m in
    let g = c.in_ok-fault.was in
    let q = c.check_parameters.ensures l m in
    let d = c.in_err-next-in-Site.was in
    rw (p.1, p.2) (search call-refused)

pub returns-in_ok-next-in-Site : goal.returns-in_ok-next-in-Site
returns-in_ok-next-in-Site t c = λ l m.
    let h = c.in_ok-kind.was in
    let f = c.fault.ensures l m in
    let g = c.in_ok-fault.was in
    let q = c.check_parameters.ensures l m in
    let d = c.in_ok-next-in-Site.was in
    search call-read

pub unreachable-requires : goal.unreachable-requires
unreachable-requires t c =
    let w = c.requires in
    let h = c.in_ok-kind.was in
    let f = c.fault.ensures w.0 w.1 in
    let g = c.in_ok-fault.was in
    search no-other

pub sides_of-sides-requires : goal.sides_of-sides-requires
sides_of-sides-requires t c =
    let w = c.requires in
    let h = c.in_ok-kind.was in
    let f = c.fault.ensures w.0 w.1 in
    let g = c.in_ok-fault.was in
    let n = w.1.counted in
    λ b. search binder-room

pub overflow_sub-left : goal.overflow_sub-left
overflow_sub-left t c =
    let w = c.requires in
    let h = c.in_ok-kind.was in
    let f = c.fault.ensures w.0 w.1 in
    let g = c.in_ok-fault.was in
    search depth-left

pub check_expression-requires : goal.check_expression-requires
check_expression-requires t c =
    let w = c.requires in
    let h = c.in_ok-kind.was in
    let f = c.fault.ensures w.0 w.1 in
    let g = c.in_ok-fault.was in
    let d : 1 ≤ c.args.left = search depth-left in
    (omega (arith, c.decreases), (_, (c.sides_of-sides.ensures w.0 w.1).left))

pub returns-in_err-first-in-Join : goal.returns-in_err-first-in-Join
returns-in_err-first-in-Join t c = λ l m.
    let p = err_from_is_err_and c.from_residual-in_err-first-in-Join.result c.from_residual-in_err-first-in-Join.ensures.1 in
    let h = c.in_ok-kind.was in
    let f = c.fault.ensures l m in
    let g = c.in_ok-fault.was in
    let j = c.sides_of-sides.ensures l m in
    let q = c.check_expression.ensures _ j.left in
    let d = c.in_err-first-in-Join.was in
    rw (p.1, p.2) (search left-refused)

pub overflow_sub-left-in-Join : goal.overflow_sub-left-in-Join
overflow_sub-left-in-Join t c =
    let w = c.requires in
    let h = c.in_ok-kind.was in
    let f = c.fault.ensures w.0 w.1 in
    let g = c.in_ok-fault.was in
    search depth-left

pub check_expression-requires-in-Join : goal.check_expression-requires-in-Join
check_expression-requires-in-Join t c =
    let w = c.requires in
    let h = c.in_ok-kind.was in
    let f = c.fault.ensures w.0 w.1 in
    let g = c.in_ok-fault.was in
    let d : 1 ≤ c.args.left = search depth-left in
    (omega (arith, c.decreases), (_, (c.sides_of-sides.ensures w.0 w.1).right))

pub returns-in_err-second-in-Join : goal.returns-in_err-second-in-Join
returns-in_err-second-in-Join t c = λ l m.
    let p = err_from_is_err_and c.from_residual-in_err-second-in-Join.result c.from_residual-in_err-second-in-Join.ensures.1 in
    let h = c.in_ok-kind.was in
    let f = c.fault.ensures l m in
    let g = c.in_ok-fault.was in
    let j = c.sides_of-sides.ensures l m in
    let q = c.check_expression.ensures _ j.left in
    let d = c.in_ok-first-in-Join.was in
    let r = c.check_expression-in-Join.ensures _ j.right in
    let k = c.in_err-second-in-Join.was in
    rw (p.1, p.2) (search right-refused)

pub overflow_add-result-in-Join : goal.overflow_add-result-in-Join
overflow_add-result-in-Join t c =
    let w = c.requires in
    let j = c.sides_of-sides.ensures w.0 w.1 in
    let a = own-fits _ _ _ j in
    let b = nodes-few _ _ _ _ _ _ (c.check_expression.ensures _ j.left) _ c.in_ok-first-in-Join.was c.args.parts.fit.few in
    Fits-under w64 _ 4096 (omega arith) tt

pub overflow_add-result-in-Join-2 : goal.overflow_add-result-in-Join-2
overflow_add-result-in-Join-2 t c =
    let w = c.requires in
    let j = c.sides_of-sides.ensures w.0 w.1 in
    let few = c.args.parts.fit.few in
    let a = own-fits _ _ _ j in
    let b = nodes-few _ _ _ _ _ _ (c.check_expression.ensures _ j.left) _ c.in_ok-first-in-Join.was few in
    let d = nodes-few _ _ _ _ _ _ (c.check_expression-in-Join.ensures _ j.right) _ c.in_ok-second-in-Join.was few in
    Fits-under w64 _ 4096 (omega arith) tt

pub returns-in_ok-second-in-Join : goal.returns-in_ok-second-in-Join
returns-in_ok-second-in-Join t c = λ l m.
    let h = c.in_ok-kind.was in
    let f = c.fault.ensures l m in
    let g = c.in_ok-fault.was in
    let j = c.sides_of-sides.ensures l m in
    let q = c.check_expression.ensures _ j.left in
    let d = c.in_ok-first-in-Join.was in
    let r = c.check_expression-in-Join.ensures _ j.right in
    let k = c.in_ok-second-in-Join.was in
    search join-read
