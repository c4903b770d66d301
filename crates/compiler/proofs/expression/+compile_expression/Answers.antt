-- `expression::compile_expression` meets its contract: a law for each kind. It calls itself with one level of depth less. Assumes nothing.
use mathlib.Core.Path.{◌∙◌}
use native.Mathlib.Omega.{arith}
use Rattle.compiler.proofs.ExpressionHeads.{no-other, called-kind}
use Rattle.compiler.proofs.ExpressionTaking.{taken, has-kind, same-kind, is-ok, binder-room}
use Rattle.compiler.proofs.ExpressionNode.{stop-done, call-room, call-done}
use Rattle.compiler.proofs.ExpressionJoin.{own_room, accept-left, accept-right, join-done}
use Rattle.compiler.proofs.expression.+compile_expression.Goals as goal

pub unwrap-requires : goal.unwrap-requires
unwrap-requires t c = is-ok (has-kind (taken c.requires.1) _ c.kind_at.ensures)

pub unreachable-requires : goal.unreachable-requires
unreachable-requires t c =
    let e = same-kind (taken c.requires.1) _ _ c.kind_at.ensures c.unwrap.ensures in
    no-other (taken c.requires.1).head _ e c.in-Definition.is

pub returns-in-Stop : goal.returns-in-Stop
returns-in-Stop t c = λ l a.
    let e = same-kind (taken a) _ _ c.kind_at.ensures c.unwrap.ensures in
    stop-done (taken a) _ _ _ _ (e ∙ c.in-Stop.is) c.single.ensures c.put.ensures

pub put_call-requires : goal.put_call-requires
put_call-requires t c =
    let a = c.requires.1 in
    let e = same-kind (taken a) _ _ c.kind_at.ensures c.unwrap.ensures in
    (a.low, call-room (taken a) c.args.parts.bytes (called-kind e c.in-Site.is))

pub returns-in-Site : goal.returns-in-Site
returns-in-Site t c = λ l a.
    let e = same-kind (taken a) _ _ c.kind_at.ensures c.unwrap.ensures in
    call-done (taken a) c.args.parts.bytes (called-kind e c.in-Site.is) _ _ _ _ _ c.operand.ensures c.single-in-Site.ensures
    c.put_call.ensures

pub left_plan-requires-clause-room : goal.left_plan-requires-clause-room
left_plan-requires-clause-room t c =
    let a = c.requires.1 in
    let e = same-kind (taken a) _ _ c.kind_at.ensures c.unwrap.ensures in
    λ b. binder-room a _ (e ∙ c.in-Join.is) b

pub compile_expression-f-requires : goal.compile_expression-f-requires
compile_expression-f-requires t c =
    let a = c.requires.1 in
    let e = same-kind (taken a) _ _ c.kind_at.ensures c.unwrap.ensures in
    (omega (arith, c.decreases), (_, accept-left (taken a) _ (e ∙ c.in-Join.is) _ (c.left_plan.ensures _ a.means)))

pub right_plan-r-requires-clause-room : goal.right_plan-r-requires-clause-room
right_plan-r-requires-clause-room t c =
    let a = c.requires.1 in
    let e = same-kind (taken a) _ _ c.kind_at.ensures c.unwrap.ensures in
    λ b. binder-room a _ (e ∙ c.in-Join.is) b

pub compile_expression-g-requires : goal.compile_expression-g-requires
compile_expression-g-requires t c =
    let a = c.requires.1 in
    let e = same-kind (taken a) _ _ c.kind_at.ensures c.unwrap.ensures ∙ c.in-Join.is in
    let in_left = c.left_plan.ensures _ a.means in
    let given = c.compile_expression-f.ensures _ (accept-left (taken a) _ e _ in_left) in
    (omega (arith, a.deep, c.decreases), (_, accept-right (taken a) _ e _ in_left given.0 (c.right_plan-r.ensures _ a.means)))

pub put_own-requires : goal.put_own-requires
put_own-requires t c =
    let a = c.requires.1 in
    let e = same-kind (taken a) _ _ c.kind_at.ensures c.unwrap.ensures in
    own_room (taken a) _ (e ∙ c.in-Join.is)

pub returns-in-Join : goal.returns-in-Join
returns-in-Join t c = λ l a.
    let e = same-kind (taken a) _ _ c.kind_at.ensures c.unwrap.ensures ∙ c.in-Join.is in
    let in_left = c.left_plan.ensures _ a.means in
    let in_right = c.right_plan-r.ensures _ a.means in
    let first = c.compile_expression-f.ensures _ (accept-left (taken a) _ e _ in_left) in
    let second = c.compile_expression-g.ensures _ (accept-right (taken a) _ e _ in_left first.0 in_right) in
    join-done (taken a) _ e _ in_left first.0 in_right second.0 _ a.means.counted _ _ _ _ _ c.join_root.ensures
    first.1 second.1 c.put_own.ensures
