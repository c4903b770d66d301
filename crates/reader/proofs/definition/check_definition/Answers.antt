-- `definition::check_definition` meets its contract: there is a law for each way out of the tests. Assumes nothing.
use borrow.Author.Rules.{Fits-under}
use mir.Syntax.{w64}
use native.Mathlib.Omega.{arith}
use Rattle.std.proofs.lemmas.Result.{err_from_is_err_and}
use Rattle.entries.proofs.ExpressionNodes.{nodes-few}
use Rattle.reader.proofs.DefinitionLaws.{definition-end, definition-unknown, definition-other, definition-row, body-refused, body-read}
use Rattle.reader.proofs.definition.check_definition.Goals as goal

pub returns-then-len-at : goal.returns-then-len-at
returns-then-len-at c = search definition-end

pub returns-in_err-kind_at : goal.returns-in_err-kind_at
returns-in_err-kind_at c =
    let p = err_from_is_err_and c.from_residual.result c.from_residual.ensures.1 in
    let h = c.in_err-kind_at.was in
    rw (p.1, p.2) (search definition-unknown)

pub returns-in_default : goal.returns-in_default
returns-in_default c = let h = c.in_ok-kind_at.was in search (definition-other, c.in_default.not-Definition)

pub returns-then-formals-gt-PARAMETER_LIMIT : goal.returns-then-formals-gt-PARAMETER_LIMIT
returns-then-formals-gt-PARAMETER_LIMIT c = let h = c.in_ok-kind_at.was in search definition-row

pub returns-in_err-body : goal.returns-in_err-body
returns-in_err-body c =
    let p = err_from_is_err_and c.from_residual-in_err-body.result c.from_residual-in_err-body.ensures.1 in
    let h = c.in_ok-kind_at.was in
    let q = c.check_expression.ensures _ c.of_formals-scope.ensures in
    let d = c.in_err-body.was in
    rw (p.1, p.2) (search body-refused)

pub overflow_add-result : goal.overflow_add-result
overflow_add-result c =
    let q = c.check_expression.ensures _ c.of_formals-scope.ensures in
    let n = nodes-few _ _ _ _ _ _ q _ c.in_ok-body.was c.args.parts.fit.few in
    Fits-under w64 _ 4096 (omega arith) tt

pub returns : goal.returns
returns c =
    let h = c.in_ok-kind_at.was in
    let q = c.check_expression.ensures _ c.of_formals-scope.ensures in
    let d = c.in_ok-body.was in
    search body-read
