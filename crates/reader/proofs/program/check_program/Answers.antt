-- `program::check_program` meets its contract: there is a law for each way out, and the nodes are few enough for their sum to fit. Assumes
-- nothing.
use mathlib.Core.Path.{refl}
use borrow.Author.Rules.{Fits-under}
use mir.Syntax.{w64}
use Rattle.std.proofs.lemmas.Result.{err_from_is_err_and}
use Rattle.reader.proofs.ProgramLaws.{program-refused, goal-refused, end-refused, calls-refused, all-few, sum-few, program-done}
use Rattle.reader.proofs.program.check_program.Goals as goal

pub returns-in_err-found-clause-value : goal.returns-in_err-found-clause-value
returns-in_err-found-clause-value c =
    let p = err_from_is_err_and c.from_residual.result c.from_residual.ensures.1 in
    rw (p.1, p.2) (program-refused _ _ _ _ _ _ _ _ c.check_definitions.ensures _ c.in_err-found.was)

pub returns-in_err-goal-clause-value : goal.returns-in_err-goal-clause-value
returns-in_err-goal-clause-value c =
    let p = err_from_is_err_and c.from_residual-in_err-goal.result c.from_residual-in_err-goal.ensures.1 in
    let q = c.check_expression.ensures _ c.of_formals.ensures in
    rw (p.1, p.2) (goal-refused _ _ _ _ _ _ _ _ c.check_definitions.ensures _ c.in_ok-found.was _ q _ c.in_err-goal.was)

pub returns-in_err-check_end-clause-value : goal.returns-in_err-check_end-clause-value
returns-in_err-check_end-clause-value c =
    let p = err_from_is_err_and c.from_residual-in_err-check_end.result c.from_residual-in_err-check_end.ensures.1 in
    let q = c.check_expression.ensures _ c.of_formals.ensures in
    rw (p.1, p.2)
    (end-refused _ _ _ _ _ _ _ _ c.check_definitions.ensures _ c.in_ok-found.was _ q _ c.in_ok-goal.was _ c.check_end.ensures _
    c.in_err-check_end.was)

pub returns-in_err-check_calls-clause-value : goal.returns-in_err-check_calls-clause-value
returns-in_err-check_calls-clause-value c =
    let p = err_from_is_err_and c.from_residual-in_err-check_calls.result c.from_residual-in_err-check_calls.ensures.1 in
    let q = c.check_expression.ensures _ c.of_formals.ensures in
    rw (p.1, p.2)
    (calls-refused _ _ _ _ _ _ _ _ c.check_definitions.ensures _ c.in_ok-found.was _ q _ c.in_ok-goal.was _ c.check_end.ensures _
    c.in_ok-check_end.was refl c.requires refl _ c.check_calls.ensures _ c.in_err-check_calls.was)

pub overflow_add-result : goal.overflow_add-result
overflow_add-result c =
    let q = c.check_expression.ensures _ c.of_formals.ensures in
    Fits-under w64 _ 4096
    (sum-few _ _ _ _ _ _ _ _ c.check_definitions.ensures _ c.in_ok-found.was _ q _ c.in_ok-goal.was c.args.parts.fit.few) tt

pub overflow_add-result-2 : goal.overflow_add-result-2
overflow_add-result-2 c =
    let q = c.check_expression.ensures _ c.of_formals.ensures in
    Fits-under w64 _ 4096
    (all-few _ _ _ _ _ _ _ _ c.check_definitions.ensures _ c.in_ok-found.was _ q _ c.in_ok-goal.was c.args.parts.fit.few) tt

pub returns-clause-value : goal.returns-clause-value
returns-clause-value c =
    let q = c.check_expression.ensures _ c.of_formals.ensures in
    program-done _ _ _ _ _ _ _ _ c.check_definitions.ensures _ c.in_ok-found.was _ q _ c.in_ok-goal.was _ c.check_end.ensures _
    c.in_ok-check_end.was refl c.requires refl _ c.check_calls.ensures _ c.in_ok-check_calls.was
