-- `parameter::check_parameters` meets its contract. The loop's invariant: what is left decides. Assumes nothing.
use borrow.Author.Rules.{Fits-under}
use mir.Syntax.{w64}
use Rattle.std.proofs.lemmas.Result.{err_from_is_err_and}
use Rattle.entries.proofs.ParameterLaws.{params-start, params-end, params-refused, params_more, params_fit}
use Rattle.entries.proofs.parameter.check_parameters.Goals as goal

pub loop-init : goal.loop-init
loop-init c = λ l m. params-start _ _ _ _ _

pub returns-in_err-parameter_fault : goal.returns-in_err-parameter_fault
returns-in_err-parameter_fault c = λ l m.
    let p = err_from_is_err_and c.from_residual.result c.from_residual.ensures.1 in
    let h = c.in_err-parameter_fault.was in
    let g = c.loop.invariant l m in
    let f = c.parameter_fault.ensures l m in
    rw (p.1, p.2) (search params-refused)

pub overflow_add-next : goal.overflow_add-next
overflow_add-next c =
    let w = c.requires in
    let h = c.in_ok-parameter_fault.was in
    let g = c.loop.invariant w.0 w.1 in
    let f = c.parameter_fault.ensures w.0 w.1 in
    Fits-under w64 _ 4096 (search params_fit) tt

pub loop-preserved : goal.loop-preserved
loop-preserved c = λ l m.
    let h = c.in_ok-parameter_fault.was in
    let g = c.loop.invariant l m in
    let f = c.parameter_fault.ensures l m in
    search params_more

pub returns : goal.returns
returns c = λ l m. let g = c.loop.invariant l m in search params-end
