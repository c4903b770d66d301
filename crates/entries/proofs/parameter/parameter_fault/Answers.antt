-- `parameter::parameter_fault` meets its contract: there is a law for each way out of the tests. Assumes nothing.
use Rattle.std.proofs.lemmas.Result.{err_from_is_err_and}
use Rattle.entries.proofs.ParameterLaws.{param_end, param-unknown, param-constant, param-other, param_in, param-out}
use Rattle.entries.proofs.parameter.parameter_fault.Goals as goal

pub returns-then-len-at : goal.returns-then-len-at
returns-then-len-at c = λ l m. search param_end

pub returns-in_err-kind_at : goal.returns-in_err-kind_at
returns-in_err-kind_at c = λ l m.
    let p = err_from_is_err_and c.from_residual.result c.from_residual.ensures.1 in
    let h = c.in_err-kind_at.was in
    rw (p.1, p.2) (search param-unknown)

pub returns-in-Constant : goal.returns-in-Constant
returns-in-Constant c = λ l m. let h = c.in_ok-kind_at.was in search param-constant

pub returns-then-is_bound : goal.returns-then-is_bound
returns-then-is_bound c = λ l m. let h = c.in_ok-kind_at.was in let b = c.is_bound.ensures l m in search param_in

pub returns-else-is_bound : goal.returns-else-is_bound
returns-else-is_bound c = λ l m. let h = c.in_ok-kind_at.was in let b = c.is_bound.ensures l m in search param-out

pub returns-in_default : goal.returns-in_default
returns-in_default c = λ l m. let h = c.in_ok-kind_at.was in search (param-other, c.in_default.not-Constant, c.in_default.not-Variable)
