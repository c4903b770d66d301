-- `calls::check_calls` meets its contract. The loop's invariant: the entries that are left decide. Assumes nothing.
use Rattle.std.proofs.lemmas.Result.{err_from_is_err_and}
use Rattle.reader.proofs.CallsLaws.{scan-end, scan-more, scan-refused}
use Rattle.reader.proofs.calls.check_calls.Goals as goal

pub returns-in_err-check_call : goal.returns-in_err-check_call
returns-in_err-check_call c =
    let p = err_from_is_err_and c.from_residual.result c.from_residual.ensures.1 in
    let h = c.in_err-check_call.was in
    rw (p.1, p.2) (search scan-refused)

pub loop-at-preserved : goal.loop-at-preserved
loop-at-preserved c = let h = c.in_ok-check_call.was in search scan-more

pub returns : goal.returns
returns c = search scan-end
