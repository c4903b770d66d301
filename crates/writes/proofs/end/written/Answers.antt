-- `end::written` meets its contract: each writer's contract, one behind the other, leads to the record of the definition. Assumes nothing.
use Rattle.writes.proofs.end.written.Goals as goal

pub returns : goal.returns
returns c = λ m h q. c.blank.ensures _ (c.leave.ensures m h q)
