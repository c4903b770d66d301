-- `scope::of_formals` meets its contract: the lowest bits are the formals. Assumes nothing.
use Rattle.entries.proofs.ScopeLaws.{shifted-some, formals-mean}
use Rattle.entries.proofs.scope.of_formals.Goals as goal

pub overflow_sub-result : goal.overflow_sub-result
overflow_sub-result c = search shifted-some

pub returns : goal.returns
returns c = search formals-mean
