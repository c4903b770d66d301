-- `scope::is_bound` meets its contract: no number from 8 on is bound, and the bit of another says whether it is. Assumes nothing.
use Rattle.entries.proofs.ScopeLaws.{bound-out, bound-in}
use Rattle.entries.proofs.scope.is_bound.Goals as goal

pub returns-then-x-ge-SCOPE_LIMIT : goal.returns-then-x-ge-SCOPE_LIMIT
returns-then-x-ge-SCOPE_LIMIT c = λ l m. search bound-out

pub returns : goal.returns
returns c = λ l m. search bound-in
