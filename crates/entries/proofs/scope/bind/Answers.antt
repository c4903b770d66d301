-- `scope::bind` meets its contract: one bit more is one number more. Assumes nothing.
use Rattle.entries.proofs.ScopeLaws.{bind-means}
use Rattle.entries.proofs.scope.bind.Goals as goal

pub returns : goal.returns
returns c = λ l m. search bind-means
