-- `callees::share_caller` meets its contract: by the number of the caller's place. Assumes nothing.
use Rattle.unchecked.proofs.CalleeMarks.{shared-none, shared-far, shared_at}
use Rattle.unchecked.proofs.callees.share_caller.Goals as goal

pub returns-then-f-le-TOKENS : goal.returns-then-f-le-TOKENS
returns-then-f-le-TOKENS c = λ m h. shared_at _ _ _ (c.caller-f.ensures m h)
    c.if-f-gt0.true

pub returns-else-f-le-TOKENS : goal.returns-else-f-le-TOKENS
returns-else-f-le-TOKENS c = λ m h. shared-far _ _ _ (c.caller-f.ensures m h) c.if-f-le-TOKENS.false
    (c.requires.1)

pub returns-else-f-gt0 : goal.returns-else-f-gt0
returns-else-f-gt0 c = λ m h. shared-none _ _ _ (c.caller-f.ensures m h) c.if-f-gt0.false
