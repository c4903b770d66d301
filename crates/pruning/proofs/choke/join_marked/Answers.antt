-- A name that is not marked leaves the orders as they are. Assumes nothing.
use Rattle.pruning.proofs.ChokeLaws.{joins, stays_out}
use Rattle.pruning.proofs.choke.join_marked.Goals as goal

pub returns-then-is_marked : goal.returns-then-is_marked
returns-then-is_marked c = λ m h l. joins m c.args.marks.now
    c.args.name c.is_marked.result
    c.is_marked.ensures c.if-is_marked.true (c.join.ensures m h l)

pub returns-else-is_marked : goal.returns-else-is_marked
returns-else-is_marked c = λ m h l. stays_out m c.args.marks.now c.args.name
    c.is_marked.result c.is_marked.ensures c.if-is_marked.false h
