-- `join::put_own` meets its contract: a law for each kind of join. Assumes nothing.
use Rattle.compiler.proofs.JoinLaws.{own-par, own-seq, own-prune}
use Rattle.compiler.proofs.join.put_own.Goals as goal

pub returns-in-Par : goal.returns-in-Par
returns-in-Par c = rw c.in-Par.is (own-par _ _ _ _ _ _ _ c.put.ensures)

pub returns-in-Seq : goal.returns-in-Seq
returns-in-Seq c = rw c.in-Seq.is (own-seq _ _ _ _ _ _ _ _ c.put-in-Seq.ensures c.put-in-Seq-2.ensures)

pub returns-in-Prune : goal.returns-in-Prune
returns-in-Prune c = rw c.in-Prune.is (own-prune _ _ _ _ _ _ _ _ _ c.put-in-Prune.ensures c.put-in-Prune-2.ensures
    c.put-in-Prune-3.ensures)
