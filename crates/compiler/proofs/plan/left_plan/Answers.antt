-- `plan::left_plan` meets its contract: a law for each kind of join. Assumes nothing.
use Rattle.job.specs.Entry.{is_binder}
use Rattle.entries.specs.NamedKind.{join_meant}
use Rattle.compiler.proofs.PlanLaws.{left-par, left-seq, left-prune}
use Rattle.compiler.proofs.plan.left_plan.Goals as goal

pub returns-in-Par : goal.returns-in-Par
returns-in-Par c = λ l m. rw c.in-Par.is (left-par _ l m _ _)

pub returns-in-Seq : goal.returns-in-Seq
returns-in-Seq c = λ l m. rw c.in-Seq.is (left-seq _ l m _ _)

pub bind-requires : goal.bind-requires
unfolding is_binder join_meant
bind-requires c = let h = c.requires.room (rw c.in-Prune.is) in (h, h)

pub returns-in-Prune : goal.returns-in-Prune
returns-in-Prune c = λ l m. rw c.in-Prune.is (left-prune _ l m _ _ _ (c.bind.ensures l m))
