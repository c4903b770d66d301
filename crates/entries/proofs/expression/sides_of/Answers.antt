-- `expression::sides_of` meets its contract: there is a law for each kind of join. Assumes nothing.
use Rattle.job.specs.Entry.{is_binder}
use Rattle.entries.specs.NamedKind.{join_meant}
use Rattle.entries.proofs.ExpressionSides.{sides-par, sides-seq, sides-prune}
use Rattle.entries.proofs.expression.sides_of.Goals as goal

pub bind-requires : goal.bind-requires
unfolding is_binder join_meant
bind-requires c = let h = c.requires (rw c.in-Seq.is) in (h, h)

pub bind-requires-in-Prune : goal.bind-requires-in-Prune
unfolding is_binder join_meant
bind-requires-in-Prune c = let h = c.requires (rw c.in-Prune.is) in (h, h)

pub returns-in-Par : goal.returns-in-Par
returns-in-Par c = λ l m. rw c.in-Par.is (sides-par _ l m)

pub returns-in-Seq : goal.returns-in-Seq
returns-in-Seq c = λ l m. rw c.in-Seq.is (sides-seq _ l m _ (c.bind.ensures l m))

pub returns-in-Prune : goal.returns-in-Prune
returns-in-Prune c = λ l m. rw c.in-Prune.is (sides-prune _ l m _ (c.bind-in-Prune.ensures l m))
