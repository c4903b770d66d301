-- `head_holds` meets its contract, kind by kind.
use Rattle.dag_rules.specs.NodeWords.{head_holds}
use Rattle.job.specs.DagKinds.{word_of_kind}
use Rattle.job.proofs.Both.{both_is, three-are}
use Rattle.dag_rules.proofs.node_words.head_holds.Goals as goal

pub returns-in-Stop : goal.returns-in-Stop
unfolding head_holds word_of_kind
returns-in-Stop c = rw c.in-Stop.is (three-are _ _ _)

pub returns-in-Site : goal.returns-in-Site
unfolding head_holds word_of_kind
returns-in-Site c = rw (c.in-Site.is, c.takes.ensures) (both_is _ _)

pub returns-in-Call : goal.returns-in-Call
unfolding head_holds word_of_kind
returns-in-Call c = rw c.in-Call.is (three-are _ _ _)

pub returns-in-Fork : goal.returns-in-Fork
unfolding head_holds word_of_kind
returns-in-Fork c = rw c.in-Fork.is (three-are _ _ _)

pub returns-in-Assign : goal.returns-in-Assign
unfolding head_holds word_of_kind
returns-in-Assign c = rw c.in-Assign.is (three-are _ _ _)

pub returns-in-Remove : goal.returns-in-Remove
unfolding head_holds word_of_kind
returns-in-Remove c = rw c.in-Remove.is (three-are _ _ _)

pub returns-in-Where : goal.returns-in-Where
unfolding head_holds word_of_kind
returns-in-Where c = rw c.in-Where.is (three-are _ _ _)

pub returns-in-Choke : goal.returns-in-Choke
unfolding head_holds word_of_kind
returns-in-Choke c = rw c.in-Choke.is (three-are _ _ _)

pub returns-in-Return : goal.returns-in-Return
unfolding head_holds word_of_kind
returns-in-Return c = rw c.in-Return.is (three-are _ _ _)

pub returns-in-Publish : goal.returns-in-Publish
unfolding head_holds word_of_kind
returns-in-Publish c = rw c.in-Publish.is (three-are _ _ _)
