-- `fork::fork` meets its contract: each way out is how the definition's step ends there. Assumes nothing.
use native.Mathlib.Omega.{arith}
use Rattle.spawns.proofs.Spawning.{fork-gives, fork-refused, queue-open}
use Rattle.acts.proofs.Outcomes.{row_fits, token-inside}
use borrow.Author.Rules.{rules}
use Rattle.spawns.proofs.fork.fork.Goals as goal

pub returns-in_default-clause-gives : goal.returns-in_default-clause-gives
returns-in_default-clause-gives c = λ m a. fork-refused _ _ m a c.next_token.ensures.value
    (c.last_token.ensures m a.taking.lawful.holds.codes) _ c.in_default.is c.plain.ensures

pub dag_word-requires : goal.dag_word-requires
dag_word-requires c = let l = row_fits c.requires.is in omega arith

pub dag_word-requires-2 : goal.dag_word-requires-2
dag_word-requires-2 c = let l = row_fits c.requires.is in omega arith

pub written-requires : goal.written-requires
written-requires c = (token-inside c.requires.is.taking, search rules)

pub returns-clause-gives : goal.returns-clause-gives
returns-clause-gives c = λ m a.
    let next = c.next_token.ensures.value in
    let last = c.last_token.ensures m a.taking.lawful.holds.codes in
    fork-gives _ _ m a next last _ _ _ c.dag_word.ensures c.dag_word-2.ensures
    c.in-Some.is c.plain-2.ensures
    (c.written.ensures m a.taking.lawful.holds a.taking.queued (queue-open a.taking next last c.in-Some.is (search rules)))
