-- `definition_call::definition_call` meets its contract: each way out is how the definition's step ends there. Assumes nothing.
use Rattle.spawns.proofs.Spawning.{call-gives, call-refused, new_apart, new-blank}
use Rattle.sites.proofs.RowKinds.{call-root, call-params}
use Rattle.acts.proofs.Outcomes.{row, row_fits, token-inside}
use mathlib.Core.Path.{◌∙◌}
use native.Mathlib.Omega.{arith}
use borrow.Author.Rules.{rules}
use Rattle.spawns.proofs.definition_call.definition_call.Goals as goal

pub returns-in_default-clause-gives : goal.returns-in_default-clause-gives
returns-in_default-clause-gives c = λ m a is. call-refused _ _ m a is c.next_token.ensures.value
    (c.last_token.ensures m a.taking.lawful.holds.codes) _ c.in_default.is c.plain.ensures

pub dag_word-requires : goal.dag_word-requires
dag_word-requires c = let l = row_fits c.requires.is in omega arith

pub overflow_mul-body : goal.overflow_mul-body
overflow_mul-body c = let b = (call-root _ _ _ (row c.requires.is)
    (c.wide-body.ensures ∙ c.dag_word.ensures)).0 in omega arith

pub overflow_add-body : goal.overflow_add-body
overflow_add-body c = let b = (call-root _ _ _ (row c.requires.is)
    (c.wide-body.ensures ∙ c.dag_word.ensures)).0 in omega arith

pub dag_word-root-requires : goal.dag_word-root-requires
dag_word-root-requires c = let b = (call-root _ _ _ (row c.requires.is)
    (c.wide-body.ensures ∙ c.dag_word.ensures)).0 in omega arith

pub dag_word-requires-2 : goal.dag_word-requires-2
dag_word-requires-2 c = let l = row_fits c.requires.is in
    omega arith

pub written-requires : goal.written-requires
written-requires c = (
  token-inside c.requires.is.taking,
  search rules,
  call-params _ _ (row c.requires.is),
)

pub returns-clause-gives : goal.returns-clause-gives
returns-clause-gives c = λ m a is.
    let next = c.next_token.ensures.value in
    let last = c.last_token.ensures m
    a.taking.lawful.holds.codes in
    let body = call-root _ _ _ (row a)
    (c.wide-body.ensures ∙ c.dag_word.ensures) in
    call-gives _ _ m a is next last _ _ _ (c.dag_word-root.ensures ∙ body.2)
    c.dag_word-2.ensures c.in-Some.is c.plain-2.ensures
    (c.written.ensures m a.taking.lawful.holds a.taking.queued (new_apart a.taking next last c.in-Some.is (search rules))
    (new-blank a.taking next last c.in-Some.is (search rules)))
