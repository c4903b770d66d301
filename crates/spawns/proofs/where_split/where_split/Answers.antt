-- `where_split::where_split` meets its contract: each way out is how the definition's step ends there. Assumes nothing.
use Rattle.spawns.proofs.Spawning.{where-gives, where-refused, where-refused-cell, queue-open, new_apart}
use Rattle.sites.proofs.RowKinds.{where-numbers}
use Rattle.acts.proofs.Outcomes.{row, row_fits, token-inside}
use mathlib.Core.Path.{◌∙◌}
use native.Mathlib.Omega.{arith}
use borrow.Author.Rules.{rules}
use Rattle.spawns.proofs.where_split.where_split.Goals as goal

pub returns-in_default : goal.returns-in_default
returns-in_default c = λ m a. where-refused _ _ m a c.next_token.ensures.value
    (c.last_token.ensures m a.taking.lawful.holds.codes) _ c.in_default.is c.plain.ensures

pub returns-in_default-next_cell : goal.returns-in_default-next_cell
returns-in_default-next_cell c = λ m a. where-refused-cell _ _ m a c.next_token.ensures.value
    (c.last_token.ensures m a.taking.lawful.holds.codes)
    c.next_cell.ensures.value (c.last_cell.ensures m a.taking.lawful.holds.codes) _
    c.in-Some.is c.in_default-next_cell.is c.plain-in_default-next_cell.ensures

pub dag_word-requires : goal.dag_word-requires
dag_word-requires c = let l =
    row_fits c.requires.is in omega arith

pub dag_word-requires-2 : goal.dag_word-requires-2
dag_word-requires-2 c = let l =
    row_fits c.requires.is in
    omega arith

pub dag_word-requires-3 : goal.dag_word-requires-3
dag_word-requires-3 c = let l =
    row_fits c.requires.is in
    omega arith

pub written-requires : goal.written-requires
written-requires c = let l = (where-numbers _ _
    (row c.requires.is)).2 in (
      token-inside
          c.requires.is.taking,
      search rules,
      search rules,
      (let e = c.wide.ensures in
          let f = c.dag_word.ensures in omega arith),
    )

pub returns : goal.returns
returns c = λ m a.
    let next = c.next_token.ensures.value in
    let last = c.last_token.ensures m a.taking.lawful.holds.codes in
    where-gives _ _ m a next last c.next_cell.ensures.value
    (c.last_cell.ensures m a.taking.lawful.holds.codes)
    _ _ _ _
    (c.wide.ensures ∙ c.dag_word.ensures)
    c.dag_word-2.ensures c.dag_word-3.ensures c.in-Some.is c.in-Some-next_cell.is
    c.plain-2.ensures
    (c.written.ensures m a.taking.lawful.holds a.taking.queued (queue-open a.taking next last c.in-Some.is (search rules))
    (new_apart a.taking next last c.in-Some.is (search rules)))
