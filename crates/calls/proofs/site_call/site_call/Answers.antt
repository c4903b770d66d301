-- `site_call::site_call` meets its contract: each way out is how the definition's step ends there. Assumes nothing.
use Rattle.calls.proofs.SiteCall.{wait-gives, waits-at, values_of}
use Rattle.acts.proofs.Outcomes.{row, row_fits, token-inside}
use Rattle.sites.proofs.LookLaws.{look-waits}
use Rattle.sites.proofs.RuleFacts.{look-facts, waits-room}
use Rattle.sites.proofs.RowKinds.{site-params}
use mathlib.Core.Path.{◌∙◌}
use native.Mathlib.Omega.{arith}
use Rattle.calls.proofs.site_call.site_call.Goals as goal

pub look_up-requires : goal.look_up-requires
look_up-requires c = (token-inside c.requires.is.taking, site-params _ _ (row c.requires.is))

pub wait-requires : goal.wait-requires
wait-requires c = token-inside c.requires.is.taking

pub returns-in-Err : goal.returns-in-Err
returns-in-Err c = λ m a.
    let facts = look-facts _ m a.taking.lawful.rules _ (token-inside a.taking) in
    let found = look-waits _ (c.look_up.ensures m a.taking.lawful.holds.codes facts) _ c.in-Err.is in
    wait-gives a.taking _ _ (waits-at _ _ m a _ found) c.plain.ensures
    (c.wait.ensures m a.taking.lawful.holds a.taking.queued
    (waits-room _ m a.taking.lawful.rules _ a.taking.queued))

pub dag_word-requires : goal.dag_word-requires
dag_word-requires c = let l = row_fits c.requires.is in omega arith

pub built_in-requires : goal.built_in-requires
built_in-requires c = let a = c.requires.is in
    let facts = look-facts _ _ a.taking.lawful.rules _ (token-inside a.taking) in (
      record {
        machine = c.requires.machine;
        is = values_of a
            (c.look_up.ensures _ a.taking.lawful.holds.codes facts)
            c.in-Ok.is;
      },
      c.in-Ok-try_from.ensures ∙ c.dag_word.ensures,
    )

pub returns-in-Ok-try_from : goal.returns-in-Ok-try_from
returns-in-Ok-try_from c = λ m a.
    let facts = look-facts _ m a.taking.lawful.rules _ (token-inside a.taking) in
    c.built_in.ensures m
    (values_of a
    (c.look_up.ensures m a.taking.lawful.holds.codes facts)
    c.in-Ok.is)

pub outside-requires : goal.outside-requires
outside-requires c = let a = c.requires.is in
    let facts = look-facts _ _ a.taking.lawful.rules _ (token-inside a.taking) in
    record {
      machine = c.requires.machine;
      is = values_of a
          (c.look_up.ensures _ a.taking.lawful.holds.codes facts)
          c.in-Ok.is;
    }

pub returns-in-Err-try_from : goal.returns-in-Err-try_from
returns-in-Err-try_from c = λ m a.
    let facts = look-facts _ m a.taking.lawful.rules _ (token-inside a.taking) in
    c.outside.ensures m
    (values_of a
    (c.look_up.ensures m a.taking.lawful.holds.codes facts)
    c.in-Ok.is)
    (omega (arith, c.in-Err-try_from.ensures, c.dag_word.ensures))
