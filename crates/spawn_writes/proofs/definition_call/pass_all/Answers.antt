-- `definition_call::pass_all` meets its contract: each writer's contract, one behind the other, leads to the record of the definition.
-- Assumes nothing.
use Rattle.writes.proofs.Writes.{carry-binds}
use Rattle.sites.proofs.LookParams.{param-holds, param-bound, params-bound, none-bound}
use Rattle.sites.specs.Row.{params_at}
use Rattle.model.specs.Machine.Update.{with_binding}
use Rattle.model.specs.Machine.Blank.{blank_token, token_at}
use borrow.Author.Rules.{rules}
use native.Mathlib.Omega.{arith}
use mathlib.Core.Path.{refl, ◌∙◌}
use Rattle.spawn_writes.proofs.definition_call.pass_all.Goals as goal

pub overflow_add-actor : goal.overflow_add-actor
overflow_add-actor c = let l = c.requires.2.inside in omega arith

pub dag_word-requires : goal.dag_word-requires
dag_word-requires c = let l = c.requires.2.inside in omega arith

pub loop-i-init : goal.loop-i-init
loop-i-init c = let a = c.args in (
  c.wide-count.ensures ∙ c.dag_word.ensures,
  λ m h n. carry-binds m a.new blank_token
      (none-bound (token_at m.tokens a.actor.token).binds (params_at a.dag.now a.actor.row)) h,
)

pub pass-requires : goal.pass-requires
pass-requires c = let l = c.loop-i in (
  search rules,
  search rules,
  search rules,
  param-holds _ _ l.i _ _
      c.requires.2 (omega (arith, l.invariant.0))
      c.dag_word-kind.ensures c.dag_word-number.ensures,
)

pub loop-i-preserved : goal.loop-i-preserved
loop-i-preserved c = let l = c.loop-i in
    let a = c.args in (
      l.invariant.0,
      λ m h n. carry-binds m a.new blank_token
          (param-bound _ _ l.i _ _ c.requires.2 (omega (arith, l.invariant.0))
          (token_at m.tokens a.actor.token).binds _ c.dag_word-kind.ensures
          c.dag_word-number.ensures refl) (unfold with_binding in c.pass.ensures m _ (l.invariant.1 m h n) n),
    )

pub returns : goal.returns
returns c = λ m h n. let l = c.loop-i in let a = c.args in
    carry-binds m a.new blank_token
    (params-bound _ _ l.i (token_at m.tokens a.actor.token).binds c.requires.2 (omega (arith, l.invariant.0)))
    (l.invariant.1 m h n)
