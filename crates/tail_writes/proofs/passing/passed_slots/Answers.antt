-- `passing::passed_slots` meets its contract: at each turn one more parameter's slot is read. Assumes nothing.
use mathlib.Core.List.{map}
use mathlib.Core.Path.{refl, ap, ◌∙◌}
use native.Mathlib.Omega.{arith}
use borrow.Author.Rules.{rules}
use Rattle.model.specs.Machine.Blank.{token_at}
use Rattle.model.specs.Machine.Step.{passed}
use Rattle.sites.proofs.LookParams.{param-holds, param-bound, params-bound}
use Rattle.record.specs.Layout.{slot_words}
use Rattle.tail_writes.proofs.PassingWords.{none_read, slot_read}
use Rattle.tail_writes.proofs.passing.passed_slots.Goals as goal

pub overflow_add-actor : goal.overflow_add-actor
overflow_add-actor c = let l = c.requires.1.inside in omega arith

pub dag_word-requires : goal.dag_word-requires
dag_word-requires c = let l = c.requires.1.inside in omega arith

pub loop-i-init : goal.loop-i-init
loop-i-init c = (c.wide-count.ensures ∙ c.dag_word.ensures, λ m h. none_read _)

pub passed-requires : goal.passed-requires
passed-requires c = let l = c.loop-i in (
  search rules,
  param-holds _ _ l.i _ _ c.requires.1 (omega (arith, l.invariant.0))
      c.dag_word-kind.ensures c.dag_word-number.ensures,
)

pub bounds-slots-i : goal.bounds-slots-i
bounds-slots-i c = let l = c.requires.1.few in omega (arith, c.loop-i.invariant.0)

pub loop-i-preserved : goal.loop-i-preserved
loop-i-preserved c = let l = c.loop-i in
    let a = c.args in (
      l.invariant.0,
      λ m h.
          let bs = (token_at m.tokens a.actor.token).binds in
          slot_read _ l.i (passed bs _) (l.invariant.1 m h) (c.passed.ensures m h)
          (param-bound _ _ l.i _ _ c.requires.1 (omega (arith, l.invariant.0))
          bs _ c.dag_word-kind.ensures c.dag_word-number.ensures refl),
    )

pub returns : goal.returns
returns c = λ m h.
    let l = c.loop-i in
    let a = c.args in
    l.invariant.1 m h
    ∙ ap (map slot_words) (params-bound _ _ l.i (token_at m.tokens a.actor.token).binds c.requires.1 (omega (arith, l.invariant.0)))
