-- `passing::passed` meets its contract: a variable's slot is read, a constant is a value. Assumes nothing.
use mathlib.Core.Path.{sym, ap, ◌∙◌}
use borrow.Author.Rules.{rules}
use Rattle.job.proofs.Number.{unsigned_signed}
use Rattle.model.specs.Machine.Blank.{token_at, slot_at}
use Rattle.record.specs.Layout.{slot_kind, slot_number, slot_words}
use Rattle.record.proofs.SlotWords.{both-of}
use Rattle.sites.proofs.LookParams.{below, slot-variable, slot-constant}
use Rattle.tail_writes.proofs.passing.passed.Goals as goal

pub bind-requires : goal.bind-requires
bind-requires c = (
  search rules,
  below c.args.kind c.args.number c.requires.1 c.if-kind-eq-VARIABLE.true c.wide.ensures,
)

pub returns-then-kind-eq-VARIABLE : goal.returns-then-kind-eq-VARIABLE
returns-then-kind-eq-VARIABLE c = λ m h.
    let a = c.args in
    let bs = (token_at m.tokens a.p).binds in
    c.bind.ensures m h
    ∙ ap slot_words (ap (slot_at bs) c.wide.ensures ∙ slot-variable bs a.kind a.number c.if-kind-eq-VARIABLE.true)

pub returns : goal.returns
returns c = λ m h.
    let a = c.args in
    let same = slot-constant (token_at m.tokens a.p).binds a.kind a.number c.if-kind-eq-VARIABLE.false in
    both-of (slot_words _) (ap slot_kind same) (sym (unsigned_signed a.number (search rules)) ∙ ap slot_number same)
