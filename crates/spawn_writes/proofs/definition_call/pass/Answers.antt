-- `definition_call::pass` meets its contract: each writer's contract, one behind the other, leads to the record of the definition. Assumes
-- nothing.
use Rattle.sites.proofs.LookParams.{below, slot-variable, slot-constant}
use Rattle.writes.proofs.Writes.{put_other, carry-slot}
use Rattle.record.specs.Layout.{slot_words}
use Rattle.record.proofs.SlotWords.{both-of}
use Rattle.job.proofs.Number.{unsigned_signed}
use Rattle.model.specs.declared.token.Token.{Token}
use Rattle.model.specs.declared.token.Slot.TheVariants as slots
use Rattle.job.specs.Number.{signed}
use Rattle.model.specs.Machine.Update.{put}
use Rattle.model.specs.Machine.Blank.{token_at, slot_at}
use mathlib.Core.Path.{refl, sym, ap, ◌∙◌}
use borrow.Author.Rules.{rules}
use Rattle.spawn_writes.proofs.definition_call.pass.Goals as goal

pub bind-slot-requires : goal.bind-slot-requires
bind-slot-requires c = (
  search rules,
  below c.args.kind c.args.number
      c.requires.3 c.if-kind-eq-VARIABLE.true c.wide-x.ensures,
)

pub returns-then-kind-eq-VARIABLE : goal.returns-then-kind-eq-VARIABLE
returns-then-kind-eq-VARIABLE c = λ m t h n.
    let a = c.args in
    let bs = (token_at m.tokens a.p).binds in
    let here = ap (λ (u : Token). slot_at u.binds a.number) (put_other m a.new a.p t n) in
    let words = c.bind-slot.ensures _ h.codes
    ∙ ap (λ i. slot_words (slot_at (token_at (put a.new t m).tokens a.p).binds i)) c.wide-x.ensures ∙ ap slot_words here in
    carry-slot m a.new a.i t
    (slot-variable bs a.kind a.number c.if-kind-eq-VARIABLE.true)
    (c.set_bind.ensures m t (slot_at bs a.number) h (sym words))

pub returns : goal.returns
returns c = λ m t h n.
    let a = c.args in
    let value = slots.Value (signed a.number) in
    carry-slot m a.new a.i t (slot-constant (token_at m.tokens a.p).binds a.kind a.number c.if-kind-eq-VARIABLE.false)
    (c.set_bind-2.ensures m t value h (both-of _ refl (unsigned_signed a.number (search rules))))
