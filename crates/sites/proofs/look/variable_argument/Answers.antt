-- A variable's words say what it is bound to; a bound cell is a cell of the table. By the kind of the slot, which its words give. Assumes
-- nothing.
use mathlib.Core.Path.{ap, ◌∙◌}
use borrow.Author.Rules.{rules}
use mir.Syntax.{w32}
use mir.Val.{SFits}
use mir.Facts.{to_z-of_z}
use Rattle.record.proofs.SlotWords.{kind-of, number-of}
use Rattle.sites.proofs.LookLaws.{variable-value, variable-cell}
use Rattle.std.specs.Prelude.{Some, Ok}
use Rattle.sites.proofs.look.variable_argument.Goals as goal

pub returns-then-slot-eq-VALUE_SLOT : goal.returns-then-slot-eq-VALUE_SLOT
returns-then-slot-eq-VALUE_SLOT c = λ m h o.
    let f : SFits w32 c.signed.result = search rules in
    rw (to_z-of_z f)
    (ap (λ v. Ok (Some v)) c.signed.ensures ∙ variable-value m _ _ _ _ o (kind-of (c.bind-slot.ensures m h))
    (number-of (c.bind-slot.ensures m h)) c.if-slot-eq-VALUE_SLOT.true)

pub returns : goal.returns
returns c = λ m h o. variable-cell m _ _ _ _ o (kind-of (c.bind-slot.ensures m h))
    (number-of (c.bind-slot.ensures m h)) _ c.if-slot-eq-EMPTY_SLOT.false c.if-slot-eq-VALUE_SLOT.false
    (c.cell_argument.ensures m h)
