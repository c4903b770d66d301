-- A cell's words say whether it is set and to what; its value is signed 32-bit. By whether it is set, which its words give. Assumes
-- nothing.
use mathlib.Core.Path.{ap, ◌∙◌}
use borrow.Author.Rules.{rules}
use mir.Syntax.{w32}
use mir.Val.{SFits}
use mir.Facts.{to_z-of_z}
use Rattle.sites.proofs.LookLaws.{cell_set}
use Rattle.std.specs.Prelude.{Some, Ok}
use Rattle.sites.proofs.look.cell_argument.Goals as goal

pub returns : goal.returns
returns c = λ m h l r.
    let f : SFits w32 c.signed.result = search rules in
    rw (to_z-of_z f)
    (ap (λ v. Ok (Some v)) c.signed.ensures
    ∙ cell_set _ _ _
    (c.value_kind.ensures m h) _ c.if-value_kind-eq0.false
    (c.value.ensures m h) r)
