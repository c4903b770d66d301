-- A parameter is a variable or a constant by its kind. Assumes nothing.
use mathlib.Core.Path.{refl, ap, ◌∙◌}
use borrow.Author.Rules.{rules}
use mir.Syntax.{w32}
use mir.Val.{SFits}
use mir.Facts.{to_z-of_z}
use Rattle.sites.proofs.LookLaws.{found-variable, found-constant}
use Rattle.sites.proofs.LookParams.{param-variable, variable-below}
use Rattle.std.specs.Prelude.{Some, Ok}
use Rattle.sites.proofs.look.param_argument.Goals as goal

pub variable_argument-requires : goal.variable_argument-requires
variable_argument-requires c = (
  search rules,
  variable-below _ _ c.requires.2 (param-variable _ _ c.if-dag-at-eq-VARIABLE.true),
)

pub returns-then-dag-at-eq-VARIABLE : goal.returns-then-dag-at-eq-VARIABLE
returns-then-dag-at-eq-VARIABLE c = λ m h o. found-variable m.cells _ _ _ _ _ c.if-dag-at-eq-VARIABLE.true refl
    (c.variable_argument.ensures m h o)

pub returns : goal.returns
returns c = λ m h o.
    let f : SFits w32 c.signed.result = search rules in
    rw (to_z-of_z f) (ap (λ v. Ok (Some v)) c.signed.ensures ∙ found-constant m.cells _ _ _ c.if-dag-at-eq-VARIABLE.false)
