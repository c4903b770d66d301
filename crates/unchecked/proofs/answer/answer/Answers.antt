-- `answer::answer` meets its contract: no token is looked for behind the last place. Assumes nothing.
use mathlib.Core.Path.{sym, subst}
use mir.Facts.{to_z-of_z}
use native.Mathlib.Omega.{arith}
use Rattle.acts.specs.Acting.{Gives}
use Rattle.unchecked.proofs.answer.answer.Goals as goal

pub returns : goal.returns
returns c = λ m dag used a.
    let gives = rw (to_z-of_z c.ranges.value) at c.resume.ensures.gives in
    subst (Gives _ m _ used) (sym c.report.ensures) (gives m dag used a (λ i from to. absurd (omega arith)))
