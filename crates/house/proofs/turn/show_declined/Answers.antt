-- `turn::show_declined` meets its contract: either way the line of the number is shown. Assumes nothing.
use mathlib.Core.Path.{sym, ap, ◌∙◌}
use Prim.Native.Nat.{ℕ}
use Rattle.model.specs.Machine.Reply.{number_of}
use Rattle.model.specs.Output.Line.{refused, text_of}
use Rattle.lines.specs.LineTold.{told}
use Rattle.lines.proofs.WindowLaws.{window-as}
use Rattle.house.proofs.turn.show_declined.Goals as goal

pub returns-then-number-from-clause-shows : goal.returns-then-number-from-clause-shows
unfolding number_of
returns-then-number-from-clause-shows c =
    window-as (ap (λ (n : ℕ). text_of (refused n)) (sym (c.if-number-from.true ∙ c.from.ensures)))
    c.show_not_open.ensures.shows

pub returns-else-number-from-clause-shows : goal.returns-else-number-from-clause-shows
unfolding told
returns-else-number-from-clause-shows c = c.show_line.ensures.shows
