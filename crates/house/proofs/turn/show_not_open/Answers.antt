-- `turn::show_not_open` meets its contract: the number of its refusal is 12. Assumes nothing.
use mathlib.Core.Path.{ap}
use Prim.Native.Nat.{ℕ}
use Rattle.model.specs.Machine.Reply.{number_of}
use Rattle.model.specs.Output.Line.{refused, text_of}
use Rattle.lines.specs.LineTold.{told}
use Rattle.lines.proofs.WindowLaws.{window-as}
use Rattle.house.proofs.turn.show_not_open.Goals as goal

pub returns-clause-shows : goal.returns-clause-shows
unfolding told number_of
returns-clause-shows c = window-as (ap (λ (n : ℕ). text_of (refused n)) c.from.ensures) c.show_line.ensures.shows
