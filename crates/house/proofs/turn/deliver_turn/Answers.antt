-- `turn::deliver_turn` meets its contract: what was delivered is the turn's outcome, and has a line only if it was refused. Assumes
-- nothing.
use native.Mathlib.Omega.{arith}
use borrow.Author.Rules.{rules}
use Rattle.acts.proofs.Vacancy.{free-token}
use Rattle.lines.proofs.ShownBytes.{shows-none, shows-as}
use Rattle.turns.proofs.TurnCases.{over-empty}
use Rattle.turns.proofs.TurnGives.{turn-delivers}
use Rattle.house.proofs.TurnReport.{turned-shows, taken-line, refused-line}
use Rattle.house.proofs.turn.deliver_turn.Goals as goal

pub returns-in_default-clause-leaves : goal.returns-in_default-clause-leaves
returns-in_default-clause-leaves c = λ m dag shared lawful one e.
    let none = c.few_or_all-end.ensures.upper_bound.1 in
    turned-shows
    (turn-delivers _ _ _ _ _ _ c.deliver.ensures.gives m dag _ shared lawful
    (λ i from to. free-token lawful i (none i from (omega arith))) one e)
    (over-empty _ e _) (shows-as (taken-line (search rules)) (shows-none _ _ _)) (omega arith)

pub returns-in-Err-clause-leaves : goal.returns-in-Err-clause-leaves
returns-in-Err-clause-leaves c = λ m dag shared lawful one e.
    let none = c.few_or_all-end.ensures.upper_bound.1 in
    let line = c.show_declined.ensures in
    turned-shows
    (turn-delivers _ _ _ _ _ _ c.deliver.ensures.gives m dag _ shared lawful
    (λ i from to. free-token lawful i (none i from (omega arith))) one e)
    (over-empty _ e _) (shows-as (refused-line c.in-Err.refusal c.in-Err.is c.from.ensures) line.shows.shows_bytes)
    line.upper_bound
