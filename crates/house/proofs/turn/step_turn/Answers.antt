-- `turn::step_turn` meets its contract: the step is the turn's outcome, and a reply without a line prints nothing. Assumes nothing.
use mathlib.Core.Path.{sym, ◌∙◌}
use native.Mathlib.Omega.{arith}
use Rattle.lines.proofs.ShownBytes.{shows-none, shows-as}
use Rattle.turns.proofs.TurnCases.{over-ready}
use Rattle.turns.proofs.TurnGives.{turn-steps}
use Rattle.house.proofs.TurnReport.{silent, turned-shows}
use Rattle.house.proofs.turn.step_turn.Goals as goal

pub step-report-requires : goal.step-report-requires
step-report-requires c = c.requires.0

pub returns-clause-leaves : goal.returns-clause-leaves
returns-clause-leaves c = λ m rest at t one.
    turned-shows (turn-steps m rest at t (c.step-report.ensures m t one))
    (over-ready _ (λ z. let some = t.queued in absurd (omega arith)) _ _ c.is_refused.ensures)
    c.show_reply.ensures.shows.shows_bytes c.show_reply.ensures.upper_bound

pub returns-then-not-has_line-clause-leaves : goal.returns-then-not-has_line-clause-leaves
returns-then-not-has_line-clause-leaves c = λ m rest at t one.
    let quiet = silent _ _ (sym c.has_line.ensures ∙ c.if-not-has_line.true) in
    turned-shows (turn-steps m rest at t (c.step-report.ensures m t one))
    (over-ready _ (λ z. let some = t.queued in absurd (omega arith)) _ _ quiet.1) (shows-as quiet.0 (shows-none _ _ _)) (omega arith)
