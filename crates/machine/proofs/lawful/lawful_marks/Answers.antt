-- `lawful::lawful_marks` meets its contract: the marks are those of the record that the words are, if they are one. Assumes nothing.
use mathlib.Core.Path.{sym, ◌∙◌}
use Rattle.machine.proofs.PublicCalls.{tests-said, tests-passed}
use Rattle.machine.proofs.lawful.lawful_marks.Goals as goal

pub returns-then-rules_hold-clause-value : goal.returns-then-rules_hold-clause-value
returns-then-rules_hold-clause-value c = sym c.if-rules_hold.true ∙ tests-said c.rules_hold.ensures c.of-marks.ensures

pub returns-then-rules_hold-clause-lawful : goal.returns-then-rules_hold-clause-lawful
returns-then-rules_hold-clause-lawful c = tests-passed c.rules_hold.ensures c.of-marks.ensures c.if-rules_hold.true c.told-dag

pub returns-clause-value : goal.returns-clause-value
returns-clause-value c = sym c.if-rules_hold.false ∙ tests-said c.rules_hold.ensures c.of-marks.ensures
