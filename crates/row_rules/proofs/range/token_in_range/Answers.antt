-- `range::token_in_range` meets its contract: field by field. Assumes nothing.
use Rattle.job.specs.Test.{◌and◌}
use mathlib.Core.Path.{◌∙◌, ap, ap₂}
use lib.Dec.{leb}
use Rattle.model.specs.Machine.Blank.{token_at}
use Rattle.model.specs.Machine.Rules.{state_in_range, due_in_range}
use Rattle.row_rules.proofs.RangeLaws.{place_in}
use Rattle.job.proofs.Both.{both, three, and_assoc}
use Rattle.row_rules.proofs.range.token_in_range.Goals as goal

pub returns : goal.returns
returns c = λ m h.
    let k = h.codes in
    let t = token_at m.tokens c.args.p in
    three (c.binds_in_range.ensures m h)
    (both (ap (λ n. leb n 64) (c.caller.ensures m k) ∙ place_in 64 t.caller)
    (ap (λ n. leb n 32) (c.cell.ensures m k) ∙ place_in 32 t.cell))
    (c.state_in_range-open.ensures t.state (c.state.ensures m k) (c.state_number.ensures m k)
    ∙ ap₂ (λ n i. state_in_range 32 n t.state and due_in_range i t.state) (c.calls_made.ensures m k) (c.clock.ensures m k))
    ∙ ap (◌and◌ _) (and_assoc _ _ _)
