-- `chain::is_free` meets its contract: only a live token can be under a set cell. Assumes nothing.
use mathlib.Core.Bool.{not}
use mathlib.Core.Path.{◌∙◌, ap}
use Rattle.model.specs.Machine.Blank.{token_at}
use Rattle.model.specs.Machine.Active.{under_set}
use Rattle.record.specs.LayoutDecoded.{place_from}
use Rattle.row_rules.proofs.ChainLaws.{idle, busy}
use Rattle.job.proofs.Both.{both}
use Rattle.record.proofs.PlaceNumber.{place-back}
use Rattle.row_rules.proofs.chain.is_free.Goals as goal

pub returns-then-kind : goal.returns-then-kind
returns-then-kind c = λ m h. idle m.cells (token_at m.tokens c.args.p) (c.state-kind.ensures m h) c.if-kind.true

pub returns : goal.returns
returns c = λ m h.
    let t = token_at m.tokens c.args.p in
    both
    (ap not (c.under_set.ensures m h
    ∙ ap (under_set m.cells) (ap place_from (c.wide.ensures ∙ c.cell.ensures m h) ∙ place-back t.cell))
    ∙ busy m.cells t (c.state-kind.ensures m h) c.if-kind.false)
    (c.waits_at_unset.ensures m t.state h (c.state-kind.ensures m h) (c.state_number.ensures m h))
