-- `blank::cell_is_blank` meets its contract: no parent and no value. Assumes nothing.
use mathlib.Core.Path.{◌∙◌, ap}
use lib.Dec.{eqb}
use Rattle.model.specs.Machine.Blank.{cell_is_blank}
use Rattle.row_rules.proofs.RangeLaws.{place_none, held_none}
use Rattle.job.proofs.Both.{both}
use Rattle.row_rules.proofs.blank.cell_is_blank.Goals as goal

pub returns : goal.returns
unfolding cell_is_blank
returns c = λ m h.
    both (ap (λ n. eqb n 0) (c.parent.ensures m h) ∙ place_none _) (ap (λ n. eqb n 0) (c.value_kind.ensures m h) ∙ held_none _)
