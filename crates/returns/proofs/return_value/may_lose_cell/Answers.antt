-- `return_value::may_lose_cell` meets its contract: two places with one number are the same. Assumes nothing.
use mathlib.Core.Path.{refl, sym, ◌∙◌}
use Rattle.job.proofs.Test.{clash}
use Rattle.acts.proofs.LinksBound.{binds-none}
use Rattle.returns.proofs.FrameCallers.{same_place}
use Rattle.returns.proofs.return_value.may_lose_cell.Goals as goal

pub returns-then-cell : goal.returns-then-cell
returns-then-cell c = λ m h e.
    record {
      cell = same_place _ _
          (sym (c.cell.ensures m h) ∙ (c.if-cell.true ∙ c.cell-2.ensures m h));
      binds =
          binds-none _ (sym (c.binds_cell.ensures m h) ∙ e);
    }

pub returns : goal.returns
returns c = λ m h e. clash refl e
