-- `links::names` meets its contract: each way out is how the definition's step ends there. Assumes nothing.
use Rattle.acts.proofs.EndRebind.{no_place}
use Rattle.acts.proofs.LinksBound.{binds-none}
use Rattle.job.proofs.Test.{clash}
use mathlib.Core.Path.{refl, sym, ◌∙◌}
use Rattle.acts.proofs.links.names.Goals as goal

pub returns-then-cell-eq0 : goal.returns-then-cell-eq0
returns-then-cell-eq0 c = λ m h e.
    record {
      caller = no_place _ _ (c.caller.ensures m h) c.if-caller-eq0.true;
      cell =
          no_place _ _ (c.cell.ensures m h) c.if-cell-eq0.true;
      binds = binds-none _ (sym (c.binds_cell.ensures m h) ∙ e);
    }

pub returns-else-cell-eq0 : goal.returns-else-cell-eq0
returns-else-cell-eq0 c = λ m h e. clash refl e

pub returns-else-caller-eq0 : goal.returns-else-caller-eq0
returns-else-caller-eq0 c = λ m h e. clash refl e
