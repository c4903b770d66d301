-- An order of call that names nobody stays as it is. Assumes nothing.
use mathlib.Core.Path.{refl, sym, ◌∙◌}
use Rattle.pruning.proofs.ChokeLaws.{none-due, due-retained}
use Rattle.pruning.proofs.choke.retain_due.Goals as goal

pub returns-then-count-eq0 : goal.returns-then-count-eq0
returns-then-count-eq0 c = λ m h blank. none-due m (sym (c.count.ensures m h.codes) ∙ c.if-count-eq0.true) h

pub returns : goal.returns
returns c = λ m h blank.
    due-retained m _ (c.mark_state.ensures m h.codes blank refl) (c.retain.ensures m h)
