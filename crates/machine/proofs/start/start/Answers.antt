-- `start::start` meets its contract: each way out is how the definition's call ends there. Assumes nothing.
use Rattle.machine.proofs.PublicCalls.{start-gave, start-refused}
use mathlib.Core.Path.{refl, sym, ◌∙◌}
use Rattle.machine.proofs.start.start.Goals as goal

pub returns-then-dag_holds : goal.returns-then-dag_holds
returns-then-dag_holds c = start-gave _ _ _ _ _
    (sym c.if-dag_holds.true ∙ c.dag_holds.ensures) refl
    c.start.ensures c.plain.ensures

pub returns : goal.returns
returns c = start-refused _ _ _ (sym c.if-dag_holds.false ∙ c.dag_holds.ensures) c.plain-2.ensures
