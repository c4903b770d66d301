-- `bench_load` meets its contract: what `load` gives, as a number. Assumes nothing.
use mathlib.Core.Path.{sym, ◌∙◌}
use Rattle.bench.proofs.LoadedTable.{count-accepted, count-refused}
use Rattle.bench.proofs.bench_load.Goals as goal

pub returns-in-Ok : goal.returns-in-Ok
returns-in-Ok c = let load = c.load.ensures in
    record { value = count-accepted _ _ (sym c.in-Ok.is ∙ load.value); dag_after = load.dag_after }

pub returns-in-Err : goal.returns-in-Err
returns-in-Err c = let load = c.load.ensures in
    record { value = count-refused _ _ (sym c.in-Err.is ∙ load.value); dag_after = load.dag_after }
