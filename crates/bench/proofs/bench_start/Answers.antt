-- `bench_start` meets its contract: the words that hold a start are all given by it. Assumes nothing.
use Rattle.bench.proofs.LoadedTable.{start-words}
use Rattle.bench.proofs.bench_start.Goals as goal

pub returns : goal.returns
returns c = let load = c.bench_load-nodes.ensures in
    record { value = load.value; dag_after = load.dag_after; words_after = start-words load.dag_after c.start.ensures.0 }
