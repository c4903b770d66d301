-- `house::run` meets its contract: the words and marks that it lends are those of the start. Assumes nothing.
use mathlib.Core.Bool.{false}
use lib.ListN.{replicate}
use Rattle.house.proofs.HouseLent.{lawful-start, started-callees}
use Rattle.house.proofs.house.run.Goals as goal

pub run_turns-requires : goal.run_turns-requires
run_turns-requires c = record {
  accepted = (
    c.requires.0,
    c.requires.1,
    lawful-start _
        c.requires.0
        c.told-dag
        c.start-marks.ensures,
  );
  one_callee = started-callees (replicate 64 false) _
      c.requires.0;
}
