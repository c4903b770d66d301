use Rattle.job.specs.Test.{◌and◌}
use Rattle.coded.specs.WordTests.{cell_coded}
use Rattle.coded.proofs.word_tests.cell_row_coded.Goals as goal

pub returns-then-held_coded : goal.returns-then-held_coded
unfolding cell_coded ◌and◌
returns-then-held_coded c = rw (← c.held_coded.ensures, c.if-held_coded.true)

pub returns-else-held_coded : goal.returns-else-held_coded
unfolding cell_coded ◌and◌
returns-else-held_coded c = rw (← c.held_coded.ensures, c.if-held_coded.false)
