-- `program::check_end` meets its contract: there is an entry at the index, or none. Assumes nothing.
use Rattle.reader.proofs.ProgramLaws.{end-left, end_none}
use Rattle.reader.proofs.program.check_end.Goals as goal

pub returns-then-at-len : goal.returns-then-at-len
returns-then-at-len c = search end-left

pub returns : goal.returns
returns c = search end_none
