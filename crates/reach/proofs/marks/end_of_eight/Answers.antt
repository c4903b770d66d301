-- `marks::end_of_eight` meets its contract: the number is compared with powers of 256. Assumes nothing.
use borrow.Author.Rules.{rules}
use Rattle.reach.proofs.MarksEnd.{end-one, end-two, end-three, end-four, end-eight}
use Rattle.reach.proofs.marks.end_of_eight.Goals as goal

pub returns-in-0-to-255 : goal.returns-in-0-to-255
returns-in-0-to-255 c = end-one _ (search rules)

pub returns-in-256-to-65535 : goal.returns-in-256-to-65535
returns-in-256-to-65535 c = end-two _ (search rules) (search rules)

pub returns-in-65536-to-16777215 : goal.returns-in-65536-to-16777215
returns-in-65536-to-16777215 c = end-three _ (search rules) (search rules)

pub returns-in-16777216-to-4294967295 : goal.returns-in-16777216-to-4294967295
returns-in-16777216-to-4294967295 c = end-four _ (search rules) (search rules)

pub returns-in_default : goal.returns-in_default
returns-in_default c = end-eight _ (search rules)
