-- `input::table_end` meets its contract. Assumes nothing.
use mathlib.Core.Path.{refl, ◌∙◌}
use Rattle.run.proofs.InputLaws.{table-all, table-least}
use Rattle.run.proofs.input.table_end.Goals as goal

pub returns-in_default : goal.returns-in_default
returns-in_default c = table-all _ c.in_default.len_below

pub returns : goal.returns
returns c = c.min.ensures ∙ table-least _ _ _ c.in-len4-up.len_at_least c.half.ensures.0 refl
