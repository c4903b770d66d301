-- Looking up parameters one by one, and the result as the code has it. Assumes nothing: these are definitions.
use Rattle.std.specs.Prelude.{◌≡◌, true, List, [], ℕ, ℤ, Option, Some, None, Result, Ok, Err}
use Rattle.job.specs.Test.{for_all}
use Rattle.job.specs.Syntax.{Param, variable, constant}
use Rattle.model.specs.Machine.Blank.{token_at, cell_at, slot_at}
use Rattle.model.specs.Machine.Rules.{slot_in_range, held_in_range}
use Rattle.model.specs.Machine.Reply.{report_values}
use Rattle.model.specs.Machine.Step.{LookUpResult, values, unset, and_then}
use Rattle.model.specs.declared.token.Slot.{Slot}
use Rattle.model.specs.declared.token.Slot.TheVariants as slots
use Rattle.model.specs.Machine.Held.{Held}
use Rattle.model.specs.declared.cell.Cell.{Cell}
use Rattle.model.specs.declared.record.Machine.{Machine}
use Rattle.sites.specs.declared.look.UnsetCell.{UnsetCell}

-- a parameter as the code finds it: its value, none where a variable is empty, or the unset cell where it is to come from
abbrev pub Found : Type 0
Found = Result (Option ℤ) UnsetCell

abbrev pub unset_cell : ℕ → UnsetCell
unset_cell c = record { 0 = c }

unfoldable pub held_found : ℕ → Held → Found
held_found c None = Err (unset_cell c)
held_found c (Some v) = Ok (Some v)

unfoldable pub found_of : List Cell → Slot → Found
found_of cs slots.Empty = Ok None
found_of cs (slots.Value v) = Ok (Some v)
found_of cs (slots.Cell c) = held_found c (cell_at cs c).value

unfoldable pub param_found : List Cell → List Slot → Param → Found
param_found cs bs (variable x) = found_of cs (slot_at bs x)
param_found cs bs (constant v) = Ok (Some v)

-- what is found first, then the rest
unfoldable pub after : Found → LookUpResult → LookUpResult
after (Ok (Some v)) l = and_then v l
after (Ok None) l = values []
after (Err c) l = unset c.0

-- a look-up's result: all values, zeros behind them, or the first unset cell
unfoldable pub look_up_of : LookUpResult → Result (List ℤ) UnsetCell
look_up_of (values vs) = Ok (report_values vs)
look_up_of (unset c) = Err (unset_cell c)

-- the token's variables and the cells have values and places in range
pub record LookFacts (m : Machine) (p : ℕ) : Type 0 where
  pub slots : for_all (slot_in_range 32) (token_at m.tokens p).binds ≡ true
  pub cells : for_all (λ (c : Cell). held_in_range c.value) m.cells ≡ true
