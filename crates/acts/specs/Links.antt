-- What a token names. Assumes nothing: these are definitions.
use Rattle.std.specs.Prelude.{◌≡◌, Bool, List, ℕ, None}
use Rattle.job.specs.Test.{for_some}
use Rattle.model.specs.Machine.Blank.{is_place, slot_at}
use Rattle.model.specs.Machine.InUse.{bound_cell}
use Rattle.model.specs.declared.token.Slot.TheVariants as slots
use Rattle.model.specs.declared.token.Slot.{Slot}
use Rattle.model.specs.declared.token.Token.{Token}

-- is a variable bound to a cell?
abbrev pub to_cell : Slot → Bool
to_cell b = is_place (bound_cell b)

abbrev pub binds_cell : List Slot → Bool
binds_cell bs = for_some to_cell bs

-- no variable is bound to a cell
abbrev pub BindsNoCell : List Slot → Type 0
BindsNoCell bs = (x c : ℕ) → slot_at bs x ≡ slots.Cell c → ⊥

-- a token that names no caller, no cell and no bound cell
pub record NoLinks (t : Token) : Type 0 where
  pub caller : t.caller ≡ None
  pub cell : t.cell ≡ None
  pub binds : BindsNoCell t.binds
