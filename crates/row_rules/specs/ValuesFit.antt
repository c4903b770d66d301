-- Words and a record with the values that words can have. Assumes nothing: these are definitions.
use Rattle.std.specs.Prelude.{◌≡◌, true, List, ℕ, ℤ}
use Rattle.job.specs.Number.{fits}
use Rattle.model.specs.Machine.Blank.{token_at, cell_at, slot_at}
use Rattle.model.specs.Machine.Rules.{held_in_range}
use Rattle.model.specs.declared.token.Slot.TheVariants as slots
use Rattle.model.specs.declared.record.Machine.{Machine}
use Rattle.record.specs.Holds.{Codes}

-- the words are the record's, and its values are signed 32-bit, as all values are that 32 bits decode to
pub record ValuesFit (ws : List ℕ) (m : Machine) : Type 0 where
  pub codes : Codes ws m
  pub values : (p : ℕ) → held_in_range (token_at m.tokens p).value ≡ true
  pub slots : (p x : ℕ) (v : ℤ) → slot_at (token_at m.tokens p).binds x ≡ slots.Value v → fits v ≡ true
  pub cells : (c : ℕ) → held_in_range (cell_at m.cells c).value ≡ true
