-- Changes of a record that the definitions of a step have no name for. Assumes nothing: these are definitions.
use Rattle.std.specs.Prelude.{List, [], ◌∷◌, ◌++◌, ℕ, set, None}
use Rattle.job.specs.Test.{without}
use Rattle.model.specs.Machine.Update.{with_tables, with_orders, queue_of, waits_of}
use Rattle.model.specs.declared.token.Slot.{Slot}
use Rattle.model.specs.Machine.Held.{Held, Place}
use Rattle.model.specs.declared.token.Token.{Token}
use Rattle.model.specs.declared.cell.Cell.{Cell}
use Rattle.model.specs.declared.record.Machine.{Machine}

abbrev pub with_caller : Place → Token → Token
with_caller q t = record { node = t.node; binds = t.binds; value = t.value; caller = q; cell = t.cell; state = t.state }

abbrev pub with_cell : Place → Token → Token
with_cell q t = record { node = t.node; binds = t.binds; value = t.value; caller = t.caller; cell = q; state = t.state }

abbrev pub with_binds : List Slot → Token → Token
with_binds bs t = record { node = t.node; binds = bs; value = t.value; caller = t.caller; cell = t.cell; state = t.state }

-- a cell at a place
abbrev pub store_cell : ℕ → Cell → Machine → Machine
store_cell c k m = with_tables m.tokens (set m.cells c k) m

abbrev pub unset_cell : Place → Cell
unset_cell q = record { parent = q; value = None }

abbrev pub set_cell : Held → Cell → Cell
set_cell v k = record { parent = k.parent; value = v }

-- the record with the name at a place of the queue taken out of it
abbrev pub dequeued : Machine → (place : ℕ) → Machine
dequeued m place = with_orders (without place (queue_of m)) (waits_of m) m

-- the record with a name at the back of the wait order
abbrev pub delayed : ℕ → Machine → Machine
delayed p m = with_orders (queue_of m) (waits_of m ++ (p ∷ [])) m
