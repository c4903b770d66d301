-- The machine record as 1,863 words of 32 bits. Assumes nothing: these are definitions.
--
-- | words        | what stands there                                                                        |
-- |--------------|------------------------------------------------------------------------------------------|
-- | 0 to 1535    | 64 tokens, 24 words each                                                                 |
-- | 1536 to 1663 | 32 cells, 4 words each                                                                   |
-- | 1664 to 1727 | the queue: the places of the ready tokens in order, then 0                               |
-- | 1728 to 1791 | the wait order: the places of the waiting tokens, longest wait first, then 0             |
-- | 1792, 1793   | how many names the queue has, and the wait order                                         |
-- | 1794         | outside calls made                                                                       |
-- | 1795, 1796   | the place last given to a token, and to a cell                                           |
-- | 1797 to 1860 | the order of call: the places of the tokens that are due later, first call first, then 0 |
-- | 1861, 1862   | how many names the order of call has, and the clock                                      |
--
-- A token: state (0 blank, 1 ready, 2 waiting, 3 called out, 4 due later, 5 frame); the cell at which it waits, the handle of its open
-- call, or its due time, else 0; node; caller and cell (place + 1, 0 for none); 1 if it has a value, else 0; the value; 0; and for each of
-- eight variables what it is bound to (0 empty, 1 value, 2 cell) and the value or the cell's place. A cell: parent (place + 1, 0 for none);
-- 1 if it is set, else 0; its value; 0. A value is its 32 bits.
use Rattle.std.specs.Prelude.{List, [], ◌∷◌, ◌++◌, ℕ, ◌+◌, Some, None}
use Rattle.job.specs.Number.{unsigned}
use Rattle.model.specs.Machine.Blank.{slot_at}
use Rattle.model.specs.declared.token.Slot.{Slot}
use Rattle.model.specs.declared.token.Slot.TheVariants as slots
use Rattle.model.specs.Machine.Held.{Held, Place}
use Rattle.model.specs.declared.token.State.{State}
use Rattle.model.specs.declared.token.State.TheVariants as states
use Rattle.model.specs.declared.token.Token.{Token}
use Rattle.model.specs.declared.cell.Cell.{Cell}
use Rattle.model.specs.declared.record.Machine.{Machine}
use Rattle.record.specs.declared.token.SlotWords.{SlotWords}

-- where the parts begin
abbrev pub cells_start : ℕ
cells_start = 1536

abbrev pub queue_start : ℕ
queue_start = 1664

abbrev pub waits_start : ℕ
waits_start = 1728

abbrev pub counts_start : ℕ
counts_start = 1792

abbrev pub timers_start : ℕ
timers_start = 1797

-- each field as words
abbrev pub state_kind : State → ℕ
state_kind states.Blank = 0
state_kind states.Ready = 1
state_kind (states.Waiting c) = 2
state_kind (states.Called h) = 3
state_kind (states.Due d) = 4
state_kind states.Frame = 5

abbrev pub state_number : State → ℕ
state_number states.Blank = 0
state_number states.Ready = 0
state_number (states.Waiting c) = c
state_number (states.Called h) = h
state_number (states.Due d) = d
state_number states.Frame = 0

abbrev pub place_number : Place → ℕ
place_number None = 0
place_number (Some p) = p + 1

abbrev pub held_kind : Held → ℕ
held_kind None = 0
held_kind (Some v) = 1

abbrev pub held_number : Held → ℕ
held_number None = 0
held_number (Some v) = unsigned v

abbrev pub slot_kind : Slot → ℕ
slot_kind slots.Empty = 0
slot_kind (slots.Value v) = 1
slot_kind (slots.Cell c) = 2

abbrev pub slot_number : Slot → ℕ
slot_number slots.Empty = 0
slot_number (slots.Value v) = unsigned v
slot_number (slots.Cell c) = c

-- a slot as its two words
abbrev pub slot_words : Slot → SlotWords
slot_words b = record { kind = slot_kind b; number = slot_number b }

-- a token's row
unfoldable pub row_of : Token → List ℕ
row_of t =
    state_kind t.state
    ∷ state_number t.state
    ∷ t.node
    ∷ place_number t.caller
    ∷ place_number t.cell
    ∷ held_kind t.value
    ∷ held_number t.value
    ∷ 0
    ∷ slot_kind (slot_at t.binds 0)
    ∷ slot_number (slot_at t.binds 0)
    ∷ slot_kind (slot_at t.binds 1)
    ∷ slot_number (slot_at t.binds 1)
    ∷ slot_kind (slot_at t.binds 2)
    ∷ slot_number (slot_at t.binds 2)
    ∷ slot_kind (slot_at t.binds 3)
    ∷ slot_number (slot_at t.binds 3)
    ∷ slot_kind (slot_at t.binds 4)
    ∷ slot_number (slot_at t.binds 4)
    ∷ slot_kind (slot_at t.binds 5)
    ∷ slot_number (slot_at t.binds 5)
    ∷ slot_kind (slot_at t.binds 6)
    ∷ slot_number (slot_at t.binds 6)
    ∷ slot_kind (slot_at t.binds 7)
    ∷ slot_number (slot_at t.binds 7)
    ∷ []

-- a cell's row
unfoldable pub cell_row : Cell → List ℕ
cell_row c = place_number c.parent ∷ held_kind c.value ∷ held_number c.value ∷ 0 ∷ []

-- the rows of a table, one behind the other
unfoldable pub table_words : {A : Type 0} → (A → List ℕ) → List A → List ℕ
table_words f [] = []
table_words f (x ∷ xs) = f x ++ table_words f xs

-- how many names the orders have, and the counts
unfoldable pub count_words : Machine → List ℕ
count_words m = m.queued ∷ m.waiting ∷ m.calls ∷ m.lasttoken ∷ m.lastcell ∷ []

-- how many names the order of call has, and the clock
unfoldable pub clock_words : Machine → List ℕ
clock_words m = m.timed ∷ m.clock ∷ []

-- the seven parts in a row
unfoldable pub parts : List Token → List Cell → (queue waits count_words timers clock_words : List ℕ) → List ℕ
parts ts cs q w k l c = table_words row_of ts ++ (table_words cell_row cs ++ (q ++ (w ++ (k ++ (l ++ c)))))

unfoldable pub words_of : Machine → List ℕ
words_of m = parts m.tokens m.cells m.queue m.waits (count_words m) m.timers (clock_words m)
