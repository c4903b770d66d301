-- Words as a machine record: total, and exact on the words of a record. Assumes nothing: these are definitions.
use Rattle.std.specs.Prelude.{List, [], ◌∷◌, ℕ, zero, suc, get_or, take, drop, Some, None}
use Rattle.job.specs.Number.{signed}
use Rattle.model.specs.declared.token.Slot.{Slot}
use Rattle.model.specs.declared.token.Slot.TheVariants as slots
use Rattle.model.specs.Machine.Held.{Held, Place}
use Rattle.model.specs.declared.token.State.{State}
use Rattle.model.specs.declared.token.State.TheVariants as states
use Rattle.model.specs.declared.token.Token.{Token}
use Rattle.model.specs.declared.cell.Cell.{Cell}
use Rattle.model.specs.declared.record.Machine.{Machine}
use Rattle.record.specs.Layout.{cells_start, queue_start, waits_start, counts_start, timers_start}

unfoldable pub state_from : ℕ → ℕ → State
state_from zero n = states.Blank
state_from (suc zero) n = states.Ready
state_from (suc (suc zero)) n = states.Waiting n
state_from (suc (suc (suc zero))) n = states.Called n
state_from (suc (suc (suc (suc zero)))) n = states.Due n
state_from (suc (suc (suc (suc (suc k))))) n = states.Frame

unfoldable pub place_from : ℕ → Place
place_from zero = None
place_from (suc p) = Some p

unfoldable pub held_from : ℕ → ℕ → Held
held_from zero n = None
held_from (suc k) n = Some (signed n)

unfoldable pub slot_from : ℕ → ℕ → Slot
slot_from zero n = slots.Empty
slot_from (suc zero) n = slots.Value (signed n)
slot_from (suc (suc k)) n = slots.Cell n

-- so many bindings, two words each
unfoldable pub binds_from : ℕ → List ℕ → List Slot
binds_from zero ws = []
binds_from (suc n) ws = slot_from (get_or ws 0 0) (get_or ws 1 0) ∷ binds_from n (drop 2 ws)

unfoldable pub token_from : List ℕ → Token
token_from r =
    record {
      node = get_or r 2 0;
      binds = binds_from 8 (drop 8 r);
      value = held_from (get_or r 5 0) (get_or r 6 0);
      caller = place_from (get_or r 3 0);
      cell = place_from (get_or r 4 0);
      state = state_from (get_or r 0 0) (get_or r 1 0);
    }

unfoldable pub cell_from : List ℕ → Cell
cell_from r = record { parent = place_from (get_or r 0 0); value = held_from (get_or r 1 0) (get_or r 2 0) }

-- a table of n rows of w words
unfoldable pub table_from : {A : Type 0} → (List ℕ → A) → (w n : ℕ) → List ℕ → List A
table_from f w zero ws = []
table_from f w (suc n) ws = f (take w ws) ∷ table_from f w n (drop w ws)

unfoldable pub machine_of : List ℕ → Machine
machine_of ws =
    record {
      tokens = table_from token_from 24 64 ws;
      cells = table_from cell_from 4 32 (drop cells_start ws);
      queue = take 64 (drop queue_start ws);
      queued = get_or ws counts_start 0;
      waits = take 64 (drop waits_start ws);
      waiting = get_or ws 1793 0;
      calls = get_or ws 1794 0;
      lasttoken = get_or ws 1795 0;
      lastcell = get_or ws 1796 0;
      timers = take 64 (drop timers_start ws);
      timed = get_or ws 1861 0;
      clock = get_or ws 1862 0;
    }
