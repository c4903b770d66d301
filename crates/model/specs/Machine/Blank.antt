-- Document 01: blank. A blank token or cell holds nothing (docs/DECISIONS.md, "Blank"). Assumes nothing: these are definitions.
use Rattle.std.specs.Prelude.{Bool, true, false, not, List, ℕ, get_or, replicate, eqb, Some, None}
use Rattle.job.specs.Bounds.{scope_limit}
use Rattle.job.specs.Test.{◌and◌, for_all}
use Rattle.model.specs.Machine.State.{is_blank_state}
use Rattle.model.specs.Machine.Limits.{Limits}
use Rattle.model.specs.declared.token.Slot.{Slot}
use Rattle.model.specs.declared.token.Slot.TheVariants as slots
use Rattle.model.specs.Machine.Held.{Held, Place}
use Rattle.model.specs.declared.token.State.TheVariants as states
use Rattle.model.specs.declared.token.Token.{Token}
use Rattle.model.specs.declared.cell.Cell.{Cell}
use Rattle.model.specs.declared.record.Machine.{Machine}

abbrev pub empty : Slot
empty = slots.Empty

-- "nothing bound"
abbrev pub unbound : List Slot
unbound = replicate scope_limit empty

abbrev pub blank_token : Token
blank_token =
    record {
      node = 0;
      binds = unbound;
      value = None;
      caller = None;
      cell = None;
      state = states.Blank;
    }

abbrev pub blank_cell : Cell
blank_cell = record { parent = None; value = None }

-- the record in which nothing is in use
abbrev pub blank_machine : Limits → Machine
blank_machine lim =
    record {
      tokens = replicate lim.token_places blank_token;
      cells = replicate lim.cell_places blank_cell;
      queue = replicate lim.token_places 0;
      queued = 0;
      waits = replicate lim.token_places 0;
      waiting = 0;
      calls = 0;
      lasttoken = 0;
      lastcell = 0;
      timers = replicate lim.token_places 0;
      timed = 0;
      clock = 0;
    }

-- what stands at a place of a table
unfoldable pub token_at : List Token → ℕ → Token
token_at ts p = get_or ts p blank_token

unfoldable pub cell_at : List Cell → ℕ → Cell
cell_at cs c = get_or cs c blank_cell

unfoldable pub slot_at : List Slot → ℕ → Slot
slot_at bs x = (get_or bs x empty)

unfoldable pub is_bound : Slot → Bool
is_bound slots.Empty = false
is_bound (slots.Value v) = true
is_bound (slots.Cell c) = true

unfoldable pub has_value : Held → Bool
has_value None = false
has_value (Some v) = true

unfoldable pub is_place : Place → Bool
is_place None = false
is_place (Some p) = true

unfoldable pub token_is_blank : Token → Bool
token_is_blank t =
    is_blank_state t.state
    and eqb t.node 0
    and for_all (λ (b : Slot). not (is_bound b)) t.binds
    and not (has_value t.value)
    and not (is_place t.caller)
    and not (is_place t.cell)

unfoldable pub cell_is_blank : Cell → Bool
cell_is_blank c = not (is_place c.parent) and not (has_value c.value)
