-- A token, a machine with a field or two changed; a name put into the queue. Step, answer and clock move say what they do in these.
-- Assumes nothing: these are definitions.
use Rattle.std.specs.Prelude.{List, [], ◌∷◌, ◌++◌, ℕ, length, set, take, Some}
use Rattle.job.specs.Test.{padded}
use Rattle.model.specs.declared.token.Slot.{Slot}
use Rattle.model.specs.Machine.Held.{Held}
use Rattle.model.specs.declared.token.State.{State}
use Rattle.model.specs.declared.token.Token.{Token}
use Rattle.model.specs.declared.cell.Cell.{Cell}
use Rattle.model.specs.declared.record.Machine.{Machine}

-- Tokens. "What a line does not name is copied from the token acted on"
unfoldable pub with_node : ℕ → Token → Token
with_node k t = record { node = k; binds = t.binds; value = t.value; caller = t.caller; cell = t.cell; state = t.state }

unfoldable pub with_binding : ℕ → Slot → Token → Token
with_binding x s t =
    record {
      node = t.node;
      binds = set t.binds x s;
      value = t.value;
      caller = t.caller;
      cell = t.cell;
      state = t.state;
    }

unfoldable pub with_value : Held → Token → Token
with_value v t = record { node = t.node; binds = t.binds; value = v; caller = t.caller; cell = t.cell; state = t.state }

unfoldable pub in_cell : ℕ → Token → Token
in_cell c t =
    record { node = t.node; binds = t.binds; value = t.value; caller = t.caller; cell = Some c; state = t.state }

unfoldable pub with_state : State → Token → Token
with_state s t = record { node = t.node; binds = t.binds; value = t.value; caller = t.caller; cell = t.cell; state = s }

-- Machines, a field or two at a time
unfoldable pub with_tables : List Token → List Cell → Machine → Machine
with_tables ts cs m =
    record {
      tokens = ts;
      cells = cs;
      queue = m.queue;
      queued = m.queued;
      waits = m.waits;
      waiting = m.waiting;
      calls = m.calls;
      lasttoken = m.lasttoken;
      lastcell = m.lastcell;
      timers = m.timers;
      timed = m.timed;
      clock = m.clock;
    }

unfoldable pub with_orders : (queue waits : List ℕ) → Machine → Machine
with_orders q w m =
    record {
      tokens = m.tokens;
      cells = m.cells;
      queue = padded 0 (length m.tokens) q;
      queued = length q;
      waits = padded 0 (length m.tokens) w;
      waiting = length w;
      calls = m.calls;
      lasttoken = m.lasttoken;
      lastcell = m.lastcell;
      timers = m.timers;
      timed = m.timed;
      clock = m.clock;
    }

unfoldable pub with_counts : (calls lasttoken lastcell : ℕ) → Machine → Machine
with_counts n p c m =
    record {
      tokens = m.tokens;
      cells = m.cells;
      queue = m.queue;
      queued = m.queued;
      waits = m.waits;
      waiting = m.waiting;
      calls = n;
      lasttoken = p;
      lastcell = c;
      timers = m.timers;
      timed = m.timed;
      clock = m.clock;
    }

-- (document 02, request 1) the order of call; the clock
unfoldable pub with_timers : List ℕ → Machine → Machine
with_timers l m =
    record {
      tokens = m.tokens;
      cells = m.cells;
      queue = m.queue;
      queued = m.queued;
      waits = m.waits;
      waiting = m.waiting;
      calls = m.calls;
      lasttoken = m.lasttoken;
      lastcell = m.lastcell;
      timers = padded 0 (length m.tokens) l;
      timed = length l;
      clock = m.clock;
    }

unfoldable pub with_clock : (time : ℕ) → Machine → Machine
with_clock time m =
    record {
      tokens = m.tokens;
      cells = m.cells;
      queue = m.queue;
      queued = m.queued;
      waits = m.waits;
      waiting = m.waiting;
      calls = m.calls;
      lasttoken = m.lasttoken;
      lastcell = m.lastcell;
      timers = m.timers;
      timed = m.timed;
      clock = time;
    }

-- the queue; the wait order, longest wait first; the order of call, first call first
unfoldable pub queue_of : Machine → List ℕ
queue_of m = take m.queued m.queue

unfoldable pub waits_of : Machine → List ℕ
waits_of m = take m.waiting m.waits

unfoldable pub timers_of : Machine → List ℕ
timers_of m = take m.timed m.timers

unfoldable pub put : ℕ → Token → Machine → Machine
put p t m = with_tables (set m.tokens p t) m.cells m

-- "A ready token goes to the back of the queue"
unfoldable pub enqueue : ℕ → Machine → Machine
enqueue p m = with_orders (queue_of m ++ (p ∷ [])) (waits_of m) m

-- a new token, a new cell: the place is the last one given
unfoldable pub new_token : ℕ → Token → Machine → Machine
new_token p t m = with_counts m.calls p m.lastcell (put p t m)

unfoldable pub new_cell : ℕ → Cell → Machine → Machine
new_cell c k m = with_counts m.calls m.lasttoken c (with_tables m.tokens (set m.cells c k) m)
