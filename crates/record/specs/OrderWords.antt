-- The three orders of a record: where the names of each stand among the words, and what it is of a machine. Assumes nothing: these are
-- definitions.
use Rattle.std.specs.Prelude.{Bool, List, [], ◌∷◌, ◌++◌, ℕ}
use Rattle.model.specs.Machine.State.{is_ready, is_waiting, is_due}
use Rattle.model.specs.Machine.Update.{enqueue, with_orders, with_timers, queue_of, waits_of, timers_of}
use Rattle.model.specs.declared.token.State.{State}
use Rattle.model.specs.declared.record.Machine.{Machine}
use Rattle.record.specs.Changes.{delayed}

pub data Which : Type 0 where
  queue : Which
  waits : Which
  timers : Which

-- the word at which its names begin, that of their number, and the kind of the state that the tokens named are in
abbrev pub first_at : Which → ℕ
first_at queue = 1664
first_at waits = 1728
first_at timers = 1797

abbrev pub count_at : Which → ℕ
count_at queue = 1792
count_at waits = 1793
count_at timers = 1861

abbrev pub state_of : Which → ℕ
state_of queue = 1
state_of waits = 2
state_of timers = 4

abbrev pub in_state : Which → State → Bool
in_state queue = is_ready
in_state waits = is_waiting
in_state timers = is_due

-- a machine's names in it, the array whose first ones they are, and how many they are
abbrev pub names_of : Which → Machine → List ℕ
names_of queue m = queue_of m
names_of waits m = waits_of m
names_of timers m = timers_of m

abbrev pub array_of : Which → Machine → List ℕ
array_of queue m = m.queue
array_of waits m = m.waits
array_of timers m = m.timers

abbrev pub count_of : Which → Machine → ℕ
count_of queue m = m.queued
count_of waits m = m.waiting
count_of timers m = m.timed

-- the machine with other names in it, and with one more at the back
abbrev pub with_names : Which → List ℕ → Machine → Machine
with_names queue l m = with_orders l (waits_of m) m
with_names waits l m = with_orders (queue_of m) l m
with_names timers l m = with_timers l m

abbrev pub joined : Which → ℕ → Machine → Machine
joined queue p m = enqueue p m
joined waits p m = delayed p m
joined timers p m = with_timers (timers_of m ++ (p ∷ [])) m
