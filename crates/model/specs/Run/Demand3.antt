-- Demand 3, stated. Its proof is another file's. Assumes nothing: these are definitions.
use Rattle.std.specs.Prelude.{◌≡◌, true, false, List, ℕ, ◌≤◌, ◌<◌}
use Rattle.job.specs.Syntax.{Program}
use Rattle.job.specs.Read.{read_table, accepted}
use Rattle.job.specs.Node.{Dag}
use Rattle.job.specs.Construct.{construct}
use Rattle.model.specs.Machine.Limits.{Limits, limits, paper}
use Rattle.model.specs.Machine.Reply.{is_refused}
use Rattle.calculus.specs.Event.{Event}
use Rattle.calculus.specs.Allowed.{Allowed}
use Rattle.calculus.specs.Meaning.{meaning}
use Rattle.model.specs.Run.Call.{Call, Runner, runner, started, machine_after, events_from, none_refused}
use Rattle.model.specs.Run.Follow.{House, Followed}

-- The three parts of a program, on a dag
module _ (R : Runner) (p : Program) (d : Dag) where
  -- the start of a run is accepted
  abbrev pub Begins : Limits → Type 0
  Begins lim = is_refused (R.start lim d).reply ≡ false

  -- "First part: each run's event list is allowed for its table": with any numbers of tokens, cells and calls, if there is a token
  abbrev pub FirstOn : Type 0
  FirstOn =
      (t c k : ℕ) → 1 ≤ t
      → Begins (limits t c k)
      × ((calls : List Call) → Allowed (meaning p) (events_from R (limits t c k) d (started R (limits t c k) d) calls))

  -- "Middle part: for each accepted table and each list allowed for it there are numbers of tokens, cells and calls such that, with
  -- these or any larger ones in place of 64, 32 and 1,000,000, .. some run of that table without refused calls has exactly this event
  -- list."
  abbrev pub Shown : List Event → (tokens cells calls : ℕ) → Type 0
  Shown events t c k =
      Begins (limits t c k)
      × (calls : List Call)
      × (none_refused R (limits t c k) d (started R (limits t c k) d) calls ≡ true)
      × (events_from R (limits t c k) d (started R (limits t c k) d) calls ≡ events)

  abbrev pub MiddleOn : Type 0
  MiddleOn =
      (events : List Event) → Allowed (meaning p) events
      → (t : ℕ) × (c : ℕ) × (k : ℕ) × ((t' c' k' : ℕ) → t ≤ t' → c ≤ c' → k ≤ k' → Shown events t' c' k')

  -- "Last part: .. Take any moment of a run and a token then ready with k others before it in the queue, and let every later step take
  -- place 0. .. While neither has happened and no later step was refused, at most k later steps have been accepted."
  abbrev pub LastOn : Type 0
  LastOn =
      Begins paper
      × ((earlier later : List Call) → House later
      → (k : ℕ) → k < (machine_after R paper d (started R paper d) earlier).queued
      → (n : ℕ) × Followed R paper d (machine_after R paper d (started R paper d) earlier) k later n × (n ≤ k))

-- The statement: of every accepted table, on the dag of the construction
module _ (R : Runner) where
  abbrev pub First : Type 0
  First = (table : List ℕ) (p : Program) → read_table table ≡ accepted p → FirstOn R p (construct p)

  abbrev pub Middle : Type 0
  Middle = (table : List ℕ) (p : Program) → read_table table ≡ accepted p → MiddleOn R p (construct p)

  abbrev pub Last : Type 0
  Last = (table : List ℕ) (p : Program) → read_table table ≡ accepted p → LastOn R p (construct p)

pub record Demand3 : Type 0 where
  pub first : First runner
  pub middle : Middle runner
  pub last : Last runner
