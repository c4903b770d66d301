-- Document 02, request 2: "A metronome calls itself as its last act and today dies of frames." It does not any more. Assumes nothing: these
-- are definitions.
use Rattle.std.specs.Prelude.{◌≡◌, true, List, [], ◌∷◌, ◌++◌, ℕ, zero, suc, ◌+◌, ◌*◌, ◌<◌, ◌≤◌, pos}
use Rattle.job.specs.Node.{Dag}
use Rattle.job.specs.Syntax.{Program, constant, site, call}
use Rattle.job.specs.Site.{last_time}
use Rattle.job.specs.Construct.{construct}
use Rattle.job.specs.Notation.{◌>[◌]>◌, calling}
use Rattle.calculus.specs.Event.{Event}
use Rattle.model.specs.Machine.Limits.{paper}
use Rattle.model.specs.Machine.InUse.{tokens_used, marked}
use Rattle.model.specs.Run.Call.{Call, advance, runner, started, machine_after, events_from, none_refused}
use Rattle.model.specs.declared.record.Machine.{Machine}
use Rattle.marked_runs.specs.Endless.{house}

module _ (t : ℕ) where
  -- M() = rwait(t) >x> M(), goal M()
  abbrev pub metronome : Program
  metronome = calling (site 7 (constant (pos t) ∷ []) >[ 0 ]> call 0 [])

  abbrev pub metronome_dag : Dag
  metronome_dag = construct metronome

  abbrev pub metronome_started : Machine
  metronome_started = started runner paper metronome_dag

  -- so many ticks from a time on: each is a clock move and three steps, to M()'s next call of rwait
  unfoldable pub ticks : (time count : ℕ) → List Call
  ticks c zero = []
  ticks c (suc n) = advance (c + t) ∷ house 3 ++ ticks (c + t) n

  unfoldable pub moves_at : (time count : ℕ) → List Event
  moves_at c zero = []
  moves_at c (suc n) = Event.move (c + t) ∷ moves_at (c + t) n

  -- the goal's call, the first call of rwait, then so many ticks
  abbrev pub beats : (count : ℕ) → List Call
  beats n = house 2 ++ ticks 0 n

-- No call is refused, the clock moves are the only events, and two tokens are in use at the end
pub record Beats (t n : ℕ) : Type 0 where
  pub none-refused : none_refused runner paper (metronome_dag t) (metronome_started t) (beats t n) ≡ true
  pub moves-alone : events_from runner paper (metronome_dag t) (metronome_started t) (beats t n) ≡ moves_at t 0 n
  pub two-tokens : marked (tokens_used (machine_after runner paper (metronome_dag t) (metronome_started t) (beats t n))) ≡ 2

-- so many ticks, as long as the next call of rwait falls due within the clock's range. (A week of 604,800 seconds: 3,549 ticks.)
abbrev pub Metronome : Type 0
Metronome = (t n : ℕ) → 0 < t → suc n * t ≤ last_time → Beats t n
