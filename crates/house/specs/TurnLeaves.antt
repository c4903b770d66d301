-- What a turn of a run leaves: the outcome's record in the words, its line in the output, and whether the run is over. Assumes nothing:
-- these are definitions.
use Rattle.std.specs.Prelude.{◌≡◌, Bool, List, ℕ, ◌+◌, ◌≤◌}
use Rattle.model.specs.Output.Line.{Line, text_of_all}
use Rattle.model.specs.Output.Orcrun.{reported_lines}
use Rattle.model.specs.declared.record.Machine.{Machine}
use Rattle.model.specs.declared.reply.Outcome.{Outcome}
use Rattle.record.specs.Holds.{Holds}
use Rattle.reach.specs.Marks.{MarksOf}
use Rattle.reach.specs.declared.used.Marks.{Marks}
use Rattle.acts.specs.Acting.{CallersAreFrames}
use Rattle.acts.specs.SharedFrames.{OneCallee}
use Rattle.lines.specs.Shown.{ShowsBytes}
use Rattle.turns.specs.Turn.{is_over}

-- the lines of an outcome
abbrev pub lines_from : Outcome → List Line
lines_from o = reported_lines o.reply o.values

pub record TurnLeaves (o : Outcome) (m : Machine) (ws : List ℕ) (used : Marks) (shared : List Bool) (output : List ℕ) (from total : ℕ)
    (after : List ℕ) (next : ℕ) (ended : Bool)
    : Type 0 where
  pub holds : Holds ws o.machine
  pub marks : CallersAreFrames m → MarksOf o.machine used
  pub callees : CallersAreFrames m → OneCallee shared o.machine
  pub lines : ShowsBytes output from total (text_of_all (lines_from o)) after next
  pub few : next ≤ total + 80
  pub over : ended ≡ is_over m.queued o.reply
