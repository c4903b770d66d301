-- The output holds the piece of what the run prints that comes next, and what was counted before it is what the writer was handed.
use Rattle.std.proofs.Common.{◌≡◌, ◌<◌, length, take}
use Rattle.std.specs.Io.KnownBytes.{Appends}
use Rattle.model.specs.Output.Orcrun.{orcrun}
use Rattle.lines.specs.Shown.{Piece}
use Rattle.program.proofs.output.print.Given as goal

abbrev pub invariant-loop-left : goal.invariant-loop-left
invariant-loop-left g l = record {
  some : 0 < l.room;
  room : l.room ≡ length l.output;
  piece : Piece (orcrun l.input) l.from l.left l.output;
  counted : l.written.bytes ≡ l.from;
  handed : Appends (g.W.Write.contents l.initial.writer) (g.W.Write.contents l.writer) (take l.from (orcrun l.input));
}

abbrev pub decreases-loop-left : goal.decreases-loop-left
decreases-loop-left g l = l.left
