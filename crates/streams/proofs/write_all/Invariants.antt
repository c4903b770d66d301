-- Each turn writes at least a byte, and what stands before the rest is what was written.
use Rattle.std.proofs.Common.{◌≡◌, ℕ, ◌≤◌, length, take, drop}
use Rattle.std.specs.Io.KnownBytes.{Appends}
use Rattle.streams.proofs.write_all.Given as goal

abbrev pub invariant-loop-rest : goal.invariant-loop-rest
invariant-loop-rest g l = record {
  done : ℕ;
  within : done ≤ length l.bytes;
  behind : l.rest ≡ drop done l.bytes;
  before : Appends (g.W.Write.contents l.initial.writer) (g.W.Write.contents l.writer) (take done l.bytes);
}

abbrev pub decreases-loop-rest : goal.decreases-loop-rest
decreases-loop-rest g l = length l.rest
