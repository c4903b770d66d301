use Rattle.std.proofs.Common.{◌≡◌, ◌+◌, take}
use Rattle.lines.specs.Shown.{showing}
use Rattle.lines.proofs.shown.Window.show_bytes.Given as goal

-- the bytes passed are shown
abbrev pub invariant-loop-byte : goal.invariant-loop-byte
invariant-loop-byte l = record {
  total : l.total ≡ l.initial.total + l.byte-index;
  shown : l.output ≡ showing l.initial.output l.from l.initial.total (take l.byte-index l.line);
}
