-- What the buffer holds decides what is printed, whatever the reader has left besides.
use Rattle.std.proofs.Common.{rules}
use Rattle.std.proofs.Math.Nat.{sub-zero}
use Rattle.std.specs.Io.KnownBytes.{Appends}
use Rattle.streams.specs.Parts.{AppendsPart}
use Rattle.program.proofs.Handed.{on_err}
use Rattle.program.proofs.Enough.{known_enough}
use Rattle.program.proofs.standard.run_input.Goals as goal

pub returns-in_err-print_run-clause-err : goal.returns-in_err-print_run-clause-err
returns-in_err-print_run-clause-err g c =
    let read = c.in_ok-n.ensures in
    let part = simp sub-zero at c.in_err-print_run.ensures.err in
    on_err _ (known_enough _ _ c.read_full.new.buf c.in_ok-n.n (search rules) (search rules) read.bytes read.end (AppendsPart _ _) part)

pub returns-clause-ok : goal.returns-clause-ok
returns-clause-ok g c =
    let read = c.in_ok-n.ensures in
    let all = simp sub-zero at c.in_ok-print_run.ensures.ok in
    known_enough _ _ c.read_full.new.buf c.in_ok-n.n (search rules) (search rules) read.bytes read.end (Appends _ _) all
