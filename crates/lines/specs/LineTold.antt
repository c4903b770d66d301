-- The lines of the code as those of the definitions. Assumes nothing: these are definitions.
use Rattle.std.specs.Prelude.{⊤, ◌≤◌, length}
use Rattle.model.specs.Output.Line as Output
use Rattle.lines.specs.declared.line.Line.{Line}
use Rattle.lines.specs.declared.line.Line.TheVariants as lines

unfoldable pub told : Line → Output.Line
told (lines.Call h s vs) = Output.call h s vs.now
told (lines.Publish v) = Output.publish v
told (lines.Refused n) = Output.refused n
told (lines.Table n e) = Output.table n e
told (lines.End n) = Output.end n
told lines.Limit = Output.limit
told lines.Short = Output.short
told lines.Long = Output.long

-- a call's line has at most four values, so that none is longer than 80 bytes
abbrev pub HasFewValues : Line → Type 0
HasFewValues (lines.Call h s vs) = length vs.now ≤ 4
HasFewValues l = ⊤
