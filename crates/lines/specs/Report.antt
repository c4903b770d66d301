-- What is printed of a reply, as bytes. Assumes nothing: these are definitions.
use Rattle.std.specs.Prelude.{List, ℕ, ℤ}
use Rattle.model.specs.Output.Line.{text_of_all}
use Rattle.model.specs.Output.Orcrun.{reported_lines}
use Rattle.model.specs.declared.reply.Reply.{Reply}

-- the line of a reply, where it has one
abbrev pub reply_text : Reply → List ℤ → List ℕ
reply_text reply values = text_of_all (reported_lines reply values)
