-- `Window::show_line` meets its contract: the line is put where it is shown, or the line in the buffer is shown. Assumes nothing.
use mathlib.Core.Path.{refl}
use borrow.Author.Rules.{rules}
use Rattle.lines.proofs.ShownBytes.{shows-put, shows-line, blank-line}
use Rattle.lines.proofs.shown.Window.show_line.Goals as goal

pub returns-then-has_room-clause-shows : goal.returns-then-has_room-clause-shows
returns-then-has_room-clause-shows c =
    record {
      same_reference = search rules;
      from = refl;
      shows_bytes = shows-put c.put.ensures (c.has_room.ensures c.if-has_room.true).0;
    }

pub returns-else-has_room-clause-shows : goal.returns-else-has_room-clause-shows
returns-else-has_room-clause-shows c =
    let shown = c.show_bytes.ensures in
    record {
      same_reference = shown.same_reference;
      from = shown.from;
      shows_bytes = shows-line c.put-n.ensures blank-line shown.shows_bytes;
    }
