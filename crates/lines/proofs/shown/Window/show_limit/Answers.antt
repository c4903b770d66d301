-- `Window::show_limit` meets its contract: one line, then the last. Assumes nothing.
use Rattle.model.specs.Output.Line.{limit}
use Rattle.lines.specs.LineTold.{told}
use Rattle.lines.proofs.WindowLaws.{window-as, window-then}
use Rattle.lines.proofs.LineParts.{text-first, text-one}
use Rattle.lines.proofs.shown.Window.show_limit.Goals as goal

pub returns : goal.returns
unfolding told
returns c =
    window-as (text-first limit _) (window-then c.show_line.ensures.shows (window-as (text-one _) c.show_line-2.ensures.shows))
