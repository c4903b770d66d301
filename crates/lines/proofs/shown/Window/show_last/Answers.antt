-- `Window::show_last` meets its contract: `short` where bytes are left, then the last line. Assumes nothing.
use mathlib.Core.Path.{◌∙◌, ap}
use borrow.Author.Rules.{rules}
use Rattle.model.specs.Output.Line.{text_of_all, short}
use Rattle.lines.specs.LineTold.{told}
use Rattle.lines.proofs.WindowLaws.{window-as, window-then}
use Rattle.lines.proofs.LineParts.{text-first, text-one}
use Rattle.lines.proofs.LastLines.{last_none, last_some}
use Rattle.lines.proofs.shown.Window.show_last.Goals as goal
use Rattle.lines.proofs.shown.Window.show_last.Goals.{then-left-ne0, else-left-ne0}

pub show_line-requires-2 : goal.show_line-requires-2
show_line-requires-2 c = elim c.if-left-ne0.branch [
  | then-left-ne0 w ↦ let few = w.show_line.ensures.upper_bound in rw w.self-is (search rules)
  | else-left-ne0 w ↦ rw w.self-is (search rules)
]

pub returns : goal.returns
unfolding told
returns c =
    let last = window-as (text-one _) c.show_line-2.ensures.shows in
    elim c.if-left-ne0.branch [
      | then-left-ne0 w ↦
          window-as (text-first short _ ∙ ap text_of_all (last_some _ _ w.if-left-ne0.true))
          (window-then w.show_line.ensures.shows (rw w.self-is at last))
      | else-left-ne0 w ↦ window-as (ap text_of_all (last_none _ _ w.if-left-ne0.false)) (rw w.self-is at last)
    ]
