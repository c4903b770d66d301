-- `Window::show_reply` meets its contract: case by case. Assumes nothing.
use mir.Facts.{to_z-of_z}
use mir.Syntax.{w32}
use mir.Val.{SFits}
use mathlib.Core.Path.{◌∙◌, ap}
use Prim.Native.Nat.{ℕ, min}
use native.Mathlib.Omega.{arith}
use lib.ListN.{length-take}
use borrow.Author.Rules.{rules}
use Rattle.lines.specs.LineTold.{told}
use Rattle.lines.proofs.WindowLaws.{window-as, window-none}
use Rattle.lines.proofs.ReportLines.{tells-nothing, tells-publish, tells-call, tells-refusal}
use Rattle.lines.proofs.shown.Window.show_reply.Goals as goal

pub show_line-requires-in-Called : goal.show_line-requires-in-Called
show_line-requires-in-Called c =
    let few = c.min-most.ensures in
    let size = length-take c.min-most.result c.args.values in
    (search rules, omega arith)

pub returns-in-Done-clause-shows : goal.returns-in-Done-clause-shows
returns-in-Done-clause-shows c = window-as (tells-nothing _ _ c.in-Done.is) (window-none _)

pub returns-in-Published-clause-shows : goal.returns-in-Published-clause-shows
unfolding told
returns-in-Published-clause-shows c = let fits : SFits w32 c.in-Published.v = search rules in
    let line = rw (to_z-of_z fits) at c.show_line.ensures.shows in
    window-as (tells-publish _ _ _ c.in-Published.is) line

pub returns-in-Called-clause-shows : goal.returns-in-Called-clause-shows
unfolding told
returns-in-Called-clause-shows c =
    window-as (tells-call _ _ _ _ _ _ (search rules) c.in-Called.is
    (c.min-most.ensures ∙ ap (λ (n : ℕ). min n 4) c.from.ensures)) c.show_line-in-Called.ensures.shows

pub returns-in-Refused-clause-shows : goal.returns-in-Refused-clause-shows
unfolding told
returns-in-Refused-clause-shows c =
    window-as (tells-refusal _ _ _ _ c.in-Refused.is c.from-in-Refused.ensures) c.show_line-in-Refused.ensures.shows
