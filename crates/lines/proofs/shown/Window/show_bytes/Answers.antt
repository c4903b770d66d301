-- `Window::show_bytes` meets its contract. Assumes nothing.
use mathlib.Core.Path.{◌≡◌, refl, ◌∙◌, ap}
use lib.ListN.{take}
use lib.Seq.{take_all}
use borrow.Author.Rules.{rules}
use native.Mathlib.Omega.{arith}
use Rattle.lines.specs.Shown.{showing}
use Rattle.lines.proofs.ShownBytes.{line-more}
use Rattle.lines.proofs.shown.Window.show_bytes.Goals as goal

pub loop-byte-init : goal.loop-byte-init
unfolding showing
loop-byte-init c = record { total = omega arith; shown = refl }

pub loop-byte-preserved : goal.loop-byte-preserved
loop-byte-preserved c =
    let now = c.loop-byte.invariant in
    let next = c.show_byte.ensures in
    record {
      total = omega arith;
      shown = line-more _ _ _ _ _ _ _ c.loop-byte-test.true now.shown (rw now.total at next);
    }

pub returns : goal.returns
returns c =
    let now = c.loop-byte.invariant in
    let whole : take c.loop-byte.byte-index c.args.line.now ≡ c.args.line.now = take_all _ _ c.loop-byte-test.false in
    let end = c.loop-byte-test.false in
    let within = c.loop-byte.auto.byte-index-end in
    let total = now.total in
    record {
      same_reference = refl;
      from = refl;
      shows_bytes = record {
        stored = now.shown ∙ ap (showing c.args.self.now.output.now c.args.self.now.from c.args.self.now.total) whole;
        behind = omega arith;
      };
    }
