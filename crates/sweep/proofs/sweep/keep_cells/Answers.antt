-- `sweep::keep_cells` meets its contract: the stages are the tables of which the first rows are kept or blank. Assumes nothing.
use mathlib.Core.Bool.{true, false}
use mathlib.Core.Path.{subst, ◌∙◌}
use native.Mathlib.Omega.{arith}
use borrow.Author.Rules.{rules}
use Rattle.std.specs.Prelude.{None}
use Rattle.job.proofs.Lists.{get_d_any}
use Rattle.record.specs.Changes.{store_cell, unset_cell}
use Rattle.record.specs.Holds.{Holds}
use Rattle.sweep.proofs.SweepLaws.{cells_kept, cells-first, cells-keep, cells-idle, cells-blank, cells-last}
use Rattle.sweep.proofs.sweep.keep_cells.Goals as goal

pub returns : goal.returns
returns c = (
  search rules,
  λ m h v.
      let marks = c.args.marks.now in
      let used = c.args.used.now in
      let long = h.codes.shaped.cells in
      subst (Holds _)
      (cells-last used m c.args.end c.requires.1 long c.requires.2 (λ i from to. v i to (c.requires.3 i from to)))
      (c.keep_rows.ensures (cells_kept used m) (subst (Holds _) (cells-first used m) h)
      (λ p l e. cells-keep used m p c.requires.1 long (omega arith) e)
      (λ p l e. cells-idle used m p c.requires.1 long (omega arith) (v p (omega arith) (get_d_any marks p true false (omega arith) ∙ e)))
      (λ p x y l e k post.
      let after : Holds y.now (store_cell p (unset_cell None) (cells_kept used m p)) = search rules in
      subst (Holds y.now) (cells-blank used m p c.requires.1 long (omega arith) e) after)),
)
