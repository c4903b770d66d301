-- After p turns the first p rows are as the definition has them; the blank ones stay as they are. Assumes nothing.
use mathlib.Core.Path.{◌≡◌, sym, subst}
use native.Mathlib.Omega.{arith}
use Rattle.record.specs.Holds.{Holds}
use Rattle.model.specs.Machine.Step.{choke_token}
use Rattle.model.specs.Machine.Update.{with_tables}
use Rattle.sites.proofs.TableLoops.{rows_none, rows_more}
use Rattle.pruning.proofs.ChokeLaws.{rows-rest}
use Rattle.pruning.proofs.choke.choke_rows.Goals as goal

pub loop-p-init : goal.loop-p-init
loop-p-init c = λ m h. subst (Holds _) (sym (rows_none (choke_token m.cells c.args.c) m)) h

pub loop-p-preserved : goal.loop-p-preserved
unfolding with_tables
loop-p-preserved c = λ m h.
    subst (Holds _) (rows_more (choke_token m.cells c.args.c) m c.loop-p.p (omega (arith, h.codes.shaped.tokens)))
    (c.choke_row.ensures _ (c.loop-p.invariant m h))

pub returns : goal.returns
returns c = λ m h blank.
    let l = c.loop-p in
    let over : l.p ≡ c.args.end = omega arith in
    subst (Holds _)
    (rows-rest c.args.c m h.codes.shaped.tokens l.p (λ i from. blank i (omega arith)) (omega arith))
    (l.invariant m h)
