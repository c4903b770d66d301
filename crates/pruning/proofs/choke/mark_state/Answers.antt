-- After p turns the first p marks are the tests of the first p tokens; no mark is there of a blank one. Assumes nothing.
use mathlib.Core.Bool.{false}
use mathlib.Core.Path.{◌≡◌, sym, ap, subst}
use native.Mathlib.Omega.{arith}
use lib.Dec.{eqb}
use lib.ListN.{replicate}
use Rattle.model.specs.Machine.Blank.{blank_token, token_at}
use Rattle.sites.proofs.TableLoops.{Mapping, mapping-none, mapping-more}
use Rattle.pruning.proofs.ChokeLaws.{kinds-rest}
use Rattle.pruning.proofs.choke.mark_state.Goals as goal

pub loop-p-init : goal.loop-p-init
loop-p-init c = λ m h none.
    subst (Mapping _ m.tokens (replicate 64 false) 0) (sym none) (mapping-none _ m.tokens _ (sym h.shaped.tokens))

pub loop-p-preserved : goal.loop-p-preserved
unfolding token_at
loop-p-preserved c = λ m h none.
    mapping-more _ m.tokens _ _ _ _ blank_token (c.loop-p.invariant m h none) (omega (arith, h.shaped.tokens))
    (ap (λ n. eqb n c.args.kind) (c.state.ensures m h))

pub returns : goal.returns
returns c = λ m h blank none.
    let l = c.loop-p in
    let over : l.p ≡ c.args.end = omega arith in
    kinds-rest m c.args.kind l.p _ h.shaped.tokens c.requires.0 (omega arith) (λ i from. blank i (omega arith))
    (l.invariant m h none)
