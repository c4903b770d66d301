-- Each turn of `calls` makes the definition's next call. Assumes nothing.
use mathlib.Core.Path.{◌≡◌, ◌∙◌}
use native.Mathlib.Omega.{arith}
use Rattle.bench.proofs.Calling.{calls-all, in-round, calls-over, handles-over, call-stepped, call-answered}
use Rattle.bench.proofs.calls.Goals as goal
use Rattle.bench.proofs.calls.Goals.{then-ready-gt0, else-ready-gt0+else-handles-at}

pub loop-n-init : goal.loop-n-init
loop-n-init c = (omega arith, calls-all _ _ _ _)

pub returns-then-handles-at : goal.returns-then-handles-at
returns-then-handles-at c =
    let over = handles-over _ _ _ _ _ _ _ (omega arith) c.loop-n.invariant.1 _ c.ready.ensures (omega arith) (omega arith) in
    let round = in-round _ _ _ _ _ _ c.start.ensures over in
    record { value = round.0; words_after = round.1 }

pub loop-n-preserved : goal.loop-n-preserved
loop-n-preserved c =
    let ready = c.ready.ensures in (
      omega arith,
      elim c.if-ready-gt0.branch [
        | then-ready-gt0 w ↦
            call-stepped _ _ _ _ _ _ _ (omega arith) c.loop-n.invariant.1 _ ready w.if-ready-gt0.true _ _ _ w.step.ensures _ _
            (omega arith) w.at-is w.words-is
        | else-ready-gt0+else-handles-at w ↦
            call-answered _ _ _ _ _ _ _ (omega arith) c.loop-n.invariant.1 _ ready w.if-ready-gt0.false w.if-handles-at.false _ _ _
            w.answer.ensures _ _ (omega arith) (omega (arith, w.at-is)) w.words-is
      ],
    )

pub returns : goal.returns
returns c =
    let round = in-round _ _ _ _ _ _ c.start.ensures (calls-over _ _ _ _ _ _ _ (omega arith) c.loop-n.invariant.1) in
    let made : c.args.most ≡ c.loop-n.n = omega arith in
    record { value = made ∙ round.0; words_after = round.1 }
