-- `sweep::keep_rows` meets its contract. The loop's invariant: the record is at the stage before the row's turn. Assumes nothing.
use mathlib.Core.Bool.{Bool, true, false, not, ◌&&◌}
use mathlib.Core.Logic.{◌⊎◌, inl, inr, ⊎_elim}
use mathlib.Core.Path.{◌≡◌, refl, sym, subst}
use Prim.Native.Nat.{◌+◌}
use native.Mathlib.Omega.{arith}
use Rattle.record.specs.Holds.{Holds}
use Rattle.sweep.proofs.sweep.keep_rows.Goals as goal
use Rattle.sweep.proofs.sweep.keep_rows.Goals.{then-marks-p, else-marks-p}

out-of-use : (a b : Bool) → (a && not b) ≡ true → b ≡ false
out-of-use true false e = refl
out-of-use true true e = sym e
out-of-use false b e = absurd (cc)

as-it-was : (a b : Bool) → (a && not b) ≡ false → (b ≡ true) ⊎ (a ≡ false)
as-it-was true true e = inl refl
as-it-was true false e = absurd (cc)
as-it-was false b e = inr refl

pub loop-p-init : goal.loop-p-init
loop-p-init g c = λ stage h k i b. h

pub loop-p-preserved : goal.loop-p-preserved
loop-p-preserved g c = λ stage h k i b.
    let l = c.loop-p in
    let before = l.invariant stage h k i b in
    elim c.if-marks-p.branch [
      | then-marks-p t ↦
          subst (λ ws. Holds ws (stage (l.p + 1))) (sym t.w-is)
          (b l.p _ _ (omega arith) (out-of-use _ _ t.if-marks-p.true) before t.make_blank.ensures)
      | else-marks-p t ↦
          subst (λ ws. Holds ws (stage (l.p + 1))) (sym t.w-is)
          (subst (Holds l.w) (⊎_elim (k l.p (omega arith)) (i l.p (omega arith)) (as-it-was _ _ t.if-marks-p.false)) before)
    ]

pub returns : goal.returns
returns g c = λ stage h k i b.
    let l = c.loop-p in
    let over : l.p ≡ c.args.end = omega arith in
    subst (λ p. Holds l.w (stage p)) over (l.invariant stage h k i b)
