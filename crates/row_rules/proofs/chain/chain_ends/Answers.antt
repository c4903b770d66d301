-- The chain from the place goes on with the links that are left.
use mathlib.Core.Logic.{inl, inr}
use Rattle.std.proofs.Common.{◌∙◌, ap, sym, arith, refl, ◌+◌, ◌-◌, ◌<◌}
use Rattle.std.proofs.lemmas.Bool.Decides.{nat_tests}
use Rattle.job.specs.Test.{◌or◌}
use Rattle.job.proofs.Test.{or_cases, eqb-eq, ltb-lt}
use Rattle.model.specs.Machine.Rules.{chain_ends}
use Rattle.record.specs.LayoutDecoded.{place_from}
use Rattle.row_rules.proofs.RangeLaws.{no_place, at_place, nowhere}
use Rattle.row_rules.proofs.ChainLaws.{ends-stop, ends-past, ends_on, ends_last}
use Rattle.record.proofs.PlaceNumber.{place-back}
use Rattle.row_rules.proofs.chain.chain_ends.Goals as goal

pub returns-then-here : goal.returns-then-here
unfolding ◌or◌
returns-then-here c = λ m h.
    let now = c.loop-link in
    elim (or_cases _ _ c.if-here.true) [
      | inl e ↦ ends-stop m.cells _ now._link h.shaped.cells (no_place (eqb-eq _ 0 e)) ∙ sym (now.invariant m h)
      | inr e ↦
          let far = ltb-lt 32 _ e in
          ends-past m.cells _ now._link h.shaped.cells (now.here - 1) (at_place now.here _ (λ z. absurd (omega arith)) refl)
          (omega arith) (omega arith)
          ∙ sym (now.invariant m h)
    ]

pub loop-link-preserved : goal.loop-link-preserved
loop-link-preserved c = λ m h.
    let now = c.loop-link in
    let some : 0 < now.here = grind (arith, nat_tests) in
    now.invariant m h
    ∙ ends_on m.cells _ now._link h.shaped.cells _
    (at_place now.here _ (λ z. absurd (omega arith)) (ap (λ n. n - 1) c.wide.ensures)) (omega arith)
    ∙ ap (chain_ends m.cells (32 - (now._link + 1))) (sym (ap place_from (c.parent-here.ensures m h) ∙ place-back _))

pub returns : goal.returns
returns c = λ m h.
    let last = c.loop-link in
    nowhere last.here ∙ ends_last m.cells _ last._link h.shaped.cells (omega arith) ∙ sym (last.invariant m h)
