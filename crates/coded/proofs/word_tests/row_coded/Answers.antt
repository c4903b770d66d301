-- Field by field, then the slots.
use Rattle.std.proofs.Common.{arith, rules, tests, refl, drop, length-drop, ℕ, sym, ◌∙◌}
use Rattle.std.proofs.lemmas.Iterator.{YieldsList-from_slice}
use Rattle.std.proofs.lemmas.Iterator.Search.{all_from_yields_List}
use Rattle.job.specs.Test.{◌and◌}
use Rattle.job.proofs.Test.{clash}
use Rattle.coded.specs.WordTests.{row_coded}
use Rattle.coded.proofs.WordTests.{bind_coded, binds-listed}
use Rattle.job.proofs.Rows.{cut-rows}
use Rattle.coded.proofs.word_tests.row_coded.Goals.{then-state_coded, else-state_coded, then-held_coded, else-held_coded}
use Rattle.coded.proofs.word_tests.row_coded.Goals as goal

pub returns-then-row-eq0 : goal.returns-then-row-eq0
unfolding row_coded ◌and◌
returns-then-row-eq0 c =
    let cut =
    cut-rows 2 8 _ (drop 8 c.args.row.now) _ _ c.as_chunks.ensures.front (omega arith) (omega (arith, length-drop {A = ℕ})) refl in
    let e =
    all_from_yields_List bind_coded _ _ c.all.result c.all.ensures.ran (YieldsList-from_slice _ (c.iter.ensures.rest ∙ cut)) (λ x b q k. search (rules, tests))
    ∙ binds-listed 8 (drop 8 c.args.row.now) in
    elim c.if-held_coded.branch [
      | then-held_coded w ↦
          elim c.if-state_coded.branch [
            | then-state_coded u ↦
                e ∙ sym (rw (← c.state_coded.ensures, u.if-state_coded.true, ← u.held_coded.ensures, ← u.value-is, w.if-held_coded.true, ← w.value-is, c.if-row-eq0.true))
            | else-state_coded u ↦ clash w.if-held_coded.true (u.value-is ∙ u.if-state_coded.false)
          ]
      | else-held_coded w ↦ clash c.if-row-eq0.true (w.value-is ∙ w.if-held_coded.false)
    ]

pub returns-else-row-eq0 : goal.returns-else-row-eq0
unfolding row_coded ◌and◌
returns-else-row-eq0 c =
    elim c.if-held_coded.branch [
      | then-held_coded w ↦
          elim c.if-state_coded.branch [
            | then-state_coded u ↦
                rw (← c.state_coded.ensures, u.if-state_coded.true, ← u.held_coded.ensures, ← u.value-is, w.if-held_coded.true, ← w.value-is, c.if-row-eq0.false)
            | else-state_coded u ↦ clash w.if-held_coded.true (u.value-is ∙ u.if-state_coded.false)
          ]
      | else-held_coded w ↦
          elim c.if-state_coded.branch [
            | then-state_coded u ↦
                rw (← c.state_coded.ensures, u.if-state_coded.true, ← u.held_coded.ensures, ← u.value-is, w.if-held_coded.false, c.if-row-eq0.false)
            | else-state_coded u ↦
                rw (← c.state_coded.ensures, u.if-state_coded.false, c.if-row-eq0.false)
          ]
    ]
