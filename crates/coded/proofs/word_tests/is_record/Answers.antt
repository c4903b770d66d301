-- Words that pass are those of the record that they decode to, and the words of a record pass.
use Rattle.std.proofs.Common.{sym, ◌∙◌, rules, tests, drop}
use Rattle.std.proofs.lemmas.Iterator.{YieldsList-from_slice}
use Rattle.std.proofs.lemmas.Iterator.Search.{all_from_yields_List}
use Rattle.coded.specs.WordTests.{row_coded, cell_coded}
use Rattle.job.proofs.Test.{clash}
use Rattle.coded.proofs.IsRecord.{coded-record, record-codes}
use Rattle.coded.proofs.WordTests.{all_coded, not-coded, table-listed}
use Rattle.coded.proofs.word_tests.is_record.Goals as goal

pub returns-then-all : goal.returns-then-all
returns-then-all c =
    let ws = c.args.w.now in
    let a =
    all_from_yields_List row_coded _ _ c.all.result c.all.ensures.ran (YieldsList-from_slice _ (c.iter.ensures.rest ∙ c.tokens.ensures.rows))
    (λ x b q k. search (rules, tests))
    ∙ table-listed row_coded 24 64 ws in
    let b =
    all_from_yields_List cell_coded _ _ c.all-then-all.result c.all-then-all.ensures.ran
    (YieldsList-from_slice _ (c.iter-then-all.ensures.rest ∙ c.cells.ensures.rows)) (λ x b q k. search (rules, tests))
    ∙ table-listed cell_coded 4 32 (drop 1536 ws) in
    let e = all_coded ws _ _ a b c.if-all.true ∙ coded-record ws c.told-w c.fits-w in
    (e, λ t. record-codes ws c.told-w (sym e ∙ t))

pub returns-else-all : goal.returns-else-all
returns-else-all c =
    let ws = c.args.w.now in
    let a =
    all_from_yields_List row_coded _ _ c.all.result c.all.ensures.ran (YieldsList-from_slice _ (c.iter.ensures.rest ∙ c.tokens.ensures.rows))
    (λ x b q k. search (rules, tests))
    ∙ table-listed row_coded 24 64 ws in
    (c.if-all.false ∙ not-coded ws _ a c.if-all.false ∙ coded-record ws c.told-w c.fits-w, λ t. clash t c.if-all.false)
