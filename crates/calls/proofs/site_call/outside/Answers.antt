-- `site_call::outside` meets its contract: each way out is how the definition's step ends there. Assumes nothing.
use Rattle.calls.proofs.SiteCall.{call-gives, calls-out, calls-no-more, values-count}
use Rattle.acts.proofs.Outcomes.{row, row_fits, token-inside, gives-refused}
use Rattle.sites.proofs.RowKinds.{site-number, site-params}
use mathlib.Core.Path.{refl, ◌∙◌}
use native.Mathlib.Omega.{arith}
use borrow.Author.Rules.{rules}
use Rattle.calls.proofs.site_call.outside.Goals as goal

pub returns-then-handle-ge-CALL_LIMIT : goal.returns-then-handle-ge-CALL_LIMIT
returns-then-handle-ge-CALL_LIMIT c = λ m k l.
    let e = c.calls_made-handle.ensures m k.acting.taking.lawful.holds.codes in
    gives-refused 13 _ k.acting.taking.lawful (calls-no-more _ _ m k l (omega arith)) c.plain.ensures

pub dag_word-requires : goal.dag_word-requires
dag_word-requires c = let l = row_fits c.requires.is.acting in omega arith

pub call_out-requires : goal.call_out-requires
call_out-requires c = (token-inside c.requires.is.acting.taking, search rules)

pub dag_word-site-requires : goal.dag_word-site-requires
dag_word-site-requires c = let l = row_fits c.requires.is.acting in omega arith

pub overflow_cast-site : goal.overflow_cast-site
overflow_cast-site c = let l = site-number _ _ (row c.requires.is.acting) in
    omega (arith, c.dag_word-site.ensures)

pub dag_word-count-requires : goal.dag_word-count-requires
dag_word-count-requires c = let l = row_fits c.requires.is.acting in omega arith

pub overflow_cast-count : goal.overflow_cast-count
overflow_cast-count c = let l = (site-params _ _ (row c.requires.is.acting)).few in
    omega (arith, c.dag_word-count.ensures)

pub returns : goal.returns
returns c = λ m k l.
    let e = c.calls_made-handle.ensures m k.acting.taking.lawful.holds.codes in
    call-gives k.acting.taking _ _ _ _ _ _ k.values _ (calls-out _ _ m k l (omega arith)) e c.dag_word-site.ensures
    c.dag_word.ensures (c.dag_word-count.ensures ∙ values-count k) refl k.padded
    (c.call_out.ensures m k.acting.taking.lawful.holds k.acting.taking.queued)
