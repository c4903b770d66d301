-- `tail_call::tail_call` meets its contract: each way out is how the definition's step ends there. Assumes nothing.
use mathlib.Core.Path.{sym, ◌∙◌}
use native.Mathlib.Omega.{arith}
use Rattle.sites.proofs.RowKinds.{call-root, call-params}
use Rattle.acts.proofs.LinksBound.{binds-none}
use Rattle.acts.proofs.Outcomes.{row, row_fits, token-inside}
use Rattle.tail_calls.proofs.BecomesCallee.{ready, tail-whole, tail-swept, tail-vacant}
use Rattle.tail_calls.proofs.tail_call.tail_call.Goals as goal
use Rattle.tail_calls.proofs.tail_call.tail_call.Goals.{then-bound, else-bound}

pub dag_word-requires : goal.dag_word-requires
dag_word-requires c = let l = row_fits c.requires.is in omega arith

pub dag_word-root-requires : goal.dag_word-root-requires
dag_word-root-requires c = let b = (call-root _ _ _ (row c.requires.is) (c.wide-body.ensures ∙ c.dag_word.ensures)).0 in
    omega arith

pub binds_cell-bound-requires : goal.binds_cell-bound-requires
binds_cell-bound-requires c = token-inside c.requires.is.taking

pub written-requires : goal.written-requires
written-requires c = (
  token-inside c.requires.is.taking,
  call-params _ _ (row c.requires.is),
)

pub returns : goal.returns
returns c = λ m a is.
    let root = c.dag_word-root.ensures ∙ (call-root _ _ _ (row a) (c.wide-body.ensures ∙ c.dag_word.ensures)).2 in
    let holds = c.written.ensures m a.taking.lawful.holds a.taking.queued (ready a) in
    elim c.if-bound.branch [
      | then-bound w ↦
          rw (w.w-is, w.marks-is)
          (tail-swept a is root _ c.plain.ensures (w.sweep.ensures _ holds (tail-vacant a _)))
      | else-bound w ↦
          rw (w.w-is, w.marks-is)
          (tail-whole a is root _ c.plain.ensures
          (binds-none _ (sym (c.binds_cell-bound.ensures m a.taking.lawful.holds.codes) ∙ w.if-bound.false)) holds)
    ]
