-- `orcrun::orcrun` meets its contract: each answer's bytes are those of the definition. Assumes nothing.
use borrow.Author.Rules.{rules}
use mathlib.Core.Path.{sym, ◌∙◌}
use Rattle.model.specs.Output.Line.{long}
use Rattle.lines.specs.LineTold.{told}
use Rattle.lines.proofs.ShownBytes.{shown-all, shows-as}
use Rattle.lines.proofs.LineParts.{text-one}
use Rattle.run.proofs.OrcrunLaws.{inside, entry-small, run-accepted, whole_long, whole-table, whole_run, dag-long, dag-loaded}
use Rattle.run.proofs.orcrun.orcrun.Goals as goal

pub returns-then-input-gt65536 : goal.returns-then-input-gt65536
unfolding told
returns-then-input-gt65536 c =
    let all = shown-all (shows-as (text-one long ∙ whole_long _ c.if-input-gt65536.true) c.show_alone.ensures) in
    record { value = all.0; dag_after = dag-long _ _ c.if-input-gt65536.true; output_after = all.1 }

pub slice_bounds-load-end : goal.slice_bounds-load-end
slice_bounds-load-end c = let z = inside _ _ c.table_end-end.ensures in search rules

pub overflow_cast-refused : goal.overflow_cast-refused
overflow_cast-refused c = let small = entry-small _ _
    c.table_end-end.ensures _
    (sym c.in-Err.is ∙ c.load-answer.ensures.value) in search rules

pub slice_bounds-run-count : goal.slice_bounds-run-count
slice_bounds-run-count c = let z = inside _ _ c.table_end-end.ensures in search rules

pub run-requires : goal.run-requires
run-requires c = (
  run-accepted _ _ c.table_end-end.ensures c.if-input-gt65536.false _ _ _ c.told-dag
      (sym c.in-Ok.is ∙ c.load-answer.ensures.value) c.load-answer.ensures.dag_after,
  search rules,
)

pub returns-in-Err : goal.returns-in-Err
unfolding told
returns-in-Err c =
    let refused = sym c.in-Err.is ∙ c.load-answer.ensures.value in
    let whole = whole-table _ _ c.table_end-end.ensures c.if-input-gt65536.false _ refused _ c.from-number.ensures in
    let all = shown-all (shows-as (text-one _ ∙ whole) c.show_alone-in-Err.ensures) in
    record {
      value = all.0;
      dag_after = dag-loaded _ _ c.table_end-end.ensures c.if-input-gt65536.false _ _
          c.load-answer.ensures.dag_after;
      output_after = all.1;
    }

pub returns-in-Ok : goal.returns-in-Ok
returns-in-Ok c = let accepted = sym c.in-Ok.is ∙ c.load-answer.ensures.value in
    let whole =
    whole_run _ _ c.table_end-end.ensures c.if-input-gt65536.false _ _ _ c.told-dag accepted c.load-answer.ensures.dag_after in
    let all = shown-all (shows-as whole c.run.ensures) in
    record {
      value = all.0;
      dag_after = dag-loaded _ _ c.table_end-end.ensures c.if-input-gt65536.false _ _
          c.load-answer.ensures.dag_after;
      output_after = all.1;
    }
