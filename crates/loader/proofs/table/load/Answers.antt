-- `table::load` meets its contract: a refusal writes nothing, and an accepted table has the sizes and the parts that are taken from it.
-- Assumes nothing.
use mathlib.Core.Path.{refl, sym}
use borrow.Author.Rules.{rules}
use native.Mathlib.Omega.{arith}
use Rattle.std.proofs.lemmas.Result.{err_from_is_err_and}
use Rattle.loader.proofs.TableLoad.{refused-answer, refused-words, load-long, load-even, load-few, load-definitions, load-room}
use Rattle.loader.proofs.TableLoad.{part-bytes, load-counted, load-accepts, load-done}
use Rattle.loader.proofs.table.load.Goals as goal

pub returns-in_err-nodes : goal.returns-in_err-nodes
returns-in_err-nodes c =
    let p = err_from_is_err_and c.from_residual.result c.from_residual.ensures.1 in
    record {
      value = rw (p.1, p.2) (refused-answer _ _ c.check_table.ensures.value _ c.in_err-nodes.was);
      dag_after = refused-words _ _ c.check_table.ensures.value _ c.in_err-nodes.was _;
    }

pub bounds-table-0 : goal.bounds-table-0
bounds-table-0 c = let l = load-long _ _ c.check_table.ensures.value _ c.in_ok-nodes.was in search rules

pub bounds-table-1 : goal.bounds-table-1
bounds-table-1 c = let l = load-long _ _ c.check_table.ensures.value _ c.in_ok-nodes.was in search rules

pub bounds-table-2 : goal.bounds-table-2
bounds-table-2 c = let l = load-long _ _ c.check_table.ensures.value _ c.in_ok-nodes.was in search rules

pub bounds-table-3 : goal.bounds-table-3
bounds-table-3 c = let l = load-long _ _ c.check_table.ensures.value _ c.in_ok-nodes.was in search rules

pub slice_bounds-parts-end : goal.slice_bounds-parts-end
slice_bounds-parts-end c =
    let l = load-even _ _ c.check_table.ensures.value _ c.in_ok-nodes.was _ c.half-e.ensures.0 in search rules

pub slice_bounds-parts-count-2 : goal.slice_bounds-parts-count-2
slice_bounds-parts-count-2 c =
    let l = load-even _ _ c.check_table.ensures.value _ c.in_ok-nodes.was _ c.half-e.ensures.0 in search rules

pub slice_bounds-parts-start-2 : goal.slice_bounds-parts-start-2
slice_bounds-parts-start-2 c =
    let l = load-even _ _ c.check_table.ensures.value _ c.in_ok-nodes.was _ c.half-e.ensures.0 in search rules

pub invariant_of-parts-clause-fit : goal.invariant_of-parts-clause-fit
invariant_of-parts-clause-fit c =
    let l = load-even _ _ c.check_table.ensures.value _ c.in_ok-nodes.was _ c.half-e.ensures.0 in
    let f = load-few _ _ c.check_table.ensures.value _ c.in_ok-nodes.was _ c.half-e.ensures.0 in
    search rules

pub invariant_of-parts-clause-bytes : goal.invariant_of-parts-clause-bytes
invariant_of-parts-clause-bytes c = part-bytes c.args.table.now (λ i. omega (arith, c.type_inv.table i)) _ _

pub slice_bounds-sizes-end : goal.slice_bounds-sizes-end
slice_bounds-sizes-end c = load-room _ _ c.check_table.ensures.value _ c.in_ok-nodes.was _ c.half-e.ensures.0 _
    c.half-definitions.ensures.0 _ _ refl c.check_table.ensures.sizes_after

pub slice_bounds-compile_program-end : goal.slice_bounds-compile_program-end
slice_bounds-compile_program-end c = sym (load-counted _ _ c.check_table.ensures.value _ c.in_ok-nodes.was _ c.half-e.ensures.0 _
    c.half-definitions.ensures.0 _ _ refl c.check_table.ensures.sizes_after)

pub compile_program-requires : goal.compile_program-requires
compile_program-requires c =
    let few = load-definitions _ _ c.check_table.ensures.value _ c.in_ok-nodes.was _ c.half-e.ensures.0 _
    c.half-definitions.ensures.0 in
    let counted = load-counted _ _ c.check_table.ensures.value _ c.in_ok-nodes.was _ c.half-e.ensures.0 _
    c.half-definitions.ensures.0 _ _ refl c.check_table.ensures.sizes_after in
    record {
      count_bound = rw counted few;
      accepts = load-accepts _ _ c.check_table.ensures.value _ c.in_ok-nodes.was _ c.half-e.ensures.0 _
          c.half-definitions.ensures.0 _ _ refl c.check_table.ensures.sizes_after;
    }

pub returns : goal.returns
returns c =
    let counted = load-counted _ _ c.check_table.ensures.value _ c.in_ok-nodes.was _ c.half-e.ensures.0 _
    c.half-definitions.ensures.0 _ _ refl c.check_table.ensures.sizes_after in
    let h = load-done _ _ c.check_table.ensures.value _ c.in_ok-nodes.was _ c.half-e.ensures.0 _
    c.half-definitions.ensures.0 _ counted _ _ c.compile_program.ensures in
    record { value = h.0; dag_after = h.1 }
