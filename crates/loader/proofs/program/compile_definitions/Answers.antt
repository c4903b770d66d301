-- `program::compile_definitions` meets its contract. The loop's invariant: the words of the definitions so far are stored, and the others
-- are still to be read. Assumes nothing.
use borrow.Author.Rules.{Fits-under}
use mir.Syntax.{w64}
use native.Mathlib.Omega.{arith}
use Prim.Native.Nat.{◌<◌}
use lib.ListN.{length}
use Rattle.loader.proofs.ProgramDefinitions.{writing_start, writing-end, turn-here, turn-next}
use Rattle.loader.proofs.ProgramDefinitions.{turn-sum, turn-some, turn-formals, turn-read, turn_more}
use Rattle.loader.proofs.program.compile_definitions.Goals as goal

pub loop-i-init : goal.loop-i-init
loop-i-init c = search writing_start

pub operand-formals-requires : goal.operand-formals-requires
operand-formals-requires c = search turn-here

pub overflow_add-last : goal.overflow_add-last
overflow_add-last c = Fits-under w64 _ 4096 (search turn-sum) tt

pub overflow_sub-last : goal.overflow_sub-last
overflow_sub-last c = search turn-some

pub of_formals-scope-requires : goal.of_formals-scope-requires
of_formals-scope-requires c = search turn-formals

pub overflow_add-at : goal.overflow_add-at
overflow_add-at c = let few = c.args.parts.fit.few in Fits-under w64 _ 4096 (search turn-next) tt

pub compile_body-body-requires : goal.compile_body-body-requires
compile_body-body-requires c = (
  _,
  turn-read _ _ _ _ _ _ _ _ _ c.loop-i.invariant (omega arith) _ c.operand-formals.ensures _ c.of_formals-scope.ensures,
)

pub loop-i-preserved : goal.loop-i-preserved
loop-i-preserved c =
    let more : c.loop-i.i < length c.args.sizes.now = omega arith in
    let accepted = turn-read _ _ _ _ _ _ _ _ _ c.loop-i.invariant more _ c.operand-formals.ensures _ c.of_formals-scope.ensures in
    let given = c.compile_body-body.ensures _ accepted in
    turn_more _ _ _ _ _ _ _ _ _ c.loop-i.invariant more _ c.operand-formals.ensures c.requires.count_bound _ _ _ given.0 given.1
    c.put_definition.ensures

pub returns : goal.returns
returns c =
    let h = writing-end _ _ _ _ _ _ _ _ _ c.loop-i.invariant (omega arith) in
    record { value = h.0; dag_after = h.1 }
