-- `program::compile_program` meets its contract: the definitions, then the goal, then the head. Assumes nothing.
use borrow.Author.Rules.{Fits-under}
use mir.Syntax.{w32}
use Rattle.loader.proofs.ProgramWhole.{some-nodes, definitions-read, goal-read, nodes-fit, program-done}
use Rattle.loader.proofs.program.compile_program.Goals as goal

pub compile_definitions-before-requires-clause-definitions_read : goal.compile_definitions-before-requires-clause-definitions_read
compile_definitions-before-requires-clause-definitions_read c =
    let pre = c.requires in definitions-read _ _ _ _ _ pre.accepts c.args.parts.fit pre.count_bound

pub overflow_sub-nodes : goal.overflow_sub-nodes
overflow_sub-nodes c = let pre = c.requires in some-nodes _ _ _ _ _ pre.accepts c.args.parts.fit pre.count_bound

pub compile_body-goal-requires : goal.compile_body-goal-requires
compile_body-goal-requires c = let pre = c.requires in (
  _,
  goal-read _ _ _ _ _ pre.accepts c.args.parts.fit pre.count_bound _ c.compile_definitions-before.ensures.value _
      c.of_formals-scope.ensures,
)

pub overflow_cast-goal : goal.overflow_cast-goal
overflow_cast-goal c = let pre = c.requires in
    let place = c.compile_definitions-before.ensures.value in
    Fits-under w32 _ 4096
    (nodes-fit _ _ _ _ _ pre.accepts c.args.parts.fit pre.count_bound _ place _ c.of_formals-scope.ensures _ _ _ c.compile_body-goal.ensures)
    tt

pub returns : goal.returns
returns c = let pre = c.requires in
    let place = c.compile_definitions-before.ensures.value in
    program-done _ _ _ _ _ pre.accepts c.args.parts.fit pre.count_bound _ place _ c.of_formals-scope.ensures _ _ _
    c.compile_body-goal.ensures _ _ c.compile_definitions-before.ensures.dag_after c.put_sizes.ensures
