-- `definition::check_definitions` meets its contract. The loop's invariant: what is done stands in front of what is left to read, and the
-- counts of formals and the sizes so far are stored at the front of the arrays. Assumes nothing.
use borrow.Author.Rules.{Fits-under}
use mir.Syntax.{w32, w64}
use Rattle.std.proofs.lemmas.List.{set-get_or}
use Rattle.std.proofs.lemmas.Result.{err_from_is_err_and}
use Rattle.reader.proofs.DefinitionLoop.{reading-start, reading-end, reading-refused, reading-more}
use Rattle.reader.proofs.DefinitionLoop.{reading-here, reading-fits, reading-size}
use Rattle.reader.proofs.definition.check_definitions.Goals as goal

pub loop-i-init : goal.loop-i-init
loop-i-init c = search reading-start

pub returns-in_err-definition : goal.returns-in_err-definition
returns-in_err-definition c =
    let p = err_from_is_err_and c.from_residual.result c.from_residual.ensures.1 in
    let h = c.in_err-definition.was in
    rw (p.1, p.2, set-get_or) (search reading-refused)

pub operand-requires : goal.operand-requires
operand-requires c = let h = c.in_ok-definition.was in search reading-here

pub overflow_cast-size : goal.overflow_cast-size
overflow_cast-size c = let h = c.in_ok-definition.was in let few = c.args.parts.fit.few in
    Fits-under w32 _ 4096 (search reading-size) tt

pub overflow_add-nodes : goal.overflow_add-nodes
overflow_add-nodes c = let h = c.in_ok-definition.was in let few = c.args.parts.fit.few in
    Fits-under w64 _ 4096 (search reading-fits) tt

pub loop-i-preserved : goal.loop-i-preserved
loop-i-preserved c = let h = c.in_ok-definition.was in search reading-more

pub returns : goal.returns
returns c = search reading-end
