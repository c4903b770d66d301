-- Each piece that is handed on is the next of what the run prints, and together they are all of it.
use Rattle.std.proofs.Common.{◌-◌, length-take, rules, arith}
use Rattle.std.proofs.lemmas.Result.{on_ok_weaker, on_err_weaker}
use Rattle.run.proofs.Pieces.{piece-shown, piece-full, piece-last}
use Rattle.program.proofs.Handed.{on_err, handed, handed_part, handed_all}
use Rattle.program.proofs.output.print.Goals as goal

pub write_piece-requires-clause-piece_value : goal.write_piece-requires-clause-piece_value
write_piece-requires-clause-piece_value g c =
    let inv = c.loop-left.invariant in
    let next = piece-full inv.piece (let more = c.loop-left-test.true in let room = inv.room in omega arith) in
    let counted = inv.counted in cc

pub returns-in_err-written-clause-err : goal.returns-in_err-written-clause-err
returns-in_err-written-clause-err g c =
    let inv = c.loop-left.invariant in
    let next = piece-full inv.piece (let more = c.loop-left-test.true in let room = inv.room in omega arith) in
    on_err _ (handed_part _ _ _ _ _ _ next inv.handed c.in_err-written.ensures.err)

pub loop-left-preserved : goal.loop-left-preserved
loop-left-preserved g c =
    let inv = c.loop-left.invariant in
    let behind = inv.piece.behind in
    let next = piece-full inv.piece (let more = c.loop-left-test.true in let room = inv.room in omega arith) in
    record {
      some = search rules;
      room = search rules;
      piece = piece-shown _ _ _ _ _ c.orcrun.ensures.output_after (omega arith);
      counted = search rules;
      handed = search (rules, handed _ _ _ _ _ _ next inv.handed c.in_ok-written.ensures.ok);
    }

pub write_piece-requires-2-clause-piece_value : goal.write_piece-requires-2-clause-piece_value
write_piece-requires-2-clause-piece_value g c =
    let inv = c.loop-left.invariant in
    let last = piece-last inv.piece (let rest = c.loop-left-test.false in let room = inv.room in omega arith) in
    let counted = inv.counted in cc

pub returns-clause-ok : goal.returns-clause-ok
returns-clause-ok g c =
    let inv = c.loop-left.invariant in
    let last = piece-last inv.piece (let rest = c.loop-left-test.false in let room = inv.room in omega arith) in
    let few = c.loop-left-test.false in
    let room = inv.room in
    let behind = inv.piece.behind in
    let long = length-take (c.loop-left.left - 0) c.loop-left.output in
    on_ok_weaker _ (handed_all _ _ _ _ _ _ last inv.handed (omega arith)) c.write_piece-2.ensures.ok

pub returns-clause-err : goal.returns-clause-err
returns-clause-err g c =
    let inv = c.loop-left.invariant in
    let last = piece-last inv.piece (let rest = c.loop-left-test.false in let room = inv.room in omega arith) in
    on_err_weaker _ (handed_part _ _ _ _ _ _ last inv.handed) c.write_piece-2.ensures.err
