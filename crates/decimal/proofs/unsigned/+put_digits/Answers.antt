-- `unsigned::put_digits` meets its contract: it puts a tenth's digits before the last, and the count of digits allowed falls.
-- Assumes nothing.
use Prim.Native.Nat.{◌<◌}
use borrow.Author.Rules.{rules}
use lib.ListN.{length, length-set}
use native.Mathlib.Omega.{arith}
use Rattle.decimal.proofs.UnsignedDigits.{digits-none-written, digits-one-written, digits-more-written}
use Rattle.decimal.proofs.UnsignedDigits.{room-one, room-front, room-last}
use Rattle.decimal.proofs.unsigned.+put_digits.Goals as goal

pub returns-then-most-eq0 : goal.returns-then-most-eq0
returns-then-most-eq0 t c = search digits-none-written

pub bounds-buffer-at : goal.bounds-buffer-at
bounds-buffer-at t c = let small : c.args.n < 10 = omega arith in
    search (rules, room-one)

pub overflow_add-result : goal.overflow_add-result
overflow_add-result t c = let small : c.args.n < 10 = omega arith in
    let r : c.args.at < length c.args.buffer.now = search room-one in
    search rules

pub returns-then-n-lt10 : goal.returns-then-n-lt10
returns-then-n-lt10 t c = let small : c.args.n < 10 = omega arith in
    search digits-one-written

pub put_digits-last-requires : goal.put_digits-last-requires
put_digits-last-requires t c = (omega arith, search room-front)

pub bounds-buffer-last : goal.bounds-buffer-last
bounds-buffer-last t c = search (rules, room-last)

pub overflow_add-result-2 : goal.overflow_add-result-2
overflow_add-result-2 t c = let r : c.put_digits-last.result < length c.args.buffer.now = search room-last in
    search rules

pub shape_of-buffer : goal.shape_of-buffer
shape_of-buffer t c = simp length-set (search rules)

pub returns : goal.returns
returns t c = search digits-more-written
