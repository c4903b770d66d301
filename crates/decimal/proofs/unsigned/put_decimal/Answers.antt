-- `unsigned::put_decimal` meets its contract: a number below 10 is one digit, one below 100 two. Assumes nothing.
use borrow.Author.Rules.{rules}
use lib.ListN.{length-set}
use Rattle.job.specs.Decimal.{decimal}
use Rattle.decimal.proofs.UnsignedDigits.{decimal-written, decimal-one, decimal-two, decimal-room-one, decimal-room-two}
use Rattle.decimal.proofs.unsigned.put_decimal.Goals as goal

pub put_digits-requires : goal.put_digits-requires
unfolding decimal
put_digits-requires c = search rules

pub returns-then-n-ge100 : goal.returns-then-n-ge100
returns-then-n-ge100 c = search decimal-written

pub bounds-buffer-at : goal.bounds-buffer-at
bounds-buffer-at c = let room = decimal-room-two _ _ _ c.if-n-ge10.true c.if-n-ge100.false c.requires in
    search rules

pub bounds-buffer-at-then-n-ge10 : goal.bounds-buffer-at-then-n-ge10
bounds-buffer-at-then-n-ge10 c = simp length-set (search (rules, decimal-room-two))

pub shape_of-buffer-then-n-ge10 : goal.shape_of-buffer-then-n-ge10
shape_of-buffer-then-n-ge10 c = simp length-set (search rules)

pub returns-then-n-ge10 : goal.returns-then-n-ge10
returns-then-n-ge10 c = search decimal-two

pub bounds-buffer-at-2 : goal.bounds-buffer-at-2
bounds-buffer-at-2 c = search (rules, decimal-room-one)

pub returns : goal.returns
returns c = search decimal-one
