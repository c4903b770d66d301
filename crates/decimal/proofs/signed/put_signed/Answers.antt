-- `signed::put_signed` meets its contract: a minus sign comes before the magnitude of a negative number. Assumes nothing.
use borrow.Author.Rules.{rules}
use native.Mathlib.Omega.{arith}
use mathlib.Core.Path.{refl, ◌∙◌}
use lib.IntN.{nat_abs}
use lib.ListN.{length-set}
use mir.Facts.{to_z-of_z}
use Rattle.decimal.proofs.Written.{written-length}
use Rattle.decimal.proofs.SignedDigits.{negative-written, positive-written, negative-room, positive-room}
use Rattle.decimal.proofs.signed.put_signed.Goals as goal

pub bounds-buffer-at : goal.bounds-buffer-at
bounds-buffer-at c = let negative = rw (to_z-of_z c.ranges.v) at c.if-v-lt0.true in
    let room = negative-room c.args.v (nat_abs c.args.v) _ _ negative refl c.requires in
    search rules

pub put_decimal-requires : goal.put_decimal-requires
put_decimal-requires c = let f = c.ranges.v in
    let negative = rw (to_z-of_z f) at c.if-v-lt0.true in
    let room = negative-room c.args.v _ _ _ negative (rw (to_z-of_z f) at c.unsigned_abs.ensures.value) c.requires in
    rw length-set (omega arith)

pub shape_of-buffer-then-v-lt0 : goal.shape_of-buffer-then-v-lt0
shape_of-buffer-then-v-lt0 c = written-length c.put_decimal.ensures ∙ simp length-set

pub returns-then-v-lt0 : goal.returns-then-v-lt0
returns-then-v-lt0 c = let f = c.ranges.v in
    let negative = rw (to_z-of_z f) at c.if-v-lt0.true in
    negative-written _ _ _ _ _ _ negative (rw (to_z-of_z f) at c.unsigned_abs.ensures.value) c.put_decimal.ensures

pub put_decimal-requires-2 : goal.put_decimal-requires-2
put_decimal-requires-2 c = let f = c.ranges.v in
    let positive = rw (to_z-of_z f) at c.if-v-lt0.false in
    positive-room c.args.v _ _ _ positive (rw (to_z-of_z f) at c.unsigned_abs-2.ensures.value) c.requires

pub returns : goal.returns
returns c = let f = c.ranges.v in
    let positive = rw (to_z-of_z f) at c.if-v-lt0.false in
    positive-written _ _ _ _ _ _ positive (rw (to_z-of_z f) at c.unsigned_abs-2.ensures.value) c.put_decimal-2.ensures
