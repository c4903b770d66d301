-- `range::binds_in_range` meets its contract: after x turns the flag says whether the first x bindings are in range. Assumes nothing.
use mathlib.Core.Bool.{not, ◌||◌}
use mathlib.Core.Path.{◌∙◌, ap}
use native.Mathlib.Omega.{arith}
use lib.Dec.{eqb, ltb}
use Rattle.model.specs.declared.token.Slot.{Slot}
use Rattle.record.specs.declared.token.SlotWords.{SlotWords}
use Rattle.model.specs.Machine.Rules.{slot_in_range}
use Rattle.model.specs.Machine.Blank.{empty, token_at, slot_at}
use Rattle.job.specs.Test.{for_all}
use Rattle.job.proofs.Loop.{all-turn, done}
use Rattle.row_rules.proofs.RangeLaws.{slot-in}
use borrow.Author.Rules.{rules}
use Rattle.row_rules.proofs.range.binds_in_range.Goals as goal

pub loop-x-init : goal.loop-x-init
unfolding for_all
loop-x-init c = search rules

pub loop-x-preserved : goal.loop-x-preserved
unfolding slot_at
loop-x-preserved c = λ m h.
    let now = c.loop-x in
    let p = c.args.p in
    all-turn (slot_in_range 32) (token_at m.tokens p).binds now.x empty
    (omega (arith, h.codes.shaped.binds p)) (now.invariant m h)
    (ap (λ (s : SlotWords). not (eqb s.kind 2) || ltb s.number 32) (c.bind-slot.ensures m h.codes)
    ∙ slot-in (slot_at (token_at m.tokens p).binds now.x) (h.slots p now.x))

pub returns : goal.returns
returns c = λ m h.
    let last = c.loop-x in
    let p = c.args.p in
    done (for_all (slot_in_range 32)) (token_at m.tokens p).binds last.x
    (omega (arith, h.codes.shaped.binds p)) (last.invariant m h)
