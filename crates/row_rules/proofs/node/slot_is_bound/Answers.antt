-- Past the eight slots nothing is bound.
use Rattle.std.proofs.Common.{◌∙◌, ap, arith, ltb}
use Rattle.job.proofs.Test.{le-not-ltb}
use Rattle.model.specs.Machine.Blank.{is_bound, slot_at, token_at}
use Rattle.record.proofs.SlotWords.{kind-of}
use Rattle.row_rules.proofs.NodeLaws.{slot-past}
use Rattle.row_rules.proofs.RangeLaws.{slot-bound}
use Rattle.row_rules.proofs.node.slot_is_bound.Goals as goal

pub returns-then-at-lt8 : goal.returns-then-at-lt8
returns-then-at-lt8 c = λ m h.
    ap (ltb 0) (kind-of (c.bind.ensures m h)) ∙ slot-bound _
    ∙ ap (λ x. is_bound (slot_at (token_at m.tokens c.args.p).binds x)) c.wide-at.ensures

pub returns-else-at-lt8 : goal.returns-else-at-lt8
returns-else-at-lt8 c = λ m h.
    le-not-ltb _ _ c.if-at-lt8.false ∙ slot-past _ c.args.x (h.shaped.binds _) (omega (arith, c.wide-at.ensures))
