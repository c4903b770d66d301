-- `answer::answer` meets its contract: each way out is how the definition's call ends there. Assumes nothing.
use Rattle.machine.proofs.PublicCalls.{answer-rule, answer-gives, lawful_of}
use mir.Syntax.{w32}
use mir.Val.{SFits}
use mir.Facts.{to_z-of_z}
use borrow.Author.Rules.{rules}
use Rattle.machine.proofs.answer.answer.Goals as goal

pub returns-then-is_none : goal.returns-then-is_none
returns-then-is_none c = answer-rule _ _ _ _ _ _ c.lawful_marks.ensures.value c.if-is_none.ensures c.plain.ensures

pub returns : goal.returns
returns c = let a = lawful_of _ c.if-is_none.ensures c.lawful_marks.ensures.lawful in
    let f : SFits w32 c.args.value = search rules in
    answer-gives _ _ a.1 _ _ _ (rw (to_z-of_z f) at (c.answer.ensures _ _ _ a.1))
