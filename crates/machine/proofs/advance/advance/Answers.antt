-- `advance::advance` meets its contract: each way out is how the definition's call ends there. Assumes nothing.
use Rattle.machine.proofs.PublicCalls.{advance-rule, advance-gives, lawful_of}
use Rattle.machine.proofs.advance.advance.Goals as goal

pub returns-then-is_none : goal.returns-then-is_none
returns-then-is_none c = advance-rule _ _ _ _ _ c.lawful_marks.ensures.value c.if-is_none.ensures c.plain.ensures

pub returns : goal.returns
returns c = let a = lawful_of _ c.if-is_none.ensures c.lawful_marks.ensures.lawful in
    advance-gives _ _ a.1 _ _ (c.advance.ensures _ _ _ a.1)
