-- `tail::is_tail` meets its contract: one look at the next node tells, unless it is a remove. Assumes nothing.
use native.Mathlib.Omega.{arith}
use Rattle.tail_writes.proofs.TailLooks.{row_within, first-return, first-other}
use Rattle.tail_writes.proofs.tail.is_tail.Goals as goal

pub overflow_mul-kind : goal.overflow_mul-kind
overflow_mul-kind c = omega (arith, row_within _ _ c.requires)

pub overflow_add-kind : goal.overflow_add-kind
overflow_add-kind c = omega (arith, row_within _ _ c.requires)

pub offset_bounds-dag-next : goal.offset_bounds-dag-next
offset_bounds-dag-next c = omega (arith, row_within _ _ c.requires)

pub bounds-dag-next : goal.bounds-dag-next
bounds-dag-next c = omega (arith, row_within _ _ c.requires, c.requires.size)

pub returns-then-kind-eq-RETURN : goal.returns-then-kind-eq-RETURN
returns-then-kind-eq-RETURN c = search first-return

pub returns-then-kind-ne-REMOVE : goal.returns-then-kind-ne-REMOVE
returns-then-kind-ne-REMOVE c = search first-other
