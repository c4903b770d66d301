-- `marks::few_or_all` meets its contract: either no place from 8 on is marked, or there is no place from the end on. Assumes nothing.
use mathlib.Core.Path.{refl, sym, ◌∙◌}
use native.Mathlib.Omega.{arith}
use borrow.Author.Rules.{rules}
use Rattle.reach.specs.Marks.{few_or_all}
use Rattle.reach.proofs.MarksEnd.{none-unmarked}
use Rattle.reach.proofs.marks.few_or_all.Goals as goal

pub returns-then-none_from : goal.returns-then-none_from
unfolding few_or_all
returns-then-none_from c = let none = sym c.none_from.ensures ∙ c.if-none_from.true in
    record { upper_bound = (search rules, none-unmarked c.args.marks.now 8 _ refl none); value = rw (none, few_or_all) refl }

pub returns : goal.returns
unfolding few_or_all
returns c = let some = sym c.none_from.ensures ∙ c.if-none_from.false in
    record { upper_bound = (search rules, λ i from to. absurd (omega arith)); value = rw (some, few_or_all) refl }
