-- `marks::marked_end` meets its contract: where no place from 8 on is marked, the first eight tell. Assumes nothing.
use mathlib.Core.Path.{sym, ◌∙◌, ap, subst}
use Prim.Native.Nat.{◌≤◌}
use lib.ListN.{length}
use borrow.Author.Rules.{rules}
use native.Mathlib.Omega.{arith}
use Rattle.reach.specs.Marks.{UnmarkedFrom, end_of_eight}
use Rattle.reach.proofs.MarksEnd.{unmarked-few, eight-end, marked-few, marked-many}
use Rattle.reach.proofs.marks.marked_end.Goals as goal

pub returns-then-end-eq8 : goal.returns-then-end-eq8
returns-then-end-eq8 c = let few = c.few_or_all-end.ensures in
    let marks = c.args.marks.now in
    let end = c.end_of_eight.ensures ∙ ap end_of_eight c.first_eight.ensures in
    let none = subst (λ e. UnmarkedFrom marks e (length c.args.marks.now)) c.if-end-eq8.true few.upper_bound.1 in
    let eight = subst (λ e. (e ≤ 8) × UnmarkedFrom marks e 8) (sym end) (eight-end marks (search rules)) in record {
      upper_bound = (
        omega
            (arith, eight.0, c.requires),
        unmarked-few marks _ _ eight.1 none,
      );
      value = marked-few marks (sym few.value ∙ c.if-end-eq8.true)
          end;
    }

pub returns : goal.returns
returns c =
    let few = c.few_or_all-end.ensures in record { upper_bound = few.upper_bound; value = marked-many _ few.value c.if-end-eq8.false }
