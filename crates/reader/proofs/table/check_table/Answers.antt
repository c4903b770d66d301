-- `table::check_table` meets its contract: a law for each refusal by the sizes, and the two parts are those of the definitions. Assumes
-- nothing.
use native.Mathlib.Omega.{arith}
use Rattle.reader.proofs.TableLaws.{table-short, table-uneven, table-definitions, table_empty, table-long}
use Rattle.reader.proofs.TableLaws.{table-refused, table-accepted}
use Rattle.std.proofs.lemmas.Result.{err_from_is_err_and}
use Rattle.reader.proofs.table.check_table.Goals as goal

pub returns-then-table-lt4 : goal.returns-then-table-lt4
returns-then-table-lt4 c =
    let h = table-short _ _ c.if-table-lt4.true in
    record { value = h.0; sizes_after = h.1 }

pub returns-then-table-n : goal.returns-then-table-n
returns-then-table-n c =
    let h = table-uneven _ _ _ c.if-table-lt4.false c.half-n.ensures.0 c.if-table-n.true in
    record { value = h.0; sizes_after = h.1 }

pub returns-then-definitions-gt-MOST_DEFINITIONS : goal.returns-then-definitions-gt-MOST_DEFINITIONS
returns-then-definitions-gt-MOST_DEFINITIONS c =
    let h = table-definitions _ _ _ c.if-table-lt4.false c.half-n.ensures.0 _ c.half-definitions.ensures.0 c.if-table-n.false
    c.if-definitions-gt-MOST_DEFINITIONS.true in
    record { value = h.0; sizes_after = h.1 }

pub returns-then-n-lt1 : goal.returns-then-n-lt1
returns-then-n-lt1 c =
    let h = table_empty _ _ _ c.if-table-lt4.false c.half-n.ensures.0 _ c.half-definitions.ensures.0 c.if-table-n.false
    c.if-definitions-gt-MOST_DEFINITIONS.false
    c.if-n-lt1.true in
    record { value = h.0; sizes_after = h.1 }

pub returns-then-n-gt-ENTRY_LIMIT : goal.returns-then-n-gt-ENTRY_LIMIT
returns-then-n-gt-ENTRY_LIMIT c =
    let h = table-long _ _ _ c.if-table-lt4.false c.half-n.ensures.0 _ c.half-definitions.ensures.0 c.if-table-n.false
    c.if-definitions-gt-MOST_DEFINITIONS.false
    c.if-n-lt1.false c.if-n-gt-ENTRY_LIMIT.true in
    record { value = h.0; sizes_after = h.1 }

pub returns-in_err-program : goal.returns-in_err-program
returns-in_err-program c =
    let p = err_from_is_err_and c.from_residual.result c.from_residual.ensures.1 in
    let h = table-refused _ _ _ c.if-table-lt4.false c.half-n.ensures.0 _ c.half-definitions.ensures.0 c.if-table-n.false
    c.if-definitions-gt-MOST_DEFINITIONS.false
    c.if-n-lt1.false c.if-n-gt-ENTRY_LIMIT.false (omega arith) _ c.check_program.ensures.value _ c.check_program.ensures.sizes_after _
    c.in_err-program.was in
    record { value = rw (p.1, p.2) h.0; sizes_after = h.1 }

pub returns : goal.returns
returns c =
    let h = table-accepted _ _ _ c.if-table-lt4.false c.half-n.ensures.0 _ c.half-definitions.ensures.0 c.if-table-n.false
    c.if-definitions-gt-MOST_DEFINITIONS.false
    c.if-n-lt1.false c.if-n-gt-ENTRY_LIMIT.false (omega arith) _ c.check_program.ensures.value _ c.check_program.ensures.sizes_after _
    c.in_ok-program.was in
    record { value = h.0; sizes_after = h.1 }
