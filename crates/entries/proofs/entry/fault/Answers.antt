-- `entry::fault` meets its contract: there is a law for each way out of the tests. Assumes nothing.
use Rattle.entries.proofs.EntryFault.{fault-3, fault-4, fault-6, fault-7, fault-free, fault-room}
use Rattle.entries.proofs.entry.fault.Goals as goal
use Rattle.entries.proofs.entry.fault.Goals.{else-is_binder-via-then-is_binder+else-scope-ge-SCOPE_LIMIT, else-is_binder-via-else-is_binder}

pub returns-then-not-is_expression : goal.returns-then-not-is_expression
returns-then-not-is_expression c = λ l m. search fault-3

pub returns-then-not-row_holds : goal.returns-then-not-row_holds
returns-then-not-row_holds c = λ l m. search fault-4

pub returns-then-left-eq0 : goal.returns-then-left-eq0
returns-then-left-eq0 c = λ l m. search fault-6

pub returns-then-scope-ge-SCOPE_LIMIT : goal.returns-then-scope-ge-SCOPE_LIMIT
returns-then-scope-ge-SCOPE_LIMIT c = λ l m. search fault-7

pub returns : goal.returns
returns c = λ l m.
    elim c.else-is_binder.branch [
      | else-is_binder-via-then-is_binder+else-scope-ge-SCOPE_LIMIT w ↦ search fault-room
      | else-is_binder-via-else-is_binder w ↦ search fault-free
    ]
