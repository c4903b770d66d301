-- What refuses an entry by itself, an expression's or a parameter's: "entry by entry 5, 3, 4, 6, 7".
-- Assumes nothing: these are definitions.
use Rattle.std.specs.Prelude.{Bool, true, false, not, List, [], ◌∷◌, ℕ, zero, suc, length, eqb, ltb, Result, Ok, Err}
use Rattle.job.specs.Test.{◌or◌, for_some}
use Rattle.job.specs.Entry.{Entry, EntryKind, kind_of, is_expression, row_holds, is_binder}
use Rattle.entries.specs.declared.refusal.TableRefusal.{TableRefusal}
use Rattle.entries.specs.declared.refusal.TableRefusal.TheVariants as refusals

abbrev pub Fault : Type 0
Fault = Result (Unit {0}) TableRefusal

-- this fault, unless the test holds
unfoldable pub unless : Bool → Fault → Fault → Fault
unless true n m = m
unless false n m = n

-- none where no test fails; so many levels of depth are left, these variables are in scope
unfoldable pub expression_fault : ℕ → List ℕ → EntryKind → ℕ → Fault
expression_fault zero scope k o =
    unless (is_expression k) (Err refusals.Kind) (unless (row_holds k o) (Err refusals.Operand) (Err refusals.Depth))
expression_fault (suc left) scope k o =
    unless (is_expression k) (Err refusals.Kind)
    (unless (row_holds k o) (Err refusals.Operand)
    (unless (not (is_binder k) or ltb (length scope) 8) (Err refusals.Scope) (Ok tt)))

-- a parameter is a constant, or a variable that is in scope
unfoldable pub parameter_kind_fault : List ℕ → EntryKind → ℕ → Fault
parameter_kind_fault scope EntryKind.stop o = Err refusals.Kind
parameter_kind_fault scope EntryKind.site o = Err refusals.Kind
parameter_kind_fault scope EntryKind.call o = Err refusals.Kind
parameter_kind_fault scope EntryKind.par o = Err refusals.Kind
parameter_kind_fault scope EntryKind.seq o = Err refusals.Kind
parameter_kind_fault scope EntryKind.prune o = Err refusals.Kind
parameter_kind_fault scope EntryKind.definition o = Err refusals.Kind
parameter_kind_fault scope EntryKind.variable o = unless (for_some (eqb o) scope) (Err refusals.Scope) (Ok tt)
parameter_kind_fault scope EntryKind.constant o = Ok tt
parameter_kind_fault scope EntryKind.unknown o = Err refusals.Kind

-- the first of these entries as a parameter
unfoldable pub parameter_fault : List ℕ → List Entry → Fault
parameter_fault scope [] = Err refusals.EntryCount
parameter_fault scope (x ∷ es) = parameter_kind_fault scope (kind_of x.kind) x.operand
