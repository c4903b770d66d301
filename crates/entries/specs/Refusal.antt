-- The number of each refusal of a table, and the refusal that has a number. Assumes nothing: these are definitions.
use Rattle.std.specs.Prelude.{List, [], ◌∷◌, ℕ, ◌-◌, get_or, Result, Ok, Err}
use Rattle.entries.specs.declared.refusal.TableRefusal.{TableRefusal}
use Rattle.entries.specs.declared.refusal.TableRefusal.TheVariants as refusals
use Rattle.entries.specs.declared.refusal.Refused.{Refused}

-- document 01's number for each case
unfoldable pub number_of : TableRefusal → ℕ
number_of refusals.Length = 1
number_of refusals.Sizes = 2
number_of refusals.Kind = 3
number_of refusals.Operand = 4
number_of refusals.EntryCount = 5
number_of refusals.Depth = 6
number_of refusals.Scope = 7
number_of refusals.Definition = 8

-- the case of a number from 1 to 8. (A table is refused with no other number: `numbered` of entries/proofs/RefusalNumbers.)
abbrev pub refusal_table : List TableRefusal
refusal_table =
    refusals.Length
    ∷ refusals.Sizes
    ∷ refusals.Kind
    ∷ refusals.Operand
    ∷ refusals.EntryCount
    ∷ refusals.Depth
    ∷ refusals.Scope
    ∷ refusals.Definition
    ∷ []

abbrev pub refusal_of : ℕ → TableRefusal
refusal_of n = get_or refusal_table (n - 1) refusals.Length

-- the refusal with number n at entry e
abbrev pub refused_as : (n e : ℕ) → Refused
refused_as n e = record { why = refusal_of n; entry = e }

-- what was found at entry e, or what refuses it there
unfoldable pub found_at : {A : Type 0} → (e : ℕ) → Result A TableRefusal → Result A Refused
found_at e (Ok a) = Ok a
found_at e (Err why) = Err (record { why = why; entry = e })
