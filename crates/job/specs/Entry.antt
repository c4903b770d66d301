-- The entries of a table: "N kind bytes, then N operands of 4 bytes". Assumes nothing: these are definitions.
use Rattle.std.specs.Prelude.{Bool, true, false, List, [], ◌∷◌, ℕ, ◌+◌, ◌*◌, ◌/◌, ◌%◌, get_or, take, drop, eqb, leb}
use Rattle.job.specs.Bounds.{parameter_limit}
use Rattle.job.specs.Number.{number}
use Rattle.job.specs.Site.{site_takes}

pub record Entry : Type 0 where
  pub kind : ℕ
  pub operand : ℕ

abbrev pub entry : ℕ → ℕ → Entry
entry k o = record { kind = k; operand = o }

-- the entries of the kind part and the operand part
unfoldable pub entries : List ℕ → List ℕ → List Entry
entries [] os = []
entries (k ∷ ks) os = entry k (number (take 4 os)) ∷ entries ks (drop 4 os)

-- the operand at an index of the operand part
abbrev pub operand_at : List ℕ → ℕ → ℕ
operand_at os at = number (take 4 (drop (4 * at) os))

-- "low 16 bits site, high 16 bits parameter count"
abbrev pub low : ℕ → ℕ
low o = o % 65536

abbrev pub high : ℕ → ℕ
high o = o / 65536

-- the table of kinds, by number
pub data EntryKind : Type 0 where
  stop site call par seq prune definition variable constant unknown : EntryKind

abbrev pub kind_table : List EntryKind
kind_table = stop ∷ site ∷ call ∷ par ∷ seq ∷ prune ∷ definition ∷ variable ∷ constant ∷ []

unfoldable pub kind_of : ℕ → EntryKind
kind_of k = get_or kind_table k unknown

-- the kinds that may stand where an expression is read (docs/DECISIONS.md, "Positions")
unfoldable pub is_expression : EntryKind → Bool
is_expression stop = true
is_expression site = true
is_expression call = true
is_expression par = true
is_expression seq = true
is_expression prune = true
is_expression definition = false
is_expression variable = false
is_expression constant = false
is_expression unknown = false

-- (docs/DECISIONS.md, "What breaks a row") the operand keeps to its row of the table, "site unknown, or built-in count wrong" included
unfoldable pub row_holds : EntryKind → ℕ → Bool
row_holds stop o = eqb o 0
row_holds site o = site_takes (low o) (high o)
row_holds call o = leb (high o) parameter_limit
row_holds par o = eqb o 0
row_holds seq o = eqb o 0
row_holds prune o = eqb o 0
row_holds definition o = leb o parameter_limit
row_holds variable o = true
row_holds constant o = true
-- (no row: 3 is tested first)
row_holds unknown o = false

-- the kinds that bind a variable
unfoldable pub is_binder : EntryKind → Bool
is_binder stop = false
is_binder site = false
is_binder call = false
is_binder par = false
is_binder seq = true
is_binder prune = true
is_binder definition = false
is_binder variable = false
is_binder constant = false
is_binder unknown = false

-- "Bytes 0-1: D, the number of definitions. Bytes 2-3: N, the number of entries"
abbrev pub size_d : List ℕ → ℕ
size_d b = number (take 2 b)

abbrev pub size_n : List ℕ → ℕ
size_n b = number (take 2 (drop 2 b))

-- "the length is 4 + 5N"
abbrev pub table_length : List ℕ → ℕ
table_length b = 4 + 5 * size_n b

-- "then N kind bytes, then N operands of 4 bytes"
abbrev pub table_entries : List ℕ → List Entry
table_entries b = entries (take (size_n b) (drop 4 b)) (drop (4 + size_n b) b)
