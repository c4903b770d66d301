-- When the numbers 1 to 8 are given, and with which entry. Nothing here speaks of the reader. Assumes nothing: these are definitions.
use Rattle.std.specs.Prelude.{◌≡◌, true, false, ℕ, suc, ◌≤◌, ◌<◌, length, get_or, replicate, eqb}
use mathlib.Core.List.{List, [], ◌∷◌, ◌++◌, Memᴰ}
use Rattle.job.specs.Bounds.{parameter_limit, scope_limit, depth_limit, definition_limit, entry_limit}
use Rattle.job.specs.Syntax.{Join, par, seq, prune, levels, scope_left, scope_right}
use Rattle.job.specs.Entry.{Entry, low, high, EntryKind, kind_of, size_d, size_n, table_length, table_entries}

-- what is to stand at an entry: a definition, an expression at a depth, a parameter; the last two where these variables are in scope
pub data Position : Type 0 where
  definition : Position
  expression : (depth : ℕ) (scope : List ℕ) → Position
  parameter : (scope : List ℕ) → Position

-- the kinds that may stand there, by number (docs/DECISIONS.md, "Positions")
unfoldable pub MayStand : Position → ℕ → Type 0
MayStand definition kind = kind ≡ 6
MayStand (expression depth scope) kind = kind ≤ 5
MayStand (parameter scope) kind = (7 ≤ kind) × (kind ≤ 8)

-- "Each built-in site has a fixed parameter count: 0 let (1), 1 ift (1), 2 iff (1), 3 signal (0), 4 add (2), 5 less (2), 6 equal (2)"
pub data OwnCount : (site count : ℕ) → Type 0 where
  let' : OwnCount 0 1
  ift : OwnCount 1 1
  iff : OwnCount 2 1
  signal : OwnCount 3 0
  add : OwnCount 4 2
  less : OwnCount 5 2
  equal : OwnCount 6 2
  rwait : OwnCount 7 1

-- an operand that breaks its row, by the kind's number (docs/DECISIONS.md, "What breaks a row"). Rows 7 and 8 take any operand; an unknown
-- kind has no row, and 3 comes first.
pub data RowBroken : (kind operand : ℕ) → Type 0 where
  -- the rows whose operand is 0
  stop-operand : {o : ℕ} → (o ≡ 0 → ⊥) → RowBroken 0 o
  par-operand : {o : ℕ} → (o ≡ 0 → ⊥) → RowBroken 3 o
  seq-operand : {o : ℕ} → (o ≡ 0 → ⊥) → RowBroken 4 o
  prune-operand : {o : ℕ} → (o ≡ 0 → ⊥) → RowBroken 5 o
  -- "low 16 bits site, high 16 bits parameter count": "Counts are at most 4", "site unknown, or built-in count wrong"
  site-count : {o : ℕ} → parameter_limit < high o → RowBroken 1 o
  site-unknown : {o : ℕ} → 8 ≤ low o → low o ≤ 15 → RowBroken 1 o
  site-beyond : {o : ℕ} → 1023 < low o → RowBroken 1 o
  builtin-count : {o : ℕ} → low o ≤ 7 → (OwnCount (low o) (high o) → ⊥) → RowBroken 1 o
  -- "low 16 bits definition, high 16 bits count"
  call-count : {o : ℕ} → parameter_limit < high o → RowBroken 2 o
  -- "count of formals, 0 to 4"
  formals-count : {o : ℕ} → parameter_limit < o → RowBroken 6 o

-- what is wrong with an entry that stands there, by number (docs/DECISIONS.md, "Depth")
pub data Fault : (p : Position) (x : Entry) (number : ℕ) → Type 0 where
  -- 3: "kind unknown, or not one that may stand here"
  wrong-kind : {p : Position} {x : Entry} → (MayStand p x.kind → ⊥) → Fault p x 3
  -- 4: "operand breaks its row, site unknown, or built-in count wrong"
  wrong-operand : {p : Position} {x : Entry} → RowBroken x.kind x.operand → Fault p x 4
  -- 6: "depth 25": "depth ends at 24; parameters add none"
  too-deep : {d : ℕ} {scope : List ℕ} {x : Entry} → depth_limit < d → Fault (expression d scope) x 6
  -- 7: "variable out of scope, or a binder where 8 are in scope": the binders are kinds 4 and 5
  out-of-scope : {scope : List ℕ} {x : Entry} → x.kind ≡ 7 → (Memᴰ x.operand scope → ⊥) → Fault (parameter scope) x 7
  no_room : {d : ℕ} {scope : List ℕ} {x : Entry}
      → 4 ≤ x.kind → x.kind ≤ 5 → scope_limit ≤ length scope → Fault (expression d scope) x 7

-- "entry by entry .. 3, 4, 6, 7": the first of its faults, which is the one of the least number (docs/DECISIONS.md, "Order at one entry")
pub record Breaks (p : Position) (x : Entry) (number : ℕ) : Type 0 where
  pub fault : Fault p x number
  pub first : (n : ℕ) → n < number → Fault p x n → ⊥

-- it has none
abbrev pub Keeps : Position → Entry → Type 0
Keeps p x = (n : ℕ) → Fault p x n → ⊥

-- "Followed by .. f, g", one level deeper
abbrev pub sides : (depth : ℕ) (scope : List ℕ) → Join → List Position
sides depth scope j =
    expression (suc depth) (scope_left j scope) ∷ expression (suc depth) (scope_right j scope) ∷ []

-- what an entry is followed by that stands for an expression; "each binder takes the next number"
unfoldable pub behind : (depth : ℕ) (scope : List ℕ) → EntryKind → (operand : ℕ) → List Position
behind depth scope EntryKind.stop o = []
behind depth scope EntryKind.site o = replicate (high o) (parameter scope)
behind depth scope EntryKind.call o = replicate (high o) (parameter scope)
behind depth scope EntryKind.par o = sides depth scope par
behind depth scope EntryKind.seq o = sides depth scope (seq (length scope))
behind depth scope EntryKind.prune o = sides depth scope (prune (length scope))
-- (3 is tested first, so an expression is none of these)
behind depth scope EntryKind.definition o = []
behind depth scope EntryKind.variable o = []
behind depth scope EntryKind.constant o = []
behind depth scope EntryKind.unknown o = []

-- "definition .. body": "formals from 0"; "the root of a body or of the goal has depth 1"
unfoldable pub followed_by : Position → Entry → List Position
followed_by definition x = expression 1 (levels x.operand) ∷ []
followed_by (expression depth scope) x = behind depth scope (kind_of x.kind) x.operand
followed_by (parameter scope) x = []

-- "entries stand in prefix order": these fill the first of these positions, each without a fault, and leave others to be filled
pub data Fills : (ps : List Position) (es : List Entry) (left : List Position) → Type 0 where
  none : {ps : List Position} → Fills ps [] ps
  next : {p : Position} {x : Entry} {ps left : List Position} {es : List Entry}
      → Keeps p x → Fills (followed_by p x ++ ps) es left → Fills (p ∷ ps) (x ∷ es) left

-- "D definitions, then the goal"
unfoldable pub whole_table : (D : ℕ) → List Position
whole_table D = replicate D definition ++ (expression 1 [] ∷ [])

-- the counts of formals: the operands of the entries of kind 6
unfoldable pub formals_in : List Entry → List ℕ
formals_in [] = []
formals_in (x ∷ es) = let fs = formals_in es in elim (eqb x.kind 6) [ true ↦ x.operand ∷ fs | false ↦ fs ]

-- 8: "definition missing, or its count of formals differs", of an entry of kind 2
pub data Undefined (formals : List ℕ) (x : Entry) : Type 0 where
  missing : x.kind ≡ 2 → length formals ≤ low x.operand → Undefined formals x
  differs : x.kind ≡ 2 → low x.operand < length formals → (high x.operand ≡ get_or formals (low x.operand) 0 → ⊥)
      → Undefined formals x

-- the first of these entries of which P holds is at this index
pub data FirstAt (P : Entry → Type 0) : List Entry → (index : ℕ) → Type 0 where
  here : {x : Entry} {es : List Entry} → P x → FirstAt P (x ∷ es) 0
  later : {x : Entry} {es : List Entry} {i : ℕ} → (P x → ⊥) → FirstAt P es i → FirstAt P (x ∷ es) (suc i)

-- "then entry by entry 5, 3, 4, 6, 7; leftovers; then 8"
pub data DeclinedEntries (D : ℕ) (es : List Entry) : (number entry : ℕ) → Type 0 where
  -- 5: "entries run out (entry N)"
  runs-out : {p : Position} {ps : List Position} → Fills (whole_table D) es (p ∷ ps) → DeclinedEntries D es 5 (length es)
  -- 3, 4, 6 or 7 at the first entry that has a fault
  breaks : {before : List Entry} {x : Entry} (after : List Entry) {p : Position} {ps : List Position} {n : ℕ}
      → es ≡ before ++ (x ∷ after) → Fills (whole_table D) before (p ∷ ps) → Breaks p x n → DeclinedEntries D es n (length before)
  -- 5: ".. or remain after the goal (first unread)"
  remain : {before : List Entry} (x : Entry) (after : List Entry)
      → es ≡ before ++ (x ∷ after) → Fills (whole_table D) before [] → DeclinedEntries D es 5 (length before)
  -- "then 8 at its first entry"
  undefined : {e : ℕ} → Fills (whole_table D) es [] → FirstAt (Undefined (formals_in es)) es e → DeclinedEntries D es 8 e

-- "the length is 4 + 5N"; "N is read only with 4 bytes present"
pub record LengthHolds (b : List ℕ) : Type 0 where
  pub sizes : 4 ≤ length b
  pub total : length b ≡ table_length b

-- "D is 0 to 32, N is 1 to 512"
pub record SizesHold (b : List ℕ) : Type 0 where
  pub definitions : size_d b ≤ definition_limit
  pub some : 1 ≤ size_n b
  pub entries : size_n b ≤ entry_limit

-- "Order: 1 .., 2; then entry by entry .." (docs/DECISIONS.md, "Length and N", "Given exactly if")
pub data Declined (b : List ℕ) : (number entry : ℕ) → Type 0 where
  -- 1: "fewer than 4 bytes, or length is not 4 + 5N"
  wrong-length : (LengthHolds b → ⊥) → Declined b 1 0
  -- 2: "D or N outside its range"
  wrong-sizes : LengthHolds b → (SizesHold b → ⊥) → Declined b 2 0
  wrong-entries : {n e : ℕ} → LengthHolds b → SizesHold b → DeclinedEntries (size_d b) (table_entries b) n e → Declined b n e
