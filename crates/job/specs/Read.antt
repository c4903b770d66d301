-- The reader's answer for any list of bytes: the program, or number and entry. Assumes nothing: these are definitions.
use Rattle.std.specs.Prelude.{Bool, true, false, not, List, [], ◌∷◌, ℕ, zero, suc, length, get_or, ltb, leb, eqb}
use Rattle.job.specs.Bounds.{scope_limit, depth_limit, definition_limit, entry_limit}
use Rattle.job.specs.Test.{◌and◌, ◌or◌, for_some}
use Rattle.job.specs.Number.{signed}
use Rattle.job.specs.Syntax.{Param, variable, constant, Join, par, seq, prune, Exp, stop, site, call, join, Definition, Program}
use Rattle.job.specs.Syntax.{formals_of, levels, scope_left, scope_right}
use Rattle.job.specs.Entry.{Entry, low, high, EntryKind, kind_of, is_expression, row_holds, is_binder}
use Rattle.job.specs.Entry.{size_d, size_n, table_length, table_entries}

-- what was read, the number of the first entry that was not, and the entries from there on
pub record Got (A : Type 0) : Type 0 where
  pub value : A
  pub next : ℕ
  pub rest : List Entry

pub data Read (A : Type 0) : Type 0 where
  got : Got A → Read A
  refused : (number entry : ℕ) → Read A

-- one reading, then the next; `do` below takes what has this name (docs/DECISIONS.md, "Names beside the library's")
infixl 10 ◌>>=◌
unfoldable pub ◌>>=◌ : {A B : Type 0} → Read A → (Got A → Read B) → Read B
got a >>= f = f a
refused n e >>= f = refused n e

abbrev pub gives : {A : Type 0} → A → ℕ → List Entry → Read A
gives a e es = got (record { value = a; next = e; rest = es })

-- number n at entry e, unless the test holds
unfoldable pub need : Bool → ℕ → ℕ → Read (Unit {0})
need true n e = gives tt e []
need false n e = refused n e

-- entry e, or 5: "entries run out (entry N)"
unfoldable pub entry_at : ℕ → List Entry → Read Entry
entry_at e [] = refused 5 e
entry_at e (x ∷ es) = gives x (suc e) es

-- a parameter, where these variables are in scope; or 3, "kind unknown, or not one that may stand here", or 7, "variable out of scope"
unfoldable pub read_param : List ℕ → ℕ → List Entry → Read Param
read_param scope e es = do
  x ← entry_at e es
  let o = x.value.operand
  elim (kind_of x.value.kind) as (λ k. Read Param) [
    | EntryKind.stop ↦ refused 3 e
    | EntryKind.site ↦ refused 3 e
    | EntryKind.call ↦ refused 3 e
    | EntryKind.par ↦ refused 3 e
    | EntryKind.seq ↦ refused 3 e
    | EntryKind.prune ↦ refused 3 e
    | EntryKind.definition ↦ refused 3 e
    | EntryKind.variable ↦ need (for_some (eqb o) scope) 7 e >>= (λ _. gives (variable o) x.next x.rest)
    | EntryKind.constant ↦ gives (constant (signed o)) x.next x.rest
    | EntryKind.unknown ↦ refused 3 e
  ]

-- so many parameters, from entry e on
unfoldable pub read_param_list : ℕ → List ℕ → ℕ → List Entry → Read (List Param)
read_param_list zero scope e es = gives [] e es
read_param_list (suc n) scope e es = do
  p ← read_param scope e es
  ps ← read_param_list n scope p.next p.rest
  gives (p.value ∷ ps.value) ps.next ps.rest

-- a call with its parameters, a join with its two sides
unfoldable pub read_call : (List Param → Exp) → ℕ → List ℕ → ℕ → List Entry → Read Exp
read_call h n scope e es = do
  ps ← read_param_list n scope e es
  gives (h ps.value) ps.next ps.rest

unfoldable pub read_join : (List ℕ → ℕ → List Entry → Read Exp) → Join → List ℕ → ℕ → List Entry → Read Exp
read_join side j scope e es = do
  f ← side (scope_left j scope) e es
  g ← side (scope_right j scope) f.next f.rest
  gives (join j f.value g.value) g.next g.rest

-- an expression from entry e on (docs/DECISIONS.md, "Order at one entry", "Depth"): so many levels of depth are left, these variables are
-- in scope. "Entry by entry 5, 3, 4, 6, 7": 6 is "depth 25", 7 "a binder where 8 are in scope"
unfoldable pub read_exp : ℕ → List ℕ → ℕ → List Entry → Read Exp
read_exp zero scope e es = do
  x ← entry_at e es
  _ ← need (is_expression (kind_of x.value.kind)) 3 e
  _ ← need (row_holds (kind_of x.value.kind) x.value.operand) 4 e
  refused 6 e
read_exp (suc left) scope e es = do
  x ← entry_at e es
  let k = kind_of x.value.kind
  let o = x.value.operand
  let level = length scope
  _ ← need (is_expression k) 3 e
  _ ← need (row_holds k o) 4 e
  _ ← need (not (is_binder k) or ltb level scope_limit) 7 e
  elim k as (λ k. Read Exp) [
    | EntryKind.stop ↦ gives stop x.next x.rest
    | EntryKind.site ↦ read_call (site (low o)) (high o) scope x.next x.rest
    | EntryKind.call ↦ read_call (call (low o)) (high o) scope x.next x.rest
    | EntryKind.par ↦ read_join (read_exp left) par scope x.next x.rest
    | EntryKind.seq ↦ read_join (read_exp left) (seq level) scope x.next x.rest
    | EntryKind.prune ↦ read_join (read_exp left) (prune level) scope x.next x.rest
    -- the test for 3 leaves none of these
    | EntryKind.definition ↦ refused 3 e
    | EntryKind.variable ↦ refused 3 e
    | EntryKind.constant ↦ refused 3 e
    | EntryKind.unknown ↦ refused 3 e
  ]

unfoldable pub is_definition : EntryKind → Bool
is_definition EntryKind.stop = false
is_definition EntryKind.site = false
is_definition EntryKind.call = false
is_definition EntryKind.par = false
is_definition EntryKind.seq = false
is_definition EntryKind.prune = false
is_definition EntryKind.definition = true
is_definition EntryKind.variable = false
is_definition EntryKind.constant = false
is_definition EntryKind.unknown = false

unfoldable pub read_definition : ℕ → List Entry → Read Definition
read_definition e es = do
  x ← entry_at e es
  _ ← need (is_definition (kind_of x.value.kind)) 3 e
  _ ← need (row_holds EntryKind.definition x.value.operand) 4 e
  b ← read_exp depth_limit (levels x.value.operand) x.next x.rest
  gives (record { formals = x.value.operand; body = b.value }) b.next b.rest

-- "D definitions, then the goal"
unfoldable pub read_program : ℕ → ℕ → List Entry → Read Program
read_program zero e es = do
  g ← read_exp depth_limit [] e es
  gives (record { definitions = []; goal = g.value }) g.next g.rest
read_program (suc n) e es = do
  d ← read_definition e es
  p ← read_program n d.next d.rest
  gives (record { definitions = d.value ∷ p.value.definitions; goal = p.value.goal }) p.next p.rest

-- 5: ".. or remain after the goal (first unread)"
unfoldable pub leftovers : ℕ → List Entry → Read (Unit {0})
leftovers e [] = need true 5 e
leftovers e (x ∷ es) = refused 5 e

-- 8: "definition missing, or its count of formals differs"
unfoldable pub call_holds : List ℕ → Entry → Bool
call_holds formals x =
    not (eqb x.kind 2)
    or (ltb (low x.operand) (length formals) and eqb (high x.operand) (get_or formals (low x.operand) 0))

-- "then 8 at its first entry"
unfoldable pub definitions_hold : List ℕ → ℕ → List Entry → Read (Unit {0})
definitions_hold formals e [] = need true 8 e
definitions_hold formals e (x ∷ es) = need (call_holds formals x) 8 e >>= (λ _. definitions_hold formals (suc e) es)

unfoldable pub read_entries : ℕ → List Entry → Read Program
read_entries D es = do
  p ← read_program D 0 es
  _ ← leftovers p.next p.rest
  _ ← definitions_hold (formals_of p.value.definitions) 0 es
  got p

-- "Order: 1 (N is read only with 4 bytes present), 2" (docs/DECISIONS.md, "Length and N")
unfoldable pub read_sizes : List ℕ → Read (Unit {0})
read_sizes b = do
  _ ← need (leb 4 (length b)) 1 0
  _ ← need (eqb (length b) (table_length b)) 1 0
  need (leb (size_d b) definition_limit and leb 1 (size_n b) and leb (size_n b) entry_limit) 2 0

-- "then entry by entry .."
unfoldable pub read_bytes : List ℕ → Read Program
read_bytes b = do
  _ ← read_sizes b
  read_entries (size_d b) (table_entries b)

-- the reader's answer
pub data Answer : Type 0 where
  accepted : Program → Answer
  declined : (number entry : ℕ) → Answer

unfoldable pub reader_answer : Read Program → Answer
reader_answer (got p) = accepted p.value
reader_answer (refused n e) = declined n e

unfoldable pub read_table : List ℕ → Answer
read_table b = reader_answer (read_bytes b)
