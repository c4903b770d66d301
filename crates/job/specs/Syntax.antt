-- The syntax tree of a job. Assumes nothing: these are definitions.
use Rattle.std.specs.Prelude.{List, [], ◌∷◌, map, ℕ, zero, suc, ℤ}

-- "variable parameter", by "its number"; "constant parameter", a "signed 32-bit value"
pub data Param : Type 0 where
  variable : ℕ → Param
  constant : ℤ → Param

-- f | g, f >x> g, f <x< g: a binder keeps its variable's number
pub data Join : Type 0 where
  par : Join
  seq : (x : ℕ) → Join
  prune : (x : ℕ) → Join

pub data Exp : Type 0 where
  stop : Exp
  site : (s : ℕ) → List Param → Exp
  call : (d : ℕ) → List Param → Exp
  join : Join → (f g : Exp) → Exp

pub record Definition : Type 0 where
  pub formals : ℕ
  pub body : Exp

-- "D definitions, then the goal"
pub record Program : Type 0 where
  pub definitions : List Definition
  pub goal : Exp

-- the count of formals of each definition
abbrev pub formals_of : List Definition → List ℕ
formals_of ds = map (λ (d : Definition). d.formals) ds

-- the variables in scope, the innermost binder's first: "formals from 0" (docs/DECISIONS.md, "Scope as a list")
unfoldable pub levels : ℕ → List ℕ
levels zero = []
levels (suc n) = n ∷ levels n

-- "x is in scope in g of kind 4 and in f of kind 5"
unfoldable pub scope_left : Join → List ℕ → List ℕ
scope_left par scope = scope
scope_left (seq x) scope = scope
scope_left (prune x) scope = x ∷ scope

unfoldable pub scope_right : Join → List ℕ → List ℕ
scope_right par scope = scope
scope_right (seq x) scope = x ∷ scope
scope_right (prune x) scope = scope
