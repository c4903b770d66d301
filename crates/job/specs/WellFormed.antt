-- Which programs a table may hold. Nothing here speaks of the reader. Assumes nothing: these are definitions.
use Rattle.std.specs.Prelude.{◌≡◌, ℕ, suc, ◌≤◌, ◌<◌, length, get_or, ℤ}
use mathlib.Core.List.{List, [], Memᴰ}
use Rattle.job.specs.Bounds.{parameter_limit, scope_limit, depth_limit, definition_limit, entry_limit}
use Rattle.job.specs.Test.{All}
use Rattle.job.specs.Number.{Signed32}
use Rattle.job.specs.Site.{builtin_counts}
use Rattle.job.specs.Syntax.{Param, Join, Exp, Definition, Program, formals_of, levels, scope_left, scope_right}
use Rattle.job.specs.Encode.{encode_entries}

-- a parameter where these variables are in scope
pub data GoodParam (scope : List ℕ) : Param → Type 0 where
  variable : {x : ℕ} → Memᴰ x scope → GoodParam scope (Param.variable x)
  constant : {v : ℤ} → Signed32 v → GoodParam scope (Param.constant v)

-- a site that takes n parameters: a built-in its own count, an outside site at most 4
pub data SiteTakes (s n : ℕ) : Type 0 where
  builtin : s < length builtin_counts → n ≡ get_or builtin_counts s 0 → SiteTakes s n
  outside : 16 ≤ s → s ≤ 1023 → n ≤ parameter_limit → SiteTakes s n

-- "variables are numbered by level: .. each binder takes the next number"; "at most 8 are in scope"
pub data GoodJoin (scope : List ℕ) : Join → Type 0 where
  par : GoodJoin scope Join.par
  seq : length scope < scope_limit → GoodJoin scope (Join.seq (length scope))
  prune : length scope < scope_limit → GoodJoin scope (Join.prune (length scope))

-- an expression with so many levels of depth left, where these variables are in scope; `formals` are those of the definitions
pub data Good (formals : List ℕ) : (left : ℕ) → (scope : List ℕ) → Exp → Type 0 where
  stop : {left : ℕ} {scope : List ℕ} → Good formals (suc left) scope Exp.stop
  site : {left : ℕ} {scope : List ℕ} {s : ℕ} {ps : List Param}
      → SiteTakes s (length ps) → All (GoodParam scope) ps → Good formals (suc left) scope (Exp.site s ps)
  call : {left : ℕ} {scope : List ℕ} {d : ℕ} {ps : List Param}
      → d < length formals → length ps ≡ get_or formals d 0 → All (GoodParam scope) ps → Good formals (suc left) scope (Exp.call d ps)
  join : {left : ℕ} {scope : List ℕ} {j : Join} {f g : Exp}
      → GoodJoin scope j → Good formals left (scope_left j scope) f → Good formals left (scope_right j scope) g
      → Good formals (suc left) scope (Exp.join j f g)

-- "count of formals, 0 to 4"; "the root of a body or of the goal has depth 1; depth ends at 24"
pub record GoodDefinition (formals : List ℕ) (d : Definition) : Type 0 where
  pub count : d.formals ≤ parameter_limit
  pub body : Good formals depth_limit (levels d.formals) d.body

-- "D is 0 to 32, N is 1 to 512". (A goal has an entry, so N is not 0.)
pub record WellFormed (p : Program) : Type 0 where
  pub definitions : length p.definitions ≤ definition_limit
  pub entries : length (encode_entries p) ≤ entry_limit
  pub bodies : All (GoodDefinition (formals_of p.definitions)) p.definitions
  pub goal : Good (formals_of p.definitions) depth_limit [] p.goal
