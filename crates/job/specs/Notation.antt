-- A notation of programs, close to document 01's. Assumes nothing: these are definitions.
use Rattle.std.specs.Prelude.{[], ◌∷◌, ℕ, pos}
use Rattle.job.specs.Syntax.{Param, variable, constant, par, seq, prune, Exp, site, call, join, Program}

-- f ∥ g, f >[ x ]> g, f <[ x ]< g, where x is the variable's number
infixr 20 ◌∥◌
infixr 22 ◌>[◌]>◌
infixl 21 ◌<[◌]<◌
abbrev pub ◌∥◌ : Exp → Exp → Exp
f ∥ g = join par f g

abbrev pub ◌>[◌]>◌ : Exp → ℕ → Exp → Exp
f >[ x ]> g = join (seq x) f g

abbrev pub ◌<[◌]<◌ : Exp → ℕ → Exp → Exp
f <[ x ]< g = join (prune x) f g

abbrev pub v : ℕ → Param
v x = variable x

abbrev pub # : ℕ → Param
# n = constant (pos n)

abbrev pub let' : Param → Exp
let' a = site 0 (a ∷ [])

abbrev pub signal : Exp
signal = site 3 []

abbrev pub add : Param → Param → Exp
add a b = site 4 (a ∷ b ∷ [])

abbrev pub goal : Exp → Program
goal g = record { definitions = []; goal = g }

-- E() = body, with the goal E()
abbrev pub calling : Exp → Program
calling b = record { definitions = record { formals = 0; body = b } ∷ []; goal = call 0 [] }
