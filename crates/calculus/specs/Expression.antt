-- Expressions of the calculus, and substitution with no name caught. Assumes nothing: these are definitions.
-- A variable is the number of binders between it and its own, so that a name cannot be caught (docs/DECISIONS.md, "Variables").
use Rattle.std.specs.Prelude.{List, map, reverse, ℕ, zero, suc, get_or, ℤ, pos}

pub data Param : Type 0 where
  value : ℤ → Param
  variable : ℕ → Param

pub data Exp : Type 0 where
  stop : Exp
  -- M(P), a site call; E(P), a definition call
  site : (s : ℕ) → List Param → Exp
  call : (d : ℕ) → List Param → Exp
  -- f | g; f >x> g, x bound in g; f <x< g, x bound in f
  par : (f g : Exp) → Exp
  seq : (f g : Exp) → Exp
  prune : (f g : Exp) → Exp
  -- document 01: open call. It is named by its handle
  pending : (handle : ℕ) → Exp
  -- document 02, request 1: a call of rwait, whose due time is fixed
  due : (time : ℕ) → Exp
  -- document 01: value in hand
  hand : (v : ℤ) → Exp

-- what stands for each variable
abbrev pub Substitution : Type 0
Substitution = ℕ → Param

-- a parameter taken under one more binder
unfoldable pub raise : Param → Param
raise (value v) = value v
raise (variable i) = variable (suc i)

-- a substitution taken under one more binder, whose own variable it leaves alone
unfoldable pub lift : Substitution → Substitution
lift σ zero = variable zero
lift σ (suc i) = raise (σ i)

unfoldable pub subst_param : Substitution → Param → Param
subst_param σ (value v) = value v
subst_param σ (variable i) = σ i

unfoldable pub substitute : Substitution → Exp → Exp
substitute σ stop = stop
substitute σ (site s ps) = site s (map (subst_param σ) ps)
substitute σ (call d ps) = call d (map (subst_param σ) ps)
substitute σ (par f g) = par (substitute σ f) (substitute σ g)
substitute σ (seq f g) = seq (substitute σ f) (substitute (lift σ) g)
substitute σ (prune f g) = prune (substitute (lift σ) f) (substitute σ g)
substitute σ (pending h) = pending h
substitute σ (due d) = due d
substitute σ (hand v) = hand v

-- v for the innermost variable; the others are one binder nearer
unfoldable pub innermost : ℤ → Substitution
innermost v zero = value v
innermost v (suc i) = variable i

-- P for the formals: the last formal is the innermost variable (8 leaves no call with fewer parameters than formals)
unfoldable pub formals : List Param → Substitution
formals ps i = get_or (reverse ps) i (value (pos 0))
