-- "E(P) silently becomes its body with P for the formals, no name caught": programs, the goals with definitions that they mean, and what a
-- call becomes, written out. Each holds by computation. In a meaning a variable is the number of binders between it and its own. Assumes
-- nothing.
use mathlib.Core.Path.{◌≡◌, refl}
use mathlib.Core.List.{[], ◌∷◌}
use Prim.Native.Nat.{ℕ}
use lib.IntN.{pos}
use Rattle.job.specs.Syntax as Job
use Rattle.job.specs.Syntax.{Program}
use Rattle.job.specs.Notation.{◌∥◌, ◌>[◌]>◌, ◌<[◌]<◌, v, #, let'}
use Rattle.calculus.specs.Meaning.{meaning}
use Rattle.calculus.specs.Event.{silently}
use Rattle.calculus.specs.Expression.{value, variable, Exp, site, call, par, seq, prune}
use Rattle.calculus.specs.Rewriting.{Rewrites, entered, par-left, prune-left}
use Rattle.calculus.proofs.Computing.{meant, rewritten}
use Rattle.calculus.proofs.Programs.{ask, defining, E, same_number}

-- 1. A binder of the body has the number of the parameter's variable.
-- E(x) = 17() >z> let(x), goal let(4) >a> (E(y) <y< 16()), where z and y are both 1: `same_number`.
-- Under z, x is one binder further out: variable 1.
pub same-number-body : (meaning same_number).body 0 ≡ seq (site 17 []) (site 0 (variable 1 ∷ []))
unfolding meant
same-number-body = refl

pub same-number-goal :
    (meaning same_number).goal ≡ seq (site 0 (value (pos 4) ∷ [])) (prune (call 0 (variable 0 ∷ [])) (site 16 []))
unfolding meant
same-number-goal = refl

-- The call is entered while y has no value. Its let(x) becomes a let of y, one binder further out than z: variable 1.
-- Caught, it would be variable 0, the answer of 17: that comes of putting y's number, 1, for x's, since under z 1 is z.
pub same-number-entered : (h now : ℕ) (g : Exp)
    → Rewrites
    (meaning same_number).body
    h
    now
    (prune (call 0 (variable 0 ∷ [])) g)
    silently
    (prune (seq (site 17 []) (site 0 (variable 1 ∷ []))) g)
unfolding meant rewritten
same-number-entered h now g = prune-left entered

-- 2. A parameter from further out: E as before, goal ((E(a) | E(b)) <b< 16()) <a< 18(), where a is 0 and b is 1.
abbrev pub further-out : Program
further-out =
    defining
    1
    (ask 17 >[ 1 ]> let' (v 0))
    (((E (v 0 ∷ []) ∥ E (v 1 ∷ [])) <[ 1 ]< ask 16) <[ 0 ]< ask 18)

pub further-out-goal :
    (meaning further-out).goal ≡ prune (prune (par (call 0 (variable 1 ∷ [])) (call 0 (variable 0 ∷ []))) (site 16 [])) (site 18 [])
unfolding meant
further-out-goal = refl

-- a's let becomes variable 2: z and b stand between. Not raised under z, it would be variable 1 and read b.
pub further-out-entered : (h now : ℕ) (f g k : Exp)
    → Rewrites
    (meaning further-out).body
    h
    now
    (prune (prune (par (call 0 (variable 1 ∷ [])) f) g) k)
    silently
    (prune (prune (par (seq (site 17 []) (site 0 (variable 2 ∷ []))) f) g) k)
unfolding meant rewritten
further-out-entered h now f g k = prune-left (prune-left (par-left entered))

-- 3. Two formals under two binders, one of each kind.
-- E(a, b) = 17() >z> (18(z, w, a, b) <w< let(b)), goal E(7, y) <y< 16(): a is 0, b is 1, z is 2 and w is 3; in the goal y is 0.
abbrev pub two-binders : Program
two-binders =
    defining
    2
    (ask 17 >[ 2 ]> (Job.site 18 (v 2 ∷ v 3 ∷ v 0 ∷ v 1 ∷ []) <[ 3 ]< let' (v 1)))
    (E (# 7 ∷ v 0 ∷ []) <[ 0 ]< ask 16)

-- Under z and w: z is variable 1, w is 0, a is 3 and b is 2. To the right of <w< there is no w: there b is variable 1.
pub two-binders-body :
    (meaning two-binders).body 0
    ≡ seq
    (site 17 [])
    (prune (site 18 (variable 1 ∷ variable 0 ∷ variable 3 ∷ variable 2 ∷ [])) (site 0 (variable 1 ∷ [])))
unfolding meant
two-binders-body = refl

pub two-binders-goal : (meaning two-binders).goal ≡ prune (call 0 (value (pos 7) ∷ variable 0 ∷ [])) (site 16 [])
unfolding meant
two-binders-goal = refl

-- a is 7 and b is y: variable 2 under z and w, variable 1 under z alone. z and w are left as they are.
-- In the other order of the formals the site would get y and then 7; raised once only, it would read z for y.
pub two-binders-entered : (h now : ℕ) (g : Exp)
    → Rewrites
    (meaning two-binders).body
    h
    now
    (prune (call 0 (value (pos 7) ∷ variable 0 ∷ [])) g)
    silently
    (prune
    (seq
    (site 17 [])
    (prune (site 18 (variable 1 ∷ variable 0 ∷ value (pos 7) ∷ variable 2 ∷ [])) (site 0 (variable 1 ∷ []))))
    g)
unfolding meant rewritten
two-binders-entered h now g = prune-left entered

-- 4. A call inside the body: E(x) = 17() >z> (E(z) | E(x)), goal E(5). Its parameters are replaced as a site's are.
abbrev pub calls-itself : Program
calls-itself = defining 1 (ask 17 >[ 1 ]> (E (v 1 ∷ []) ∥ E (v 0 ∷ []))) (E (# 5 ∷ []))

-- z stays z: with 5 put for variable 0 under z's binder too, E(z) would become E(5)
pub calls-itself-entered : (h now : ℕ)
    → Rewrites
    (meaning calls-itself).body
    h
    now
    (meaning calls-itself).goal
    silently
    (seq (site 17 []) (par (call 0 (variable 0 ∷ [])) (call 0 (value (pos 5) ∷ []))))
unfolding meant rewritten
calls-itself-entered h now = entered
