-- The goal, with definitions, that a program is for the calculus. Assumes nothing: these are definitions.
use Rattle.std.specs.Prelude.{true, false, List, [], ◌∷◌, map, ℕ, zero, suc, eqb}
use Rattle.job.specs.Syntax as Job
use Rattle.job.specs.Syntax.{Definition, Program, levels, scope_left, scope_right}
use Rattle.calculus.specs.Expression as Calculus
use Rattle.calculus.specs.Allowed.{Goal}

-- how many binders stand between a variable and its own: its position in the scope (7 leaves no variable that is not in scope)
unfoldable pub position : ℕ → List ℕ → ℕ
position x [] = 0
position x (y ∷ scope) = elim (eqb x y) [ true ↦ 0 | false ↦ suc (position x scope) ]

unfoldable pub param_meant : List ℕ → Job.Param → Calculus.Param
param_meant scope (Job.variable x) = Calculus.variable (position x scope)
param_meant scope (Job.constant v) = Calculus.value v

unfoldable pub join_meant : Job.Join → Calculus.Exp → Calculus.Exp → Calculus.Exp
join_meant Job.par f g = Calculus.par f g
join_meant (Job.seq x) f g = Calculus.seq f g
join_meant (Job.prune x) f g = Calculus.prune f g

unfoldable pub exp_meant : List ℕ → Job.Exp → Calculus.Exp
exp_meant scope Job.stop = Calculus.stop
exp_meant scope (Job.site s ps) = Calculus.site s (map (param_meant scope) ps)
exp_meant scope (Job.call d ps) = Calculus.call d (map (param_meant scope) ps)
exp_meant scope (Job.join j f g) = join_meant j (exp_meant (scope_left j scope) f) (exp_meant (scope_right j scope) g)

-- the body of definition d (8 leaves no call of one that is missing)
unfoldable pub body_meant : List Definition → ℕ → Calculus.Exp
body_meant [] d = Calculus.stop
body_meant (e ∷ es) zero = exp_meant (levels e.formals) e.body
body_meant (e ∷ es) (suc d) = body_meant es d

unfoldable pub meaning : Program → Goal
meaning p = record { body = body_meant p.definitions; goal = exp_meant [] p.goal }
