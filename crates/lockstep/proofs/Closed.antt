-- No variable is free in a goal's meaning, so that no substitution changes it: a variable in scope means a position below the scope's
-- length, and a substitution that leaves those alone leaves the expression alone. Assumes nothing.
use mathlib.Core.Path.{◌≡◌, refl, ap, ap₂}
use mathlib.Core.Logic.{◌⊎◌, inl, inr}
use mathlib.Core.Bool.{Bool, true, false}
use mathlib.Core.List.Memᴰ
use mathlib.Core.List.{List, [], ◌∷◌, map, Memᴰ}
use Prim.Native.Nat.{ℕ, suc, ◌<◌}
use native.Mathlib.Omega.{arith}
use lib.ListN.{length}
use lib.Dec.{eqb}
use Rattle.job.specs.Test.{All, none, more}
use Rattle.job.specs.Syntax.{Param, Exp, Program, scope_left, scope_right}
use Rattle.job.specs.WellFormed.{GoodParam, GoodJoin, Good, WellFormed}
use Rattle.calculus.specs.Meaning.{position, param_meant, join_meant, exp_meant, meaning}
use Rattle.calculus.specs.Expression as Calculus
use Rattle.calculus.specs.Expression.{Substitution, lift, subst_param}
use Rattle.job.proofs.Test.{eq-eqb, clash}
use Rattle.calculus.proofs.Substitution.{Spares, spares-lift}

position-below : {x : ℕ} (scope : List ℕ) → Memᴰ x scope → position x scope < length scope
unfolding position
position-below [] m = absurd (Memᴰ.not-nil m)
position-below {x} (y ∷ scope) m = go (eqb x y) refl (Memᴰ.cases_cons m) (λ r. position-below scope r)
  where
    go : (b : Bool) → eqb x y ≡ b → (x ≡ y) ⊎ Memᴰ x scope → (Memᴰ x scope → position x scope < length scope)
        → elim b [ true ↦ 0 | false ↦ suc (position x scope) ] < suc (length scope)
    go true e c below = omega arith
    go false e (inl q) below = clash (eq-eqb x y q) e
    go false e (inr r) below = let l = below r in omega arith

param_fixed : {scope : List ℕ} {p : Param} (ρ : Substitution) → Spares (length scope) ρ → GoodParam scope p
    → subst_param ρ (param_meant scope p) ≡ param_meant scope p
unfolding subst_param param_meant
param_fixed {scope} ρ s (GoodParam.variable m) = s _ (position-below scope m)
param_fixed ρ s (GoodParam.constant f) = refl

params-fixed : {scope : List ℕ} {ps : List Param} (ρ : Substitution) → Spares (length scope) ρ → All (GoodParam scope) ps
    → map (subst_param ρ) (map (param_meant scope) ps) ≡ map (param_meant scope) ps
params-fixed ρ s none = refl
params-fixed ρ s (more p ps) = ap₂ ◌∷◌ (param_fixed ρ s p) (params-fixed ρ s ps)

-- an expression's variables are those in its scope
pub exp-fixed : {formals : List ℕ} {left : ℕ} {scope : List ℕ} {e : Exp} (ρ : Substitution)
    → Spares (length scope) ρ → Good formals left scope e → Calculus.substitute ρ (exp_meant scope e) ≡ exp_meant scope e
unfolding Calculus.substitute exp_meant join_meant scope_left scope_right
exp-fixed ρ s Good.stop = refl
exp-fixed ρ s (Good.site {s = n} t ps) = ap (Calculus.site n) (params-fixed ρ s ps)
exp-fixed ρ s (Good.call {d = n} l t ps) = ap (Calculus.call n) (params-fixed ρ s ps)
exp-fixed ρ s (Good.join GoodJoin.par f g) = ap₂ Calculus.par (exp-fixed ρ s f) (exp-fixed ρ s g)
exp-fixed ρ s (Good.join (GoodJoin.seq l) f g) = ap₂ Calculus.seq (exp-fixed ρ s f) (exp-fixed (lift ρ) (spares-lift ρ s) g)
exp-fixed ρ s (Good.join (GoodJoin.prune l) f g) = ap₂ Calculus.prune (exp-fixed (lift ρ) (spares-lift ρ s) f) (exp-fixed ρ s g)

pub goal-closed : (p : Program) → WellFormed p → (ρ : Substitution) → Calculus.substitute ρ (meaning p).goal ≡ (meaning p).goal
unfolding meaning
goal-closed p w ρ = exp-fixed ρ (λ i l. absurd (omega arith)) w.goal
