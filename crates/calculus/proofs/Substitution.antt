-- Laws of substitution: two after one another are one, the variables for themselves change nothing, a value put in for the variable of a
-- binder just passed is bound in front, and what is in scope of what a substitution leaves alone stays. By recursion on the expression.
-- Assumes nothing.
use mathlib.Core.Path.{◌≡◌, refl, ◌∙◌, ap, ap₂, fun_ext}
use mathlib.Core.List.{List, [], ◌∷◌, map}
use Prim.Native.Nat.{ℕ, zero, suc, ◌<◌}
use native.Mathlib.Omega.{arith}
use lib.IntN.{ℤ}
use Rattle.calculus.specs.Expression.{Param, value, variable, Exp, stop, site, call, par, seq, prune, pending, due, hand}
use Rattle.calculus.specs.Expression.{Substitution, raise, lift, subst_param, substitute, innermost}

infixr 40 ◌after◌
-- first ρ, then θ
abbrev pub ◌after◌ : Substitution → Substitution → Substitution
◌after◌ θ ρ i = subst_param θ (ρ i)

raise-lift : (θ : Substitution) (p : Param) → subst_param (lift θ) (raise p) ≡ raise (subst_param θ p)
unfolding raise lift subst_param
raise-lift θ (value v) = refl
raise-lift θ (variable i) = refl

pub lift-after : (θ ρ : Substitution) → lift θ after lift ρ ≡ lift (θ after ρ)
unfolding lift subst_param
lift-after θ ρ = fun_ext go
  where
    go : (i : ℕ) → (lift θ after lift ρ) i ≡ lift (θ after ρ) i
    go zero = refl
    go (suc i) = raise-lift θ (ρ i)

subst_param-after : (θ ρ : Substitution) (p : Param) → subst_param θ (subst_param ρ p) ≡ subst_param (θ after ρ) p
unfolding subst_param
subst_param-after θ ρ (value v) = refl
subst_param-after θ ρ (variable i) = refl

subst_params-after : (θ ρ : Substitution) (ps : List Param) → map (subst_param θ) (map (subst_param ρ) ps) ≡ map (subst_param (θ after ρ))
    ps
subst_params-after θ ρ [] = refl
subst_params-after θ ρ (p ∷ ps) = ap₂ ◌∷◌ (subst_param-after θ ρ p) (subst_params-after θ ρ ps)

pub subst-after : (θ ρ : Substitution) (e : Exp) → substitute θ (substitute ρ e) ≡ substitute (θ after ρ) e
unfolding substitute
subst-after θ ρ stop = refl
subst-after θ ρ (site s ps) = ap (site s) (subst_params-after θ ρ ps)
subst-after θ ρ (call d ps) = ap (call d) (subst_params-after θ ρ ps)
subst-after θ ρ (par f g) = ap₂ par (subst-after θ ρ f) (subst-after θ ρ g)
subst-after θ ρ (seq f g) =
    ap₂ seq (subst-after θ ρ f) (subst-after (lift θ) (lift ρ) g ∙ ap (λ τ. substitute τ g) (lift-after θ ρ))
subst-after θ ρ (prune f g) =
    ap₂ prune (subst-after (lift θ) (lift ρ) f ∙ ap (λ τ. substitute τ f) (lift-after θ ρ)) (subst-after θ ρ g)
subst-after θ ρ (pending h) = refl
subst-after θ ρ (due d) = refl
subst-after θ ρ (hand v) = refl

-- each variable for itself
abbrev pub itself : Substitution
itself i = variable i

subst_params-itself : (ps : List Param) → map (subst_param itself) ps ≡ ps
unfolding subst_param
subst_params-itself [] = refl
subst_params-itself (value v ∷ ps) = ap (◌∷◌ (value v)) (subst_params-itself ps)
subst_params-itself (variable i ∷ ps) = ap (◌∷◌ (variable i)) (subst_params-itself ps)

lift-itself : lift itself ≡ itself
unfolding lift raise
lift-itself = fun_ext go
  where
    go : (i : ℕ) → lift itself i ≡ itself i
    go zero = refl
    go (suc i) = refl

pub subst-itself : (e : Exp) → substitute itself e ≡ e
unfolding substitute
subst-itself stop = refl
subst-itself (site s ps) = ap (site s) (subst_params-itself ps)
subst-itself (call d ps) = ap (call d) (subst_params-itself ps)
subst-itself (par f g) = ap₂ par (subst-itself f) (subst-itself g)
subst-itself (seq f g) = ap₂ seq (subst-itself f) (ap (λ τ. substitute τ g) lift-itself ∙ subst-itself g)
subst-itself (prune f g) = ap₂ prune (ap (λ τ. substitute τ f) lift-itself ∙ subst-itself f) (subst-itself g)
subst-itself (pending h) = refl
subst-itself (due d) = refl
subst-itself (hand v) = refl

-- v for the innermost variable, ρ for the others
abbrev pub bound : ℤ → Substitution → Substitution
bound v ρ zero = value v
bound v ρ (suc i) = ρ i

innermost-raise : (v : ℤ) (p : Param) → subst_param (innermost v) (raise p) ≡ p
unfolding subst_param innermost raise
innermost-raise v (value w) = refl
innermost-raise v (variable i) = refl

pub innermost-lift : (v : ℤ) (ρ : Substitution) (e : Exp) → substitute (innermost v) (substitute (lift ρ) e) ≡ substitute (bound v ρ) e
unfolding lift innermost subst_param
innermost-lift v ρ e = subst-after (innermost v) (lift ρ) e ∙ ap (λ τ. substitute τ e) (fun_ext go)
  where
    go : (i : ℕ) → (innermost v after lift ρ) i ≡ bound v ρ i
    go zero = refl
    go (suc i) = innermost-raise v (ρ i)

-- a substitution that leaves the n innermost variables alone
abbrev pub Spares : ℕ → Substitution → Type 0
Spares n ρ = (i : ℕ) → i < n → ρ i ≡ variable i

pub spares-lift : {n : ℕ} (ρ : Substitution) → Spares n ρ → Spares (suc n) (lift ρ)
unfolding lift raise
spares-lift ρ s zero l = refl
spares-lift ρ s (suc i) l = ap raise (s i (omega arith))
