-- How the bindings of a token stand for a substitution, and that both give the same values: a variable of the calculus is an unset cell,
-- a cell that is set is its value. By cases on a binding. Assumes nothing.
use mathlib.Core.Path.{◌≡◌, refl, sym, ◌∙◌, ap₂}
use mathlib.Core.List.Memᴰ
use mathlib.Core.List.{List, [], ◌∷◌, map, reverse, reverse_aux}
use mathlib.Core.Option.{Option, some, none}
use Prim.Native.Nat.{ℕ, zero, suc}
use lib.ListN.{get_or}
use lib.IntN.{ℤ, pos}
use Rattle.calculus.specs.Expression.{Param, Substitution, raise, lift, subst_param, innermost, formals}
use Rattle.calculus.specs.Rewriting.{param_values}
use Rattle.calculus.proofs.Substitution.{◌after◌, itself, bound}
use Rattle.simulation.proofs.AbstractMachine.{Binding, Store, with_set, binding_at, named, value_in, in_front, values_in}
use Rattle.simulation.proofs.Store.{◌is-in◌, set_same, set_keeps}

-- the cell at an index of the list
pub data At : List ℕ → ℕ → ℕ → Type 0 where
  here : {c : ℕ} {Γ : List ℕ} → At (c ∷ Γ) zero c
  there : {b c j : ℕ} {Γ : List ℕ} → At Γ j c → At (b ∷ Γ) (suc j) c

-- Γ: the cells of the enclosing prunes on whose left side we stand; variable j of the calculus is the cell at j
pub data Bind (σ : Store) (Γ : List ℕ) : Param → Binding → Type 0 where
  value : {v : ℤ} → Bind σ Γ (Param.value v) (Binding.value v)
  was-set : {c : ℕ} {v : ℤ} → σ c ≡ some v → Bind σ Γ (Param.value v) (Binding.cell c)
  is-cell : {j c : ℕ} → At Γ j c → Bind σ Γ (Param.variable j) (Binding.cell c)

pub record Env (σ : Store) (Γ : List ℕ) (ρ : Substitution) (B : List Binding) : Type 0 where
  pub binds : (i : ℕ) → Bind σ Γ (ρ i) (binding_at B i)

-- what a change of cells and store, with θ for the variables, does to bindings
pub record Change (θ : Substitution) (σ : Store) (Γ : List ℕ) (τ : Store) (Δ : List ℕ) : Type 0 where
  pub changed : {p : Param} {b : Binding} → Bind σ Γ p b → Bind τ Δ (subst_param θ p) b

raised : {σ : Store} {Γ : List ℕ} {c : ℕ} {p : Param} {b : Binding} → Bind σ Γ p b → Bind σ (c ∷ Γ) (raise p) b
unfolding raise
raised value = value
raised (was-set e) = was-set e
raised (is-cell a) = is-cell (there a)

value-anywhere : {σ : Store} {Γ Δ : List ℕ} {v : ℤ} {b : Binding} → Bind σ Γ (Param.value v) b → Bind σ Δ (Param.value v) b
value-anywhere value = value
value-anywhere (was-set e) = was-set e

pub change-lift : {θ : Substitution} {σ τ : Store} {Γ Δ : List ℕ} (c : ℕ)
    → Change θ σ Γ τ Δ → Change (lift θ) σ (c ∷ Γ) τ (c ∷ Δ)
unfolding lift subst_param
change-lift {θ} {σ} {τ} {Γ} {Δ} c m = record { changed = go }
  where
    go : {p : Param} {b : Binding} → Bind σ (c ∷ Γ) p b → Bind τ (c ∷ Δ) (subst_param (lift θ) p) b
    go value = value
    go (was-set e) = value-anywhere (m.changed (was-set e))
    go (is-cell here) = is-cell here
    go (is-cell (there a)) = raised (m.changed (is-cell a))

pub env-changed : {σ τ : Store} {Γ Δ : List ℕ} {θ ρ : Substitution} {B : List Binding}
    → Change θ σ Γ τ Δ → Env σ Γ ρ B → Env τ Δ (θ after ρ) B
env-changed m env = record { binds = λ i. m.changed (env.binds i) }

-- a cell is set: nothing else changes, ..
pub change-set : (σ : Store) {Γ : List ℕ} (c : ℕ) (v : ℤ) → σ c ≡ none → Change itself σ Γ (with_set σ c v) Γ
unfolding subst_param
change-set σ {Γ} c v n = record { changed = go }
  where
    go : {p : Param} {b : Binding} → Bind σ Γ p b → Bind (with_set σ c v) Γ (subst_param itself p) b
    go value = value
    go (was-set e) = was-set (set_keeps σ c _ v n e)
    go (is-cell a) = is-cell a

-- .. but its own variable, which is the value now
pub change-innermost : (σ : Store) {Γ : List ℕ} (c : ℕ) (v : ℤ) → σ c ≡ none → Change (innermost v) σ (c ∷ Γ) (with_set σ c v) Γ
unfolding subst_param innermost
change-innermost σ {Γ} c v n = record { changed = go }
  where
    go : {p : Param} {b : Binding} → Bind σ (c ∷ Γ) p b → Bind (with_set σ c v) Γ (subst_param (innermost v) p) b
    go value = value
    go (was-set e) = was-set (set_keeps σ c _ v n e)
    go (is-cell here) = was-set (set_same σ c v)
    go (is-cell (there a)) = is-cell a

pub env-set : {σ : Store} {Γ : List ℕ} {ρ : Substitution} {B : List Binding} (c : ℕ) (v : ℤ)
    → σ c ≡ none → Env σ Γ ρ B → Env (with_set σ c v) Γ ρ B
env-set {σ} {Γ} c v n env = record { binds = λ i. go (env.binds i) }
  where
    go : {p : Param} {b : Binding} → Bind σ Γ p b → Bind (with_set σ c v) Γ p b
    go value = value
    go (was-set e) = was-set (set_keeps σ c _ v n e)
    go (is-cell a) = is-cell a

-- one more binding
module _ {σ : Store} {Γ : List ℕ} {ρ : Substitution} {B : List Binding} (env : Env σ Γ ρ B) where
  pub env-value : (v : ℤ) → Env σ Γ (bound v ρ) (Binding.value v ∷ B)
  env-value v = record { binds = go }
    where
      go : (i : ℕ) → Bind σ Γ (bound v ρ i) (binding_at (Binding.value v ∷ B) i)
      go zero = value
      go (suc i) = env.binds i

  pub env-cell : (c : ℕ) → Env σ (c ∷ Γ) (lift ρ) (Binding.cell c ∷ B)
  unfolding lift
  env-cell c = record { binds = go }
    where
      go : (i : ℕ) → Bind σ (c ∷ Γ) (lift ρ i) (binding_at (Binding.cell c ∷ B) i)
      go zero = is-cell here
      go (suc i) = raised (env.binds i)

  -- parameters, with the bindings that they name
  named-bind : (p : Param) → Bind σ Γ (subst_param ρ p) (named B p)
  unfolding subst_param
  named-bind (Param.value v) = value
  named-bind (Param.variable i) = env.binds i

  named-at : (ps : List Param) (i : ℕ) → Bind σ Γ (get_or (map (subst_param ρ) ps) i (Param.value (pos 0))) (binding_at (map (named B) ps)
      i)
  named-at [] i = value
  named-at (p ∷ ps) zero = named-bind p
  named-at (p ∷ ps) (suc i) = named-at ps i

  pub env-formals : (ps : List Param) → Env σ Γ (formals (map (subst_param ρ) ps)) (map (named B) (reverse ps))
  unfolding formals
  env-formals ps = record { binds = λ i. rw (reverse-map (subst_param ρ) ps []) (named-at (reverse ps) i) }
    where
      reverse-map : (f : Param → Param) (l r : List Param) → reverse_aux (map f l) (map f r) ≡ map f (reverse_aux l r)
      reverse-map f [] r = refl
      reverse-map f (x ∷ l) r = reverse-map f l (x ∷ r)

-- the value of a parameter of the calculus
abbrev value_of : Param → Option ℤ
value_of (Param.value v) = some v
value_of (Param.variable i) = none

values_of-cons : (p : Param) (ps : List Param) → param_values (p ∷ ps) ≡ in_front (value_of p) (param_values ps)
unfolding param_values
values_of-cons (Param.value v) ps = go (param_values ps)
  where
    go : (o : Option (List ℤ)) → (elim o as (λ x. Option (List ℤ)) [ none ↦ none | some vs ↦ some (v ∷ vs) ]) ≡ in_front (some v) o
    go none = refl
    go (some vs) = refl
values_of-cons (Param.variable i) ps = refl

abbrev pub Unset : Store → List ℕ → Type 0
Unset σ Γ = (c : ℕ) → c is-in Γ → σ c ≡ none

at-member : {Γ : List ℕ} {j c : ℕ} → At Γ j c → c is-in Γ
at-member here = Memᴰ.head refl
at-member (there a) = Memᴰ.tail (at-member a)

value-agrees : {σ : Store} {Γ : List ℕ} {p : Param} {b : Binding} → Unset σ Γ → Bind σ Γ p b → value_in σ b ≡ value_of p
value-agrees u value = refl
value-agrees u (was-set e) = e
value-agrees u (is-cell a) = u _ (at-member a)

pub values_agree : {σ : Store} {Γ : List ℕ} {ρ : Substitution} {B : List Binding}
    → Unset σ Γ → Env σ Γ ρ B → (ps : List Param) → values_in σ B ps ≡ param_values (map (subst_param ρ) ps)
unfolding values_in param_values
values_agree u env [] = refl
values_agree {ρ} u env (p ∷ ps) =
    ap₂ in_front (value-agrees u (named-bind env p)) (values_agree u env ps) ∙ sym (values_of-cons (subst_param ρ p) (map (subst_param ρ)
    ps))
