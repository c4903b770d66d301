-- How a join's sides are compiled, for each kind of join. Assumes nothing.
use Prim.Native.Nat.{ℕ, ◌+◌}
use mathlib.Core.Path.{refl, subst}
use mathlib.Core.List.{List, ◌∷◌}
use lib.ListN.{length}
use Rattle.job.specs.Syntax.{scope_left, scope_right}
use Rattle.job.specs.Construct.{own, next_left, next_right}
use Rattle.entries.specs.NamedKind.{join_of}
use Rattle.entries.specs.Scope.{Means}
use Rattle.entries.specs.declared.table_kind.JoinKind.TheVariants as joins
use Rattle.entries.specs.declared.scope.Scope.{Scope}
use Rattle.compiler.specs.PlanSides.{PlansLeft, PlansRight}

-- a binder's number is the length of the scope
module _ (s : Scope) (scope : List ℕ) (mean : Means s scope) (n k : ℕ) where
  inner : (t : Scope) → Means t (s.count ∷ scope) → Means t (length scope ∷ scope)
  inner t h = subst (λ x. Means t (x ∷ scope)) mean.counted h

  pub left-par : PlansLeft (join_of joins.Par (length scope)) scope n k (record { scope = s; first = n + 1; next = k })
  unfolding join_of scope_left own next_left
  left-par = record { scoped = mean; begins = refl; goes = refl }

  pub left-seq : PlansLeft (join_of joins.Seq (length scope)) scope n k (record { scope = s; first = n + 2; next = n })
  unfolding join_of scope_left own next_left
  left-seq = record { scoped = mean; begins = refl; goes = refl }

  pub left-prune : (t : Scope) → Means t (s.count ∷ scope)
      → PlansLeft (join_of joins.Prune (length scope)) scope n k (record { scope = t; first = n + 3; next = n + 1 })
  unfolding join_of scope_left own next_left
  left-prune t h = record { scoped = inner t h; begins = refl; goes = refl }

  module _ (m : ℕ) where
    pub right-par : PlansRight (join_of joins.Par (length scope)) scope n m k (record { scope = s; first = m; next = k })
    unfolding join_of scope_right next_right
    right-par = record { scoped = mean; begins = refl; goes = refl }

    pub right-seq : (t : Scope) → Means t (s.count ∷ scope)
        → PlansRight (join_of joins.Seq (length scope)) scope n m k (record { scope = t; first = m; next = n + 1 })
    unfolding join_of scope_right next_right
    right-seq t h = record { scoped = inner t h; begins = refl; goes = refl }

    pub right-prune : PlansRight (join_of joins.Prune (length scope)) scope n m k (record { scope = s; first = m; next = n + 2 })
    unfolding join_of scope_right next_right
    right-prune = record { scoped = mean; begins = refl; goes = refl }
