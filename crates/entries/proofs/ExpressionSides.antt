-- What the code keeps of the two sides of a join. Assumes nothing.
use mathlib.Core.Path.{refl, subst}
use mathlib.Core.List.{List, ◌∷◌}
use Prim.Native.Nat.{ℕ}
use lib.ListN.{length}
use Rattle.job.specs.Syntax.{scope_left, scope_right}
use Rattle.job.specs.Construct.{own}
use Rattle.entries.specs.ExpressionSides.{JoinHolds}
use Rattle.entries.specs.NamedKind.{join_of}
use Rattle.entries.specs.Scope.{Means}
use Rattle.entries.specs.declared.table_kind.JoinKind.TheVariants as joins
use Rattle.entries.specs.declared.scope.Scope.{Scope}

-- the scopes of the sides; a binder's number is the length of the scope
module _ (s : Scope) (scope : List ℕ) (m : Means s scope) where
  pub sides-par : JoinHolds joins.Par scope (record { left = s; right = s; nodes = 1 })
  unfolding join_of scope_left scope_right own
  sides-par = record { left = m; right = m; nodes = refl }

  module _ (t : Scope) (n : Means t (s.count ∷ scope)) where
    inner : Means t (length scope ∷ scope)
    inner = subst (λ x. Means t (x ∷ scope)) m.counted n

    pub sides-seq : JoinHolds joins.Seq scope (record { left = s; right = t; nodes = 2 })
    unfolding join_of scope_left scope_right own
    sides-seq = record { left = m; right = inner; nodes = refl }

    pub sides-prune : JoinHolds joins.Prune scope (record { left = t; right = s; nodes = 3 })
    unfolding join_of scope_left scope_right own
    sides-prune = record { left = inner; right = m; nodes = refl }
