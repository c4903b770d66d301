-- What the two sides of a join are compiled with. (`join_of` of crate `entries` is the join of a kind.) Assumes nothing: these are
-- definitions.
use Rattle.std.specs.Prelude.{◌≡◌, List, ℕ}
use Rattle.job.specs.Syntax.{Join, scope_left, scope_right}
use Rattle.job.specs.Construct.{first_left, next_left, next_right}
use Rattle.entries.specs.Scope.{Means}
use Rattle.compiler.specs.declared.plan.ExpressionPlan.{ExpressionPlan}

-- an expression with these variables in scope, its nodes numbered from `first` toward `next`
pub record IsPlan (r : ExpressionPlan) (scope : List ℕ) (first next : ℕ) : Type 0 where
  pub scoped : Means r.scope scope
  pub begins : r.first ≡ first
  pub goes : r.next ≡ next

-- f and g of a join whose nodes are numbered from n toward k; g's nodes are numbered from m
abbrev pub PlansLeft : (j : Join) → (scope : List ℕ) → (n k : ℕ) → ExpressionPlan → Type 0
PlansLeft j scope n k r = IsPlan r (scope_left j scope) (first_left j n) (next_left j n k)

abbrev pub PlansRight : (j : Join) → (scope : List ℕ) → (n m k : ℕ) → ExpressionPlan → Type 0
PlansRight j scope n m k r = IsPlan r (scope_right j scope) m (next_right j n k)
