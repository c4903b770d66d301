-- What the code keeps of a join. Assumes nothing: these are definitions.
use Rattle.std.specs.Prelude.{◌≡◌, List, ℕ, length}
use Rattle.job.specs.Syntax.{scope_left, scope_right}
use Rattle.job.specs.Construct.{own}
use Rattle.entries.specs.NamedKind.{join_of}
use Rattle.entries.specs.Scope.{Means}
use Rattle.entries.specs.declared.expression.Sides.{Sides}
use Rattle.entries.specs.declared.table_kind.JoinKind.{JoinKind}

-- the scopes of the two sides, where these variables are in scope, and the nodes that the join makes itself
pub record JoinHolds (kind : JoinKind) (scope : List ℕ) (s : Sides) : Type 0 where
  pub left : Means s.left (scope_left (join_of kind (length scope)) scope)
  pub right : Means s.right (scope_right (join_of kind (length scope)) scope)
  pub nodes : s.nodes ≡ own (join_of kind (length scope))
