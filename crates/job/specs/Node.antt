-- The dag: its nodes, where each definition's body and the goal begin, and its index rules. Assumes nothing: these are definitions.
use Rattle.std.specs.Prelude.{Bool, true, false, List, ℕ, length, get_or, ltb, leb}
use Rattle.job.specs.Bounds.{parameter_limit, scope_limit, definition_limit, node_limit}
use Rattle.job.specs.Test.{◌and◌, for_all}
use Rattle.job.specs.Number.{fits}
use Rattle.job.specs.Site.{site_takes}
use Rattle.job.specs.Syntax.{Param, variable, constant}

-- The ten instructions (docs/DECISIONS.md, "Numbering"). (`where` alone is a reserved word.) `unknown` is a row of words that no node has.
pub data Node : Type 0 where
  stop : Node
  site : (s : ℕ) (ps : List Param) (next : ℕ) → Node
  call : (d : ℕ) (ps : List Param) (next : ℕ) → Node
  fork : (left right : ℕ) → Node
  assign : (x next : ℕ) → Node
  remove : (x next : ℕ) → Node
  where' : (x left right : ℕ) → Node
  choke : Node
  return : Node
  publish : Node
  unknown : Node

-- where a definition's body begins, and its count of formals
pub record Body : Type 0 where
  pub root : ℕ
  pub formals : ℕ

pub record Dag : Type 0 where
  pub nodes : List Node
  pub bodies : List Body
  pub goal : ℕ

-- the node and the body of a number (past the last one the test 14 leaves none to be asked for)
unfoldable pub node_at : Dag → ℕ → Node
node_at d i = get_or d.nodes i Node.unknown

unfoldable pub body_at : Dag → ℕ → Body
body_at d i = get_or d.bodies i (record { root = 0; formals = 0 })

-- document 01: index rules. Of a dag: "kinds, sites, counts, nodes, slots .. named lie in their ranges, a built-in with its own count"
unfoldable pub param_holds : Param → Bool
param_holds (variable x) = ltb x scope_limit
param_holds (constant v) = fits v

unfoldable pub params_hold : List Param → Bool
params_hold ps = leb (length ps) parameter_limit and for_all param_holds ps

module _ (d : Dag) where
  unfoldable pub is_node : ℕ → Bool
  is_node k = ltb k (length d.nodes)

  unfoldable pub node_holds : Node → Bool
  node_holds Node.stop = true
  node_holds (Node.site s ps k) = site_takes s (length ps) and params_hold ps and is_node k
  node_holds (Node.call e ps k) = ltb e (length d.bodies) and params_hold ps and is_node k
  node_holds (Node.fork l r) = is_node l and is_node r
  node_holds (Node.assign x k) = ltb x scope_limit and is_node k
  node_holds (Node.remove x k) = ltb x scope_limit and is_node k
  node_holds (Node.where' x l r) = ltb x scope_limit and is_node l and is_node r
  node_holds Node.choke = true
  node_holds Node.return = true
  node_holds Node.publish = true
  node_holds Node.unknown = false

  unfoldable pub body_holds : Body → Bool
  body_holds b = is_node b.root and leb b.formals parameter_limit

-- "at most 1,022 nodes"; "D is 0 to 32"
unfoldable pub dag_holds : Dag → Bool
dag_holds d =
    leb (length d.nodes) node_limit
    and leb (length d.bodies) definition_limit
    and is_node d d.goal
    and for_all (body_holds d) d.bodies
    and for_all (node_holds d) d.nodes
