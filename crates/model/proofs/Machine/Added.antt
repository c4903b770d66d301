-- What an instruction adds: tokens, those of frames with them, and cells. Assumes nothing.
use mathlib.Core.Bool.{Bool, true, false}
use Prim.Native.Nat.{ℕ, ◌≤◌}
use native.Mathlib.Omega.{arith}
use Rattle.job.specs.Node.{Node, Dag, node_at}
use Rattle.job.specs.Tail.{is_tail}
use Rattle.model.specs.Run.Follow.{queued_token}
use Rattle.model.specs.declared.record.Machine.{Machine}

-- the node at which a step's token stands
abbrev pub node_taken : Dag → Machine → (place : ℕ) → Node
node_taken d m place = node_at d (queued_token m place).node

-- a call in tail position adds none, any other its frame
abbrev pub unless_tail : Bool → ℕ
unless_tail true = 0
unless_tail false = 1

unfoldable pub tokens_added : Dag → Node → ℕ
tokens_added d Node.stop = 0
tokens_added d (Node.site s ps k) = 0
tokens_added d (Node.call e ps k) = unless_tail (is_tail d k)
tokens_added d (Node.fork l r) = 1
tokens_added d (Node.assign x k) = 0
tokens_added d (Node.remove x k) = 0
tokens_added d (Node.where' x l r) = 1
tokens_added d Node.choke = 0
tokens_added d Node.return = 0
tokens_added d Node.publish = 0
tokens_added d Node.unknown = 0

-- a where adds a cell, any other none
unfoldable pub cells_added : Node → ℕ
cells_added Node.stop = 0
cells_added (Node.site s ps k) = 0
cells_added (Node.call e ps k) = 0
cells_added (Node.fork l r) = 0
cells_added (Node.assign x k) = 0
cells_added (Node.remove x k) = 0
cells_added (Node.where' x l r) = 1
cells_added Node.choke = 0
cells_added Node.return = 0
cells_added Node.publish = 0
cells_added Node.unknown = 0

pub added-few : (n : Node) → cells_added n ≤ 1
unfolding cells_added
added-few Node.stop = omega arith
added-few (Node.site s ps k) = omega arith
added-few (Node.call e ps k) = omega arith
added-few (Node.fork l r) = omega arith
added-few (Node.assign x k) = omega arith
added-few (Node.remove x k) = omega arith
added-few (Node.where' x l r) = omega arith
added-few Node.choke = omega arith
added-few Node.return = omega arith
added-few Node.publish = omega arith
added-few Node.unknown = omega arith
