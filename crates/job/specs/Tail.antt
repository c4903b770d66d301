-- Document 02, request 2: a definition call in tail position. Assumes nothing: these are definitions.
use Rattle.std.specs.Prelude.{◌≡◌, Bool, true, false, ℕ, zero, suc, length}
use Rattle.job.specs.Node.{Node, Dag, node_at}

module _ (d : Dag) where
  -- "nothing but remove nodes between it and its body's return": from a call's next node on
  pub data Tail : (node : ℕ) → Type 0 where
    return : {n : ℕ} → node_at d n ≡ Node.return → Tail n
    remove : {n x k : ℕ} → node_at d n ≡ Node.remove x k → Tail k → Tail n

  -- The computed form: proofs/Tail.antt shows that it holds of a node exactly if `Tail` does (`tail-exactly`). So many nodes are looked at.
  -- (A dag that no table has may lead its removes in a circle: that is no tail.)
  unfoldable pub is_tail_within : (looks node : ℕ) → Bool
  is_tail_within zero n = false
  is_tail_within (suc looks) n =
      elim (node_at d n) [
        | Node.stop ↦ false
        | Node.site s ps k ↦ false
        | Node.call e ps k ↦ false
        | Node.fork l r ↦ false
        | Node.assign x k ↦ false
        | Node.remove x k ↦ is_tail_within looks k
        | Node.where' x l r ↦ false
        | Node.choke ↦ false
        | Node.return ↦ true
        | Node.publish ↦ false
        | Node.unknown ↦ false
      ]

  -- as many nodes as there are
  unfoldable pub is_tail : (node : ℕ) → Bool
  is_tail n = is_tail_within (length d.nodes) n
