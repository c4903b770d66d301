-- Nodes in tail position: removes alone lead from them to return in the abstract machine's program too, and their labels are those of
-- return, since a remove changes the scope and nothing else. By recursion on the tail. Assumes nothing.
use mathlib.Core.Path.{◌≡◌, refl, sym, ◌∙◌, ap, subst}
use mathlib.Core.Bool.{true}
use mathlib.Core.List.{List}
use Prim.Native.Nat.{ℕ, ◌<◌, ◌≤◌}
use native.Mathlib.Omega.{arith}
use native.Mathlib.Decide.{dec_lt}
use lib.ListN.{length, get_or-eq_default}
use Rattle.job.specs.Node.{Node, Dag, node_at}
use Rattle.job.specs.Tail as Job
use Rattle.job.specs.Tail.{is_tail}
use Rattle.job.proofs.Test.{never}
use Rattle.job.proofs.Tail.{tail-exactly}
use Rattle.calculus.specs.Expression.{Exp}
use Rattle.simulation.proofs.AbstractMachine as Abstract
use Rattle.simulation.proofs.Relation as Simulation
use Rattle.lockstep.proofs.Labels.{Labels, node_meant, program_of, FlowAt, Flow}

module _ (d : Dag) where
  -- a node that is known is one of the dag's
  known-inside : {n : ℕ} {N : Node} → node_at d n ≡ N → (N ≡ Node.unknown → ⊥) → n < length d.nodes
  unfolding node_at
  known-inside {n} e not = go (dec_lt n (length d.nodes))
    where
      go : Dec (n < length d.nodes) → n < length d.nodes
      go (yes l) = l
      go (no l) = absurd (not (sym e ∙ get_or-eq_default d.nodes Node.unknown (let z : length d.nodes ≤ n = omega arith in z)))

module _ (d : Dag) (M : Labels) (bodies : ℕ → Exp) where
  tail-meant : {n : ℕ} → Job.Tail d n → Simulation.Tail (program_of d M bodies) n
  unfolding node_meant
  tail-meant {n} (Job.return e) = Simulation.return (ap (node_meant (M.scope n)) e)
  tail-meant {n} (Job.remove e t) = Simulation.remove (ap (node_meant (M.scope n)) e) (tail-meant t)

  pub tails : (n : ℕ) → is_tail d n ≡ true → Simulation.Tail (program_of d M bodies) n
  tails n t = tail-meant ((tail-exactly d n).0 t)

-- nodes whose meaning is return, or remove
returns-meant : (scope : List ℕ) (N : Node) → node_meant scope N ≡ Abstract.Node.return → N ≡ Node.return
unfolding node_meant
returns-meant scope Node.return e = refl
returns-meant scope Node.stop e = never cc
returns-meant scope (Node.site s ps k) e = never cc
returns-meant scope (Node.call f ps k) e = never cc
returns-meant scope (Node.fork l r) e = never cc
returns-meant scope (Node.assign x k) e = never cc
returns-meant scope (Node.remove x k) e = never cc
returns-meant scope (Node.where' x l r) e = never cc
returns-meant scope Node.choke e = never cc
returns-meant scope Node.publish e = never cc
returns-meant scope Node.unknown e = never cc

removes-meant : (scope : List ℕ) (N : Node) (k : ℕ) → node_meant scope N ≡ Abstract.Node.remove k → (x : ℕ) × (N ≡ Node.remove x k)
unfolding node_meant
removes-meant scope (Node.remove x j) k e = (x, ap (Node.remove x) (let z : j ≡ k = cc in z))
removes-meant scope Node.return k e = never cc
removes-meant scope Node.stop k e = never cc
removes-meant scope (Node.site s ps j) k e = never cc
removes-meant scope (Node.call f ps j) k e = never cc
removes-meant scope (Node.fork l r) k e = never cc
removes-meant scope (Node.assign x j) k e = never cc
removes-meant scope (Node.where' x l r) k e = never cc
removes-meant scope Node.choke k e = never cc
removes-meant scope Node.publish k e = never cc
removes-meant scope Node.unknown k e = never cc

module _ (d : Dag) (M : Labels) (bodies : ℕ → Exp) where
  tail_from : {n : ℕ} → Simulation.Tail (program_of d M bodies) n → Job.Tail d n
  tail_from {n} (Simulation.return e) = Job.return (returns-meant (M.scope n) (node_at d n) e)
  tail_from {n} (Simulation.remove {k = k} e t) = Job.remove (removes-meant (M.scope n) (node_at d n) k e).1 (tail_from t)

  pub tails-all : (n : ℕ) → Simulation.Tail (program_of d M bodies) n → is_tail d n ≡ true
  tails-all n t = (tail-exactly d n).1 (tail_from t)

-- a node in tail position stands in no right side of a prune of its own body, and in a body
pub record TailLabels (M : Labels) (n : ℕ) : Type 0 where
  pub nest : M.nest n ≡ 0
  pub body : M.body n ≡ true

module _ (d : Dag) (M : Labels) (flow : Flow d M) where
  return-labels : {n : ℕ} → FlowAt d M n Node.return → TailLabels M n
  return-labels (FlowAt.return v z b) = record { nest = z; body = b }

  remove-labels : {n x k : ℕ} → FlowAt d M n (Node.remove x k) → TailLabels M k → TailLabels M n
  remove-labels (FlowAt.remove v l s f g) t = record { nest = sym g.nest ∙ t.nest; body = sym g.body ∙ t.body }

  labelled : {n : ℕ} → Job.Tail d n → TailLabels M n
  labelled {n} (Job.return e) =
      return-labels (subst (FlowAt d M n) e (flow.at n (known-inside d e (λ u. never cc))))
  labelled {n} (Job.remove e t) =
      remove-labels (subst (FlowAt d M n) e (flow.at n (known-inside d e (λ u. never cc)))) (labelled t)

  pub tail-labels : (n : ℕ) → is_tail d n ≡ true → TailLabels M n
  tail-labels n t = labelled ((tail-exactly d n).0 t)
