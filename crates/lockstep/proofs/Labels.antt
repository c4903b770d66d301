-- What is known of each node of a dag before anything runs, and how nodes that follow one another agree. The abstract machine's program of
-- a dag is read off its nodes by their scopes. Assumes nothing: these are definitions.
use mathlib.Core.Path.{◌≡◌}
use mathlib.Core.Bool.{Bool, true, false}
use mathlib.Core.List.{List, [], ◌∷◌, map, Memᴰ}
use Prim.Native.Nat.{ℕ, suc, ◌<◌, ◌≤◌}
use lib.ListN.{length}
use Rattle.job.specs.Test.{All}
use Rattle.job.specs.Syntax.{Param, levels}
use Rattle.job.specs.Node.{Node, Dag, node_at, body_at}
use Rattle.job.specs.Tail.{is_tail}
use Rattle.job.specs.WellFormed.{GoodParam}
use Rattle.calculus.specs.Meaning.{param_meant}
use Rattle.calculus.specs.Expression.{Exp}
use Rattle.simulation.proofs.AbstractMachine as Abstract

-- the variables in scope, the innermost binder's first; in how many right sides of prunes of its own body a node stands;
-- whether a token there has a value; whether it is a definition's
pub record Labels : Type 0 where
  pub scope : ℕ → List ℕ
  pub nest : ℕ → ℕ
  pub value : ℕ → Bool
  pub body : ℕ → Bool

-- a node as the abstract machine has it: variables by their position in the scope
unfoldable pub node_meant : List ℕ → Node → Abstract.Node
node_meant scope Node.stop = Abstract.Node.stop
node_meant scope (Node.site s ps k) = Abstract.Node.site s (map (param_meant scope) ps) k
node_meant scope (Node.call d ps k) = Abstract.Node.call d (map (param_meant scope) ps) k
node_meant scope (Node.fork l r) = Abstract.Node.fork l r
node_meant scope (Node.assign x k) = Abstract.Node.assign k
node_meant scope (Node.remove x k) = Abstract.Node.remove k
node_meant scope (Node.where' x l r) = Abstract.Node.where' l r
node_meant scope Node.choke = Abstract.Node.choke
node_meant scope Node.return = Abstract.Node.return
node_meant scope Node.publish = Abstract.Node.publish
node_meant scope Node.unknown = Abstract.Node.stop

abbrev pub program_of : Dag → Labels → (ℕ → Exp) → Abstract.Program
program_of d M bodies =
    record {
      node = λ n. node_meant (M.scope n) (node_at d n);
      tail = is_tail d;
      entry = λ e. (body_at d e).root;
      count = length d.bodies;
      body = bodies;
    }

abbrev pub Fresh : ℕ → List ℕ → Type 0
Fresh x scope = Memᴰ x scope → ⊥

module _ (d : Dag) (M : Labels) where
  -- node k follows node n, with this scope and under so many cells of its body
  pub record Follows (n k : ℕ) (within : List ℕ) (under : ℕ) : Type 0 where
    pub scope : M.scope k ≡ within
    pub nest : M.nest k ≡ under
    pub body : M.body k ≡ M.body n

  -- the body that a definition call enters
  pub record Enters (e : ℕ) (ps : List Param) : Type 0 where
    pub there : e < length d.bodies
    pub few : length ps ≤ 4
    pub scope : M.scope (body_at d e).root ≡ levels (length ps)
    pub nest : M.nest (body_at d e).root ≡ 0
    pub body : M.body (body_at d e).root ≡ true
    pub value : M.value (body_at d e).root ≡ false

  -- what an instruction at node n asks of the labels
  pub data FlowAt (n : ℕ) : Node → Type 0 where
    stop : FlowAt n Node.stop
    site : {s : ℕ} {ps : List Param} {k : ℕ}
        → M.value n ≡ false → All (GoodParam (M.scope n)) ps → Follows n k (M.scope n) (M.nest n) → FlowAt n (Node.site s ps k)
    call : {e : ℕ} {ps : List Param} {k : ℕ}
        → M.value n ≡ false → All (GoodParam (M.scope n)) ps → Follows n k (M.scope n) (M.nest n) → Enters e ps
        → FlowAt n (Node.call e ps k)
    fork : {l r : ℕ}
        → M.value l ≡ false → M.value r ≡ false → Follows n l (M.scope n) (M.nest n) → Follows n r (M.scope n) (M.nest n)
        → FlowAt n (Node.fork l r)
    assign : {x k : ℕ}
        → M.value n ≡ true → x < 8 → Fresh x (M.scope n) → Follows n k (x ∷ M.scope n) (M.nest n) → FlowAt n (Node.assign x k)
    remove : {x k : ℕ} {scope : List ℕ}
        → M.value n ≡ true → x < 8 → M.scope n ≡ x ∷ scope → Fresh x scope → Follows n k scope (M.nest n) → FlowAt n (Node.remove x k)
    where' : {x l r : ℕ}
        → M.value l ≡ false → M.value r ≡ false → x < 8 → Fresh x (M.scope n)
        → Follows n l (x ∷ M.scope n) (M.nest n) → Follows n r (M.scope n) (suc (M.nest n)) → FlowAt n (Node.where' x l r)
    choke : M.value n ≡ true → 1 ≤ M.nest n → FlowAt n Node.choke
    return : M.value n ≡ true → M.nest n ≡ 0 → M.body n ≡ true → FlowAt n Node.return
    publish : M.value n ≡ true → FlowAt n Node.publish

  pub record Flow : Type 0 where
    pub at : (n : ℕ) → n < length d.nodes → FlowAt n (node_at d n)
    pub goal-scope : M.scope d.goal ≡ []
    pub goal-nest : M.nest d.goal ≡ 0
    pub goal-body : M.body d.goal ≡ false
    pub goal-value : M.value d.goal ≡ false
