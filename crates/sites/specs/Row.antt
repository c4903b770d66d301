-- A node's row in the dag's array: the twelve words from an index on. Assumes nothing: these are definitions.
use Rattle.std.specs.Prelude.{◌≡◌, true, List, [], ◌∷◌, ℕ, ◌+◌, ◌*◌, ◌<◌, ◌≤◌, length, get_or, take, drop, Some, None}
use Rattle.job.specs.Test.{for_all}
use Rattle.job.specs.Node.{Node, dag_holds, param_holds}
use Rattle.job.specs.Syntax.{Param}
use Rattle.model.specs.Machine.Step.{formals_bound}
use Rattle.model.specs.declared.token.Slot.{Slot}
use Rattle.model.specs.Machine.Held.{Place}
use Rattle.model.specs.declared.token.State.TheVariants as states
use Rattle.model.specs.declared.token.Token.{Token}
use Rattle.job.specs.Words.{dag_of, head_words, params_from}

-- where the row of a node begins
abbrev pub row_of : (node : ℕ) → ℕ
row_of i = head_words + 12 * i

abbrev pub row_at : List ℕ → ℕ → List ℕ
row_at ws at = take 12 (drop at ws)

unfoldable pub params_at : List ℕ → (at : ℕ) → List Param
params_at ws at = params_from (get_or ws (at + 3) 0) (drop 4 (row_at ws at))

-- the row of a node of a dag that keeps the rules begins at the word `at`, and the node's kind is k
pub record NodeRow (ws : List ℕ) (at k : ℕ) : Type 0 where
  pub size : length ws ≡ 12331
  pub dag : dag_holds (dag_of ws) ≡ true
  pub node : ℕ
  pub inside : node < length (dag_of ws).nodes
  pub row : at ≡ row_of node
  pub kind : get_or ws at 0 ≡ k

-- the row lies within the array, and its parameters keep the index rules
pub record ParamsHold (ws : List ℕ) (at : ℕ) : Type 0 where
  pub size : length ws ≡ 12331
  pub inside : at + 12 ≤ 12331
  pub few : get_or ws (at + 3) 0 ≤ 4
  pub hold : for_all param_holds (params_at ws at) ≡ true

-- the nodes that have some numbers, by kind
abbrev pub nodes_by_kind : (a b c : ℕ) → List Param → List Node
nodes_by_kind a b c ps =
    Node.stop
    ∷ Node.site a ps b
    ∷ Node.call a ps b
    ∷ Node.fork a b
    ∷ Node.assign a b
    ∷ Node.remove a b
    ∷ Node.where' c a b
    ∷ Node.choke
    ∷ Node.return
    ∷ Node.publish
    ∷ []

-- a node by its kind and numbers
abbrev pub node_of_kind : (a b c : ℕ) → List Param → (kind : ℕ) → Node
node_of_kind a b c ps kind = get_or (nodes_by_kind a b c ps) kind Node.unknown

-- the node whose row begins at a word, by its kind
abbrev pub node_in : List ℕ → (at : ℕ) → (kind : ℕ) → Node
node_in ws at kind = node_of_kind (get_or ws (at + 1) 0) (get_or ws (at + 2) 0) (get_or ws (at + 3) 0) (params_at ws at) kind

-- the callee of a definition call by the token at p, in the cell q
abbrev pub callee : (p : ℕ) → Place → List Slot → (root : ℕ) → List Param → Token
callee p q bs root ps =
    record {
      node = root;
      binds = formals_bound bs ps;
      value = None;
      caller = Some p;
      cell = q;
      state = states.Ready;
    }
