-- What compiling a body gives and stores: "a definition's body goes toward return, the goal toward publish", "a body's sink follows its
-- last entry". Assumes nothing: these are definitions.
use Rattle.std.specs.Prelude.{◌≡◌, List, [], ◌∷◌, ◌++◌, ℕ, suc, ◌+◌, ◌*◌, ◌<◌}
use Rattle.std.proofs.lemmas.List.Edits.{sets}
use Rattle.job.specs.Syntax.{Exp}
use Rattle.job.specs.Node.{Node}
use Rattle.job.specs.Construct.{node_count, root, nodes_of}
use Rattle.job.specs.Words.{head_words, rows_of_nodes}
use Rattle.job.specs.Read.{Got, Read, got, refused}
use Rattle.entries.specs.Scope.{Means}
use Rattle.entries.specs.declared.scope.Scope.{Scope}
use Rattle.compiler.specs.ExpressionCompiled.{reading}
use Rattle.compiler.specs.declared.body.SinkKind.{SinkKind}
use Rattle.compiler.specs.declared.body.SinkKind.TheVariants as sinks
use Rattle.compiler.specs.declared.expression.Compiled.{Compiled}

-- the sink of the goal, or of a definition
unfoldable pub sink_of : SinkKind → Node
sink_of sinks.Publish = Node.publish
sink_of sinks.Return = Node.return

-- accepted, and its nodes from n on end where the sink is
pub data Sunk : Read Exp → (n sink : ℕ) → Type 0 where
  sunk : {g : Got Exp} {n sink : ℕ} → sink ≡ n + node_count g.value → Sunk (got g) n sink

-- what is asked of a body's entries: its sink's number is known
pub record BodyAccepted (ks os : List ℕ) (s : Scope) (at n sink : ℕ) (scope : List ℕ) : Type 0 where
  pub means : Means s scope
  pub below : sink < 1022
  pub sinks : Sunk (reading 24 ks os scope at) n sink

-- it holds of a list; what holds of the reading with every list of which it holds
abbrev pub BodyAcceptedInSome : (ks os : List ℕ) (s : Scope) (at n sink : ℕ) → Type 0
BodyAcceptedInSome ks os s at n sink = (scope : List ℕ) × BodyAccepted ks os s at n sink scope

abbrev pub WhereBodyAccepted : (ks os : List ℕ) (s : Scope) (at n sink : ℕ) → (Read Exp → Type 0) → Type 0
WhereBodyAccepted ks os s at n sink P = (scope : List ℕ) → BodyAccepted ks os s at n sink scope → P (reading 24 ks os scope at)

-- the entry behind the body, the node behind its sink, and its root. (A refused reading is not asked about.)
abbrev pub compiled_with_sink : Read Exp → (n : ℕ) → Compiled
compiled_with_sink (got g) n = record { at = g.next; node = suc (n + node_count g.value); root = root g.value n }
compiled_with_sink (refused i e) n = record { at = e; node = n; root = n }

-- the dag's words with the rows of the body's nodes, numbered from n, and of its sink
abbrev pub stored_body : Read Exp → SinkKind → (n : ℕ) → List ℕ → List ℕ
stored_body (got g) sink n d =
    sets d (head_words + 12 * n) (rows_of_nodes (nodes_of g.value n (n + node_count g.value) ++ (sink_of sink ∷ [])))
stored_body (refused i e) sink n d = d
