-- What compiling an accepted expression gives and stores. Assumes nothing: these are definitions.
use Rattle.std.specs.Prelude.{List, ℕ, ◌+◌, ◌*◌, ◌<◌, ◌≤◌, length, drop}
use Rattle.std.proofs.lemmas.List.Edits.{sets}
use Rattle.job.specs.Entry.{entries}
use Rattle.job.specs.Syntax.{Exp}
use Rattle.job.specs.Construct.{node_count, root, nodes_of}
use Rattle.job.specs.Words.{head_words, rows_of_nodes}
use Rattle.job.specs.Read.{Got, Read, got, refused, read_exp}
use Rattle.entries.specs.Scope.{Means}
use Rattle.entries.specs.declared.scope.Scope.{Scope}
use Rattle.compiler.specs.declared.expression.Compiled.{Compiled}

-- the reading of the entries from an index on
abbrev pub reading : (left : ℕ) → (ks os : List ℕ) → (scope : List ℕ) → (at : ℕ) → Read Exp
reading left ks os scope at = read_exp left scope at (drop at (entries ks os))

-- accepted, and its nodes from n on fit the dag's 1,022 places
pub data NodesFit : Read Exp → ℕ → Type 0 where
  room : {g : Got Exp} {n : ℕ} → n + node_count g.value ≤ 1022 → NodesFit (got g) n

-- what is asked of an expression's entries, where these variables are in scope: `fits` implies the three before it
pub record Accepted (left : ℕ) (ks os : List ℕ) (s : Scope) (at n : ℕ) (scope : List ℕ) : Type 0 where
  pub means : Means s scope
  pub deep : 0 < left
  pub here : at < length ks
  pub low : n < 1022
  pub fits : NodesFit (reading left ks os scope at) n

-- it holds of a list; what holds of the reading with every list of which it holds
abbrev pub AcceptedInSome : (left : ℕ) (ks os : List ℕ) (s : Scope) (at n : ℕ) → Type 0
AcceptedInSome left ks os s at n = (scope : List ℕ) × Accepted left ks os s at n scope

abbrev pub WhereAccepted : (left : ℕ) (ks os : List ℕ) (s : Scope) (at n : ℕ) → (Read Exp → Type 0) → Type 0
WhereAccepted left ks os s at n P = (scope : List ℕ) → Accepted left ks os s at n scope → P (reading left ks os scope at)

-- the entry and the node behind the expression, and its root. (A refused reading is not asked about.)
abbrev pub compiled : Read Exp → (n : ℕ) → Compiled
compiled (got g) n = record { at = g.next; node = n + node_count g.value; root = root g.value n }
compiled (refused i e) n = record { at = e; node = n; root = n }

-- the dag's words with the rows of the expression's nodes, numbered from n toward k
abbrev pub stored : Read Exp → (n k : ℕ) → List ℕ → List ℕ
stored (got g) n k d = sets d (head_words + 12 * n) (rows_of_nodes (nodes_of g.value n k))
stored (refused i e) n k d = d
