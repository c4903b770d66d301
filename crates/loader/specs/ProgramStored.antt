-- What is asked of the parts of an accepted program, and what compiling them gives and stores. (A refused reading is not asked about.)
-- Assumes nothing: these are definitions.
use Rattle.std.specs.Prelude.{◌≡◌, List, [], ◌∷◌, ◌++◌, ℕ, ◌+◌, ◌<◌, length, take}
use Rattle.std.proofs.lemmas.List.Edits.{sets}
use Rattle.job.specs.Syntax.{Definition, Program}
use Rattle.job.specs.Node.{Node, Body}
use Rattle.job.specs.Construct.{node_count, root, nodes_of, construct}
use Rattle.job.specs.Words.{head_words, rows_of_nodes, body_words, written}
use Rattle.job.specs.Read.{Got, Read, got, refused}
use Rattle.reader.specs.Definition.{definition_nodes, definition_list_nodes, definition_sizes}
use Rattle.compiler.specs.Body.{sink_of}
use Rattle.compiler.specs.declared.body.SinkKind.TheVariants as sinks
use Rattle.loader.specs.declared.program.Place.{Place}

-- these words stand at the front of the array
abbrev pub Leads : (words array : List ℕ) → Type 0
Leads words array = take (length words) array ≡ words

-- what is asked of the definitions: they were read, their nodes leave a place of the dag's 1,022, and their sizes are known
pub data DefinitionsRead : Read (List Definition) → (sizes : List ℕ) → Type 0 where
  definitions : {g : Got (List Definition)} {sizes : List ℕ} → definition_list_nodes g.value < 1022
      → Leads (definition_sizes g.value) sizes
      → DefinitionsRead (got g) sizes

-- what is asked of the program: it was read, and its number of nodes and the sizes of its definitions are known
pub data Accepts : Read Program → (nodes : ℕ) → (sizes : List ℕ) → Type 0 where
  accepts : {p : Got Program} {nodes : ℕ} {sizes : List ℕ} → nodes ≡ length (construct p.value).nodes
      → Leads (definition_sizes p.value.definitions) sizes → Accepts (got p) nodes sizes

-- the nodes of definitions, numbered from n, each body's toward its sink behind them; and where the bodies begin
unfoldable pub nodes_before : ℕ → List Definition → List Node
nodes_before n [] = []
nodes_before n (d ∷ ds) = (nodes_of d.body n (n + node_count d.body) ++ (sink_of sinks.Return ∷ [])) ++ nodes_before (n + definition_nodes d) ds

unfoldable pub bodies_before : ℕ → List Definition → List Body
bodies_before n [] = []
bodies_before n (d ∷ ds) = record { root = root d.body n; formals = d.formals } ∷ bodies_before (n + definition_nodes d) ds

-- behind the definitions
abbrev pub place_behind : Read (List Definition) → Place
place_behind (got g) = record { at = g.next; node = definition_list_nodes g.value }
place_behind (refused i e) = record { at = e; node = 0 }

-- the array with the words of definitions in its head, and the rows of their nodes
unfoldable pub words_before : List Definition → List ℕ → List ℕ
words_before ds ws = sets (sets ws 3 (body_words (bodies_before 0 ds))) head_words (rows_of_nodes (nodes_before 0 ds))

abbrev pub stored_definitions : Read (List Definition) → List ℕ → List ℕ
stored_definitions (got g) ws = words_before g.value ws
stored_definitions (refused i e) ws = ws

-- the array with the program's dag
abbrev pub stored_program : Read Program → List ℕ → List ℕ
stored_program (got p) ws = written (construct p.value) ws
stored_program (refused i e) ws = ws
