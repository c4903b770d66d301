-- The definitions of a program, as one reading, and those of them that come before the first refusal. Assumes nothing: these are
-- definitions.
use Rattle.std.specs.Prelude.{◌≡◌, List, [], ◌∷◌, map, ℕ, zero, suc, ◌+◌}
use Rattle.std.proofs.lemmas.List.Edits.{sets}
use Rattle.job.specs.Syntax.{Definition, formals_of}
use Rattle.job.specs.Entry.{Entry}
use Rattle.job.specs.Read.{Got, Read, got, refused, ◌>>=◌, gives, read_definition}
use Rattle.job.specs.Construct.{node_count}
use Rattle.entries.specs.Checked.{Checked, checked}

-- so many definitions, from entry e on
unfoldable pub read_definition_list : ℕ → ℕ → List Entry → Read (List Definition)
read_definition_list zero e es = gives [] e es
read_definition_list (suc n) e es = do
  d ← read_definition e es
  ds ← read_definition_list n d.next d.rest
  gives (d.value ∷ ds.value) ds.next ds.rest

-- the nodes of a definition's body, and its sink
abbrev pub definition_nodes : Definition → ℕ
definition_nodes d = 1 + node_count d.body

unfoldable pub definition_list_nodes : List Definition → ℕ
definition_list_nodes [] = 0
definition_list_nodes (d ∷ ds) = definition_nodes d + definition_list_nodes ds

abbrev pub checked_definition : Read Definition → Checked
checked_definition = checked definition_nodes

abbrev pub checked_definition_list : Read (List Definition) → Checked
checked_definition_list = checked definition_list_nodes

-- the nodes of each definition
abbrev pub definition_sizes : List Definition → List ℕ
definition_sizes ds = map definition_nodes ds

-- of so many definitions from entry e on, those that are read before the first refusal
unfoldable pub and_then : Read Definition → (Got Definition → List Definition) → List Definition
and_then (got d) others = d.value ∷ others d
and_then (refused n e) others = []

unfoldable pub definitions_found : ℕ → ℕ → List Entry → List Definition
definitions_found zero e es = []
definitions_found (suc n) e es = and_then (read_definition e es) (λ d. definitions_found n d.next d.rest)

-- the answer for so many definitions, and the counts of formals and the sizes of those that are found, stored at the front of their arrays
pub record DefinitionsHold (count : ℕ) (es : List Entry) (a : Checked) (formals₀ formals sizes₀ sizes : List ℕ) : Type 0 where
  pub answers : a ≡ checked_definition_list (read_definition_list count 0 es)
  pub counts : formals ≡ sets formals₀ 0 (formals_of (definitions_found count 0 es))
  pub counted : sizes ≡ sets sizes₀ 0 (definition_sizes (definitions_found count 0 es))
