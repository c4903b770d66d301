-- What the test of a table answers, and what it keeps of the definitions. Assumes nothing: these are definitions.
use Rattle.std.specs.Prelude.{List, [], ℕ, length, Result, Ok, Err}
use Rattle.job.specs.Entry.{size_d, table_entries}
use Rattle.job.specs.Read.{Read, got, refused, read_sizes, Answer, accepted, declined}
use Rattle.job.specs.Construct.{construct}
use Rattle.reader.specs.Definition.{definition_sizes, definitions_found}
use Rattle.entries.specs.Refusal.{refused_as}
use Rattle.entries.specs.declared.refusal.Refused.{Refused}

-- the number of nodes of an accepted table's dag; or the refusal
unfoldable pub tested : Answer → Result ℕ Refused
tested (accepted p) = Ok (length (construct p).nodes)
tested (declined n e) = Err (refused_as n e)

-- the numbers of nodes of the definitions, sinks included, that are read before the first refusal
unfoldable pub where_sized : Read (Unit {0}) → List ℕ → List ℕ
where_sized (got u) ns = ns
where_sized (refused n e) ns = []

unfoldable pub sizes_kept : List ℕ → List ℕ
sizes_kept b = where_sized (read_sizes b) (definition_sizes (definitions_found (size_d b) 0 (table_entries b)))
