-- The parts of an input. Assumes nothing: these are definitions.
use Rattle.std.specs.Prelude.{true, false, List, ℕ, length, take, leb}
use Rattle.job.specs.Entry.{table_length}
use Rattle.job.specs.Read.{read_table}
use Rattle.loader.specs.TableLoaded.{loaded_words}

-- "the first 4 + 5N bytes, or all if there are fewer"
unfoldable pub table_end : List ℕ → ℕ
table_end input = elim (leb (table_length input) (length input)) [ true ↦ table_length input | false ↦ length input ]

-- the words that the dag's table leaves: an input that is too long is not read
unfoldable pub dag_after : (input dag : List ℕ) → List ℕ
dag_after input dag =
    elim (leb (length input) 65536) [ true ↦ loaded_words (read_table (take (table_length input) input)) dag | false ↦ dag ]
