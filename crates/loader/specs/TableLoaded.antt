-- What a host gets for the reader's answer: number and entry of a refusal, or the number of nodes; and the words of its array.
-- Assumes nothing: these are definitions.
use Rattle.std.specs.Prelude.{List, ℕ, length, Result, Ok, Err}
use Rattle.job.specs.Read.{Answer, accepted, declined}
use Rattle.job.specs.Construct.{construct}
use Rattle.job.specs.Words.{written}
use Rattle.entries.specs.Refusal.{refused_as}
use Rattle.entries.specs.declared.refusal.Refused.{Refused}

unfoldable pub loaded : Answer → Result ℕ Refused
loaded (accepted p) = Ok (length (construct p).nodes)
loaded (declined n e) = Err (refused_as n e)

-- "A refused table yields neither": the words as they were
unfoldable pub loaded_words : Answer → List ℕ → List ℕ
loaded_words (accepted p) ws = written (construct p) ws
loaded_words (declined n e) ws = ws
