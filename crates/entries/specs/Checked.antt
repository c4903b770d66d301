-- What the code answers for what the definitions read. Assumes nothing: these are definitions.
use Rattle.std.specs.Prelude.{List, ℕ, length, Result, Ok, Err}
use Rattle.job.specs.Syntax.{Param, Exp, Program}
use Rattle.job.specs.Read.{Got, Read, got, refused}
use Rattle.job.specs.Construct.{node_count, construct}
use Rattle.entries.specs.Refusal.{refused_as}
use Rattle.entries.specs.declared.checked.Extent.{Extent}
use Rattle.entries.specs.declared.refusal.Refused.{Refused}

-- what the code answers for a reading: so much of what was read; or the refusal
unfoldable pub answered : {A B : Type 0} → (Got A → B) → Read A → Result B Refused
answered f (got g) = Ok (f g)
answered f (refused n e) = Err (refused_as n e)

-- the first entry behind what was read, and its number of nodes
abbrev pub Checked : Type 0
Checked = Result Extent Refused

abbrev pub checked : {A : Type 0} → (A → ℕ) → Read A → Checked
checked nodes = answered (λ g. record { next = g.next; nodes = nodes g.value })

-- the first entry behind the parameters, which make no node of their own
abbrev pub checked_param_list : Read (List Param) → Result ℕ Refused
checked_param_list = answered (λ g. g.next)

abbrev pub checked_exp : Read Exp → Checked
checked_exp = checked node_count

-- a test gives nothing
abbrev pub checked_test : Read (Unit {0}) → Result (Unit {0}) Refused
checked_test = answered (λ g. tt)

-- the nodes of the dag, sinks included
abbrev pub checked_program : Read Program → Checked
checked_program = checked (λ p. length (construct p).nodes)
