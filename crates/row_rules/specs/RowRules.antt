-- The rules that one token or one cell keeps. Assumes nothing: these are definitions.
use Rattle.std.specs.Prelude.{Bool, List}
use Rattle.job.specs.Test.{◌and◌}
use Rattle.job.specs.Node.{Dag}
use Rattle.model.specs.Machine.Limits.{paper}
use Rattle.model.specs.Machine.Rules.{token_in_range, cell_in_range, at_node, not_under_set}
use Rattle.model.specs.Machine.Rules.{waits_at_unset, due_in_range, chain_ends}
use Rattle.model.specs.declared.token.Token.{Token}
use Rattle.model.specs.declared.cell.Cell.{Cell}
use Rattle.model.specs.declared.record.Machine.{Machine}

-- in range, as its node asks, under no set cell, at an unset one if it waits, and later than the clock if it is due
abbrev pub token_rule : Dag → Machine → Token → Bool
token_rule d m t =
    token_in_range paper d m.calls t
    and at_node d m.tokens t
    and not_under_set m.cells t
    and waits_at_unset m.cells t.state
    and due_in_range m.clock t.state

-- in range, with a parent chain that ends
abbrev pub cell_rule : List Cell → Cell → Bool
cell_rule cs c = cell_in_range paper c and chain_ends cs 32 c.parent
