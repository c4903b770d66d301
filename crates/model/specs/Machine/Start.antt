-- The start. Assumes nothing: these are definitions.
use Rattle.std.specs.Prelude.{true, false, [], ℕ, ◌-◌, set, replicate, None}
use Rattle.job.specs.Node.{Dag, dag_holds}
use Rattle.model.specs.Machine.Limits.{Limits}
use Rattle.model.specs.Machine.Blank.{unbound, blank_token, blank_cell, blank_machine}
use Rattle.model.specs.Machine.Reply.{report_values, refuses, outcome}
use Rattle.model.specs.declared.token.State.TheVariants as states
use Rattle.model.specs.declared.token.Token.{Token}
use Rattle.model.specs.declared.record.Machine.{Machine}
use Rattle.model.specs.declared.reply.Reply.TheVariants as replies
use Rattle.model.specs.declared.reply.Outcome.{Outcome}

-- "The starting token has nothing bound, no value, no caller and no cell but the root"
abbrev pub start_token : ℕ → Token
start_token goal =
    record {
      node = goal;
      binds = unbound;
      value = None;
      caller = None;
      cell = None;
      state = states.Ready;
    }

-- "the starting token is at 0, the first cell takes 0": the last cell place given is the last one there is (docs/DECISIONS.md, "Places");
-- document 02, request 1: "The machine gains a clock from 0"
abbrev pub start_machine : Limits → ℕ → Machine
start_machine lim goal =
    record {
      tokens = set (replicate lim.token_places blank_token) 0 (start_token goal);
      cells = replicate lim.cell_places blank_cell;
      queue = replicate lim.token_places 0;
      queued = 1;
      waits = replicate lim.token_places 0;
      waiting = 0;
      calls = 0;
      lasttoken = 0;
      lastcell = lim.cell_places - 1;
      timers = replicate lim.token_places 0;
      timed = 0;
      clock = 0;
    }

-- "The start tests 14": the dag's rules. A refused start hands back the blank record (docs/DECISIONS.md, "The start", "A refused start")
unfoldable pub start : Limits → Dag → Outcome
start lim d =
    elim (dag_holds d) [
      | true ↦ record { reply = replies.Done; values = report_values []; machine = start_machine lim d.goal }
      | false ↦ outcome (blank_machine lim) (refuses 14)
    ]
