-- Document 02, request 2, "A weekly loop that never ends": house order of E() = E(). Assumes nothing: these are definitions.
use Rattle.std.specs.Prelude.{◌≡◌, true, List, ℕ, suc, replicate}
use Rattle.job.specs.Node.{Dag}
use Rattle.job.specs.Construct.{construct}
use Rattle.model.specs.Machine.Limits.{Limits}
use Rattle.model.specs.Machine.InUse.{tokens_used, marked}
use Rattle.model.specs.Run.Call.{Call, step, runner, started, machine_after, none_refused}
use Rattle.model.specs.declared.record.Machine.{Machine}
use Rattle.marked_runs.specs.Marked.{looping}

abbrev pub dag : Dag
dag = construct looping

-- so many steps in house order
abbrev pub house : ℕ → List Call
house n = replicate n (step 0)

module _ (lim : Limits) where
  -- the record after so many
  abbrev pub after : ℕ → Machine
  after n = machine_after runner lim dag (started runner lim dag) (house n)

  -- However many steps are made, none is refused. The first keeps a frame, "A goal's own calls still keep one"; it leaves two tokens in
  -- use, and every later step, where "the token itself becomes the callee", leaves the same record
  pub record Endless : Type 0 where
    pub none-refused : (n : ℕ) → none_refused runner lim dag (started runner lim dag) (house n) ≡ true
    pub same-record : (n : ℕ) → after (suc n) ≡ after 1
    pub two-tokens : (n : ℕ) → marked (tokens_used (after (suc n))) ≡ 2
