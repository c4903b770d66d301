-- The words that a table's dag is written as stand for the dag: the start on them is accepted, and whatever is called from there has the
-- outcomes of the run of which demand 3 speaks, since the words decode to the construction. Assumes nothing.
use mathlib.Core.Path.{◌≡◌, ◌∙◌, ap}
use mathlib.Core.List.{List}
use Prim.Native.Nat.{ℕ}
use lib.ListN.{length}
use Rattle.job.specs.Syntax.{Program}
use Rattle.job.specs.Read.{read_table, accepted}
use Rattle.job.specs.Node.{Dag}
use Rattle.job.specs.Construct.{construct}
use Rattle.job.specs.Words.{array_words, dag_of, written}
use Rattle.model.specs.Machine.Limits.{paper}
use Rattle.model.specs.Machine.Start.{start}
use Rattle.model.specs.Run.Call.{Call, runner, outcome_of, machine_after, events_from, started}
use Rattle.model.specs.declared.record.Machine.{Machine}
use Rattle.model.specs.declared.reply.Reply.TheVariants as replies
use Rattle.model.specs.declared.reply.Outcome.{Outcome}
use Rattle.job.proofs.Accepted.{accepted-well-formed}
use Rattle.model.proofs.Machine.StartAccepted.{start-accepts, words-construct}

module _ (table : List ℕ) (p : Program) (read : read_table table ≡ accepted p) (words : List ℕ) (sized : length words ≡ array_words) where
  -- the array after the table was loaded into it
  abbrev loaded : List ℕ
  loaded = written (construct p) words

  same : dag_of loaded ≡ construct p
  same = words-construct p words (accepted-well-formed table p read) sized

  pub loaded-starts : start paper (dag_of loaded) ≡ start paper (construct p)
  loaded-starts = ap (start paper) same

  pub loaded-accepts : (start paper (dag_of loaded)).reply ≡ replies.Done
  loaded-accepts = ap (λ (o : Outcome). o.reply) loaded-starts ∙ start-accepts paper p (accepted-well-formed table p read)

  pub loaded-calls : (m : Machine) (c : Call) → outcome_of runner paper (dag_of loaded) m c ≡ outcome_of runner paper (construct p) m c
  loaded-calls m c = ap (λ (d : Dag). outcome_of runner paper d m c) same

  pub loaded-runs : (calls : List Call)
      → machine_after runner paper (dag_of loaded) (started runner paper (dag_of loaded)) calls
      ≡ machine_after runner paper (construct p) (started runner paper (construct p)) calls
  loaded-runs calls = ap (λ (d : Dag). machine_after runner paper d (started runner paper d) calls) same

  pub loaded-events : (calls : List Call)
      → events_from runner paper (dag_of loaded) (started runner paper (dag_of loaded)) calls
      ≡ events_from runner paper (construct p) (started runner paper (construct p)) calls
  loaded-events calls = ap (λ (d : Dag). events_from runner paper d (started runner paper d) calls) same
