-- An accepted clock move wakes those now due, by due time, then by order of call, each once, and nobody whose time has not come: the record
-- that it leaves is the one of its definition, since blanking changes nothing. An accepted choke ends every token within its cell, one that
-- is due later like any other, and no clock move wakes it then. In every record of a run no two orders name the same token. Assumes
-- nothing.
use mathlib.Core.Path.{◌≡◌, sym, ◌∙◌, ap, subst}
use mathlib.Core.Logic.{◌⊎◌, inl, inr}
use mathlib.Core.Bool.{true, false}
use mathlib.Core.List.{List}
use Prim.Native.Nat.{ℕ}
use lib.ListN.{get_or}
use Rattle.std.specs.Prelude.{Some}
use Rattle.job.specs.Test.{without}
use Rattle.job.specs.Syntax.{Program}
use Rattle.job.specs.Read.{accepted, read_table}
use Rattle.job.specs.Node.{Node, Dag, node_at}
use Rattle.job.specs.Construct.{construct}
use Rattle.model.specs.Machine.Limits.{Limits}
use Rattle.model.specs.Machine.Blank.{token_at}
use Rattle.model.specs.Machine.Active.{within}
use Rattle.model.specs.Machine.Reply as Reply
use Rattle.model.specs.Machine.Reply.{moves, outcome, is_refused}
use Rattle.model.specs.Machine.Update.{with_orders, queue_of, waits_of}
use Rattle.model.specs.Machine.Step.{after_choke, choke_at, act, takes, step}
use Rattle.model.specs.Machine.Clock.{after_advance, advance}
use Rattle.model.specs.Machine.WakingOrder.{WakesInOrder, Gone, OrdersApart}
use Rattle.model.specs.Run.Call.{Call, runner, outcome_of, started, machine_after}
use Rattle.model.specs.declared.token.Token.{Token}
use Rattle.model.specs.declared.record.Machine.{Machine}
use Rattle.model.specs.declared.reply.Outcome.{Outcome}
use Rattle.job.proofs.Test.{holds-or-fails}
use Rattle.model.proofs.Machine.Rules.{each-rule-holds}
use Rattle.model.proofs.Machine.Refused.{step-accepted, advance-accepted}
use Rattle.model.proofs.Run.Passage.{refused-leaves}
use Rattle.model.proofs.Keeps.WakingOrder.{rules-apart, advanced-wakes, choke-gone, gone-swept, gone-advanced}
use Rattle.demand3.proofs.Carried.{advanced-carried}
use Rattle.demand3.proofs.Reached.{Roomy}
use Rattle.demand3.proofs.Never.{run-rules}

module _ (lim : Limits) (d : Dag) (m : Machine) where
  -- the record that an accepted clock move leaves
  pub advance-leaves : (time : ℕ) → is_refused (advance lim d m time).reply ≡ false → (advance lim d m time).machine ≡ after_advance m time
  unfolding outcome Reply.accepted
  advance-leaves time ok =
      let a = advance-accepted lim d m time ok in
      ap (λ (o : Outcome). o.machine) a.does ∙ (advanced-carried lim d m a.holds time).whole

  pub advance-wakes : (time : ℕ) → is_refused (advance lim d m time).reply ≡ false → WakesInOrder m time (advance lim d m time).machine
  advance-wakes time ok =
      let a = advance-accepted lim d m time ok in
      subst (WakesInOrder m time) (sym (advance-leaves time ok)) (advanced-wakes lim d m (each-rule-holds lim d m a.holds) time)

  -- a place that no order names is left alone by every clock move
  pub advance-leaves-gone : (time p : ℕ) → Gone m p → Gone (advance lim d m time).machine p
  unfolding outcome_of
  advance-leaves-gone time p gone = go (holds-or-fails (is_refused (advance lim d m time).reply))
    where
      go : (is_refused (advance lim d m time).reply ≡ true) ⊎ (is_refused (advance lim d m time).reply ≡ false)
          → Gone (advance lim d m time).machine p
      go (inl e) = subst (λ o. Gone o p) (sym (refused-leaves lim d m (Call.advance time) e)) gone
      go (inr e) = subst (λ o. Gone o p) (sym (advance-leaves time e)) (gone-advanced gone time)

  -- the token that the queue has at a place stands at choke, in the cell c
  module _ (place c : ℕ) (ok : is_refused (step lim d m place).reply ≡ false)
      (node : node_at d (token_at m.tokens (get_or m.queue place 0)).node ≡ Node.choke)
      (cell : (token_at m.tokens (get_or m.queue place 0)).cell ≡ Some c) where
    abbrev acting : Token
    acting = token_at m.tokens (get_or m.queue place 0)

    abbrev taken : Machine
    taken = with_orders (without place (queue_of m)) (waits_of m) m

    chokes : takes lim d m place ≡ moves (after_choke c acting.value taken)
    unfolding takes act choke_at
    chokes = ap (act lim d m taken (get_or m.queue place 0) acting) node ∙ ap (choke_at taken acting) cell

    pub choke-ends-within : (p : ℕ) → within m.cells c (token_at m.tokens p).cell ≡ true → Gone (step lim d m place).machine p
    unfolding outcome Reply.accepted with_orders
    choke-ends-within p inside =
        let a = step-accepted lim d m place ok in
        subst (λ (o : Outcome). Gone o.machine p) (sym (a.does ∙ ap (outcome m) chokes))
        (gone-swept (choke-gone c acting.value taken p inside))

-- every record of a run on an accepted table
pub run-orders-apart : (lim : Limits) → Roomy lim → (table : List ℕ) (p : Program) → read_table table ≡ accepted p → (calls : List Call)
    → OrdersApart (machine_after runner lim (construct p) (started runner lim (construct p)) calls)
run-orders-apart lim room table p read calls =
    rules-apart lim (construct p) _ (each-rule-holds lim (construct p) _ (run-rules lim room table p read calls))
