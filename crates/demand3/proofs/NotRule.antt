-- A call on a record that keeps the index rules is not refused with 14: the instruction table refuses so only at no node, at return without
-- a frame and at choke without a cell, and the rules leave none of these. Assumes nothing.
use mathlib.Core.Path.{◌≡◌, refl, ap}
use mathlib.Core.Bool.{true, false}
use mathlib.Core.List.{List}
use Prim.Native.Nat.{ℕ, ◌<◌}
use lib.Dec.{eqb}
use lib.ListN.{get_or}
use Rattle.job.specs.Node.{Node, Dag, node_at, node_holds}
use Rattle.model.specs.Machine.Limits.{Limits}
use Rattle.model.specs.Machine.Blank.{blank_token, token_at, is_place}
use Rattle.model.specs.Machine.State.{is_blank_state, is_ready}
use Rattle.model.specs.Machine.Rules.{names_frame, node_rule, at_node, rules_hold}
use Rattle.model.specs.Machine.Reply.{number_of}
use Rattle.model.specs.Run.Call.{Call, runner, outcome_of}
use Rattle.model.specs.Run.Follow.{queued_token}
use Rattle.model.specs.declared.token.State.{State}
use Rattle.model.specs.declared.token.State.TheVariants as states
use Rattle.model.specs.declared.token.Token.{Token}
use Rattle.model.specs.declared.record.Machine.{Machine}
use Rattle.model.specs.declared.reply.Refusal.{Refusal}
use Rattle.model.specs.declared.reply.Refusal.TheVariants as refusals
use Rattle.model.specs.declared.reply.Reply.TheVariants as replies
use Rattle.job.proofs.Test.{clash, and_left, all-at}
use Rattle.job.proofs.DagRules.{node-rules}
use Rattle.model.proofs.Machine.Rules.{EachRuleHolds, each-rule-holds}
use Rattle.model.proofs.Run.Queue.{QueueRulesHold, queue-rules-hold}
use Rattle.lockstep.proofs.Lockstep.{at-node}
use Rattle.model.proofs.Machine.Added.{node_taken}
use Rattle.model.proofs.Machine.ActCases.{Lacks, no_frame, no_cell, no_node}
use Rattle.demand3.proofs.RefusesOnly.{StepTests, call-only}

-- a refusal that is not 14
abbrev NotFourteen : Refusal → Type 0
NotFourteen r = eqb (number_of r) 14 ≡ false

-- a token whose node keeps the rules lacks nothing that it names
not-lacking : (d : Dag) (ts : List Token) (t : Token) (N : Node) → node_holds d N ≡ true → node_rule ts t N ≡ true → Lacks t N → ⊥
unfolding node_holds node_rule names_frame is_place
not-lacking d ts t _ k r (no_frame e) = clash (and_left (names_frame ts t.caller) _ r) (ap (names_frame ts) e)
not-lacking d ts t _ k r (no_cell e) = clash (and_left (is_place t.cell) _ r) (ap is_place e)
not-lacking d ts t _ k r no_node = clash k refl

-- the rule at its node, of a token that is not blank
pub at-rule : (d : Dag) (ts : List Token) (t : Token) → is_blank_state t.state ≡ false → at_node d ts t ≡ true
    → node_rule ts t (node_at d t.node) ≡ true
unfolding at_node
at-rule d ts t b e = rw (b, at_node) at e

pub ready-not-blank : (s : State) → is_ready s ≡ true → is_blank_state s ≡ false
unfolding is_ready is_blank_state
ready-not-blank states.Blank e = clash e refl
ready-not-blank states.Ready e = refl
ready-not-blank (states.Waiting c) e = refl
ready-not-blank (states.Called h) e = refl
ready-not-blank (states.Due d) e = refl
ready-not-blank states.Frame e = refl

module _ (lim : Limits) (d : Dag) (m : Machine) (holds : rules_hold lim d m ≡ true) where
  -- a token that a step takes lacks nothing
  pub lacks-nothing : (k : ℕ) → k < m.queued → Lacks (queued_token m k) (node_taken d m k) → ⊥
  unfolding token_at
  lacks-nothing k l =
      not-lacking d m.tokens t (node_at d t.node)
      (node-rules d t.node rules.dag (at-node lim d m holds (get_or m.queue k 0) (queue.named k l)))
      (at-rule d m.tokens t (ready-not-blank _ (queue.ready k l))
      (all-at (at_node d m.tokens) m.tokens _ blank_token rules.nodes (queue.named k l)))
    where
      rules : EachRuleHolds lim d m
      rules = each-rule-holds lim d m holds

      queue : QueueRulesHold m
      queue = queue-rules-hold lim d m holds

      t : Token
      t = queued_token m k

  tests : (k : ℕ) → StepTests NotFourteen lim d m k
  unfolding number_of
  tests k =
      record {
        rules = λ e. clash holds e;
        queued = λ l. refl;
        takes =
            λ h l.
            record {
              token = λ full a. refl;
              cell = λ full a. refl;
              call = λ full. refl;
              rule = λ x. absurd (lacks-nothing k l x);
            };
      }

  -- no call is refused with 14
  pub not-rule : (c : Call) → (outcome_of runner lim d m c).reply ≡ replies.Refused refusals.Rule → ⊥
  unfolding number_of
  not-rule c = call-only NotFourteen lim d m tests refl refl c refusals.Rule (λ e. clash refl e)
