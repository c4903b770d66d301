-- How a step ends: its outcome is that of the instruction at the token's node; where nothing is out of reach the words that were written
-- are all there is to it, and otherwise sweeping them. Assumes nothing.
use mathlib.Core.Path.{◌≡◌, sym, ap, subst, ◌∙◌}
use mathlib.Core.Bool.{Bool, true}
use mathlib.Core.List.{List, []}
use Prim.Native.Nat.{ℕ, ◌+◌, ◌<◌, ◌≤◌}
use native.Mathlib.Omega.{arith}
use lib.ListN.{length}
use lib.IntN.{ℤ}
use Rattle.job.specs.Node.{Dag, node_at}
use Rattle.job.specs.Words.{dag_of}
use Rattle.model.specs.Machine.Blank.{blank_token, token_at}
use Rattle.model.specs.Machine.InUse.{tokens_used, cells_used, sweep}
use Rattle.model.specs.Machine.Limits.{paper}
use Rattle.model.specs.Machine.Reply.{report_values, accepted, outcome, unless, refuses, refusal_of}
use Rattle.model.specs.Machine.Rules.{node_rule, at_node}
use Rattle.model.specs.Machine.State.{is_ready}
use Rattle.model.specs.Machine.Step as Step
use Rattle.model.specs.Machine.Step.{act, takes}
use Rattle.model.specs.declared.record.Machine.{Machine}
use Rattle.model.specs.declared.reply.Outcome.{Outcome}
use Rattle.model.specs.declared.reply.Reply.{Reply}
use Rattle.model.specs.declared.reply.Reply.TheVariants as replies
use Rattle.model.specs.declared.reply.Report.{Report}
use Rattle.model.specs.declared.token.Token.{Token}
use Rattle.job.proofs.Test.{lt-ltb, all-at}
use Rattle.model.proofs.Machine.Rules.{EachRuleHolds, each-rule-holds}
use Rattle.lockstep.proofs.Lockstep.{at-node}
use Rattle.model.proofs.Run.Queue.{queue-rules-hold}
use Rattle.demand3.proofs.Carried.{Carried}
use Rattle.demand3.proofs.NotRule.{at-rule, ready-not-blank}
use Rattle.record.specs.Changes.{dequeued}
use Rattle.record.specs.Holds.{Holds}
use Rattle.acts.specs.Acting.{Lawful, Taking, Acting, CallersAreFrames, Gives, plain}
use Rattle.sites.specs.Row.{NodeRow, node_in}
use Rattle.reach.specs.declared.used.Marks.{Marks}
use Rattle.writes.specs.declared.actor.Actor.{Actor}
use Rattle.reach.specs.Marks.{MarksOf}
use Rattle.sites.proofs.RuleFacts.{tokens-size}
use Rattle.sites.proofs.RowKinds.{node-is, row_inside}

-- an accepted call after which blanking changes nothing
pub gives_whole : {x : Outcome} {m : Machine} (o : Machine) (reply : Reply) (vs : List ℤ) {ws : List ℕ} {used : Marks}
    (r : Report)
    → x ≡ accepted reply vs o → r.reply ≡ reply → r.values ≡ report_values vs → Holds ws o → sweep o ≡ o
    → (CallersAreFrames m → Carried o used.tokens used.cells)
    → Gives x m ws used r
unfolding accepted
gives_whole {x} {m} o reply vs {ws} {used} r e f g h w k =
    let after : x.machine ≡ o = ap (λ (y : Outcome). y.machine) e ∙ w in
    record {
      reply = f ∙ ap (λ (y : Outcome). y.reply) (sym e);
      values = g ∙ ap (λ (y : Outcome). y.values) (sym e);
      holds = subst (Holds ws) (sym after) h;
      marks =
          λ framed.
          record {
            tokens = sym (k framed).tokens ∙ ap (λ n. tokens_used n) (sym after);
            cells = sym (k framed).cells ∙ ap (λ n. cells_used n) (sym after);
          };
    }

-- an accepted call whose record was swept
pub gives-swept : {x : Outcome} {m : Machine} (o : Machine) (reply : Reply) {ws : List ℕ} {used : Marks} (r : Report)
    → x ≡ accepted reply [] o → r ≡ plain reply → Holds ws (sweep o) × MarksOf (sweep o) used
    → Gives x m ws used r
unfolding accepted
gives-swept {x} o reply {ws} r e f h =
    let after : x.machine ≡ sweep o = ap (λ (y : Outcome). y.machine) e in
    record {
      reply = ap (λ (y : Report). y.reply) f ∙ ap (λ (y : Outcome). y.reply) (sym e);
      values = ap (λ (y : Report). y.values) f ∙ ap (λ (y : Outcome). y.values) (sym e);
      holds = subst (Holds ws) (sym after) h.0;
      marks =
          λ framed.
          record {
            tokens = h.1.tokens ∙ ap (λ n. tokens_used n) (sym after);
            cells = h.1.cells ∙ ap (λ n. cells_used n) (sym after);
          };
    }

-- a refused call
pub gives-refused : {x : Outcome} {ws dag : List ℕ} {used : Marks} {m : Machine} (number : ℕ) (r : Report)
    → Lawful ws used dag m → x ≡ outcome m (refuses number) → r ≡ plain (replies.Refused (refusal_of number))
    → Gives x m ws used r
unfolding outcome
gives-refused {x} {ws} number r a e f =
    let after : x.machine ≡ _ = ap (λ (y : Outcome). y.machine) e in
    record {
      reply = ap (λ (y : Report). y.reply) f ∙ ap (λ (y : Outcome). y.reply) (sym e);
      values = ap (λ (y : Report). y.values) f ∙ ap (λ (y : Outcome). y.values) (sym e);
      holds = subst (Holds ws) (sym after) a.holds;
      marks =
          λ framed.
          record {
            tokens = a.marks.tokens ∙ ap (λ n. tokens_used n) (sym after);
            cells = a.marks.cells
                ∙ ap (λ n. cells_used n) (sym after);
          };
    }

-- the token at a place of the queue
module _ {ws dag : List ℕ} {used : Marks} {actor : Actor} {m : Machine} (a : Taking ws used dag actor m) where
  abbrev t : Token
  t = token_at m.tokens actor.token

  abbrev d : Dag
  d = dag_of dag

  pub rules : EachRuleHolds paper d m
  rules = each-rule-holds paper d m a.lawful.rules

  pub token-inside : actor.token < 64
  token-inside =
      let l = (queue-rules-hold paper d m a.lawful.rules).named actor.place a.queued in
      let n = tokens-size d m a.lawful.rules in
      let e = a.token in
      omega arith

  pub token-ready : is_ready t.state ≡ true
  token-ready =
      subst (λ i. is_ready (token_at m.tokens i).state ≡ true) (sym a.token)
      ((queue-rules-hold paper d m a.lawful.rules).ready actor.place a.queued)

  pub node-named : t.node < length d.nodes
  node-named =
      subst (λ i. (token_at m.tokens i).node < length d.nodes) (sym a.token)
      (at-node paper d m a.lawful.rules _ ((queue-rules-hold paper d m a.lawful.rules).named actor.place a.queued))

  -- the rule at its node
  pub token-rule : node_rule m.tokens t (node_at d t.node) ≡ true
  unfolding token_at
  token-rule =
      at-rule d m.tokens t (ready-not-blank _ token-ready)
      (all-at (at_node d m.tokens) m.tokens actor.token blank_token rules.nodes
      (let n = tokens-size d m a.lawful.rules in let l = token-inside in omega arith))

  -- the step is what the instruction at its node does
  pub step-at : Step.step paper d m actor.place ≡ outcome m (act paper d m (dequeued m actor.place) actor.token t (node_at d t.node))
  unfolding Step.step takes unless
  step-at =
      rw (a.lawful.rules, lt-ltb actor.place m.queued a.queued, unless)
      (ap
      (λ i. outcome m (act paper d m (dequeued m actor.place) i (token_at m.tokens i) (node_at d (token_at m.tokens i).node)))
      (sym a.token))

-- .. and the words of its node's row
module _ {ws dag : List ℕ} {used : Marks} {actor : Actor} {k : ℕ} {m : Machine} (a : Acting ws used dag actor k m) where
  pub row : NodeRow dag actor.row k
  row =
      record {
        size = a.taking.lawful.size;
        dag = (rules a.taking).dag;
        node = (token_at m.tokens actor.token).node;
        inside = node-named a.taking;
        row = a.row;
        kind = a.kind;
      }

  pub row_fits : actor.row + 12 ≤ 12331
  row_fits = row_inside dag actor.row k row

  pub node_of : node_at (dag_of dag) (token_at m.tokens actor.token).node ≡ node_in dag actor.row k
  unfolding row
  node_of = node-is dag actor.row k row

  pub step_is : Step.step paper (dag_of dag) m actor.place
      ≡ outcome m (act paper (dag_of dag) m (dequeued m actor.place) actor.token (token_at m.tokens actor.token) (node_in dag actor.row k))
  step_is = step-at a.taking ∙ ap (λ n. outcome m
      (act paper (dag_of dag) m (dequeued m actor.place) actor.token (token_at m.tokens actor.token) n)) node_of

  pub node-rule : node_rule m.tokens (token_at m.tokens actor.token) (node_in dag actor.row k) ≡ true
  node-rule = subst (λ n. node_rule m.tokens (token_at m.tokens actor.token) n ≡ true) node_of (token-rule a.taking)
