-- A waiting token is blocked: it stands at a site call whose parameters have no values yet, since one of them is bound to an unset cell and
-- none is empty. So a record of a run that has room can follow the abstract machine. Assumes nothing.
use mathlib.Core.Path.{◌≡◌, ap, subst}
use mathlib.Core.Bool.{true}
use Prim.Native.Nat.{ℕ, ◌<◌}
use lib.ListN.{length}
use Rattle.job.specs.Node.{Dag, node_at, dag_holds}
use Rattle.model.specs.Machine.Limits.{Limits}
use Rattle.model.specs.Machine.Blank.{blank_token, token_at}
use Rattle.model.specs.Machine.State.{is_blank_state, is_live}
use Rattle.model.specs.Machine.Rules.{node_rule, at_node}
use Rattle.model.specs.Machine.Step.{unset, look}
use Rattle.model.specs.declared.token.State.TheVariants as states
use Rattle.model.specs.declared.token.Token.{Token}
use Rattle.model.specs.declared.record.Machine.{Machine}
use Rattle.job.proofs.Test.{all-at}
use Rattle.model.proofs.Machine.Rules.{each-rule-holds}
use Rattle.simulation.proofs.AbstractMachine as Abstract
use Rattle.lockstep.proofs.Labels.{Labels, Flow}
use Rattle.demand3.proofs.Room.{Room}
use Rattle.demand3.proofs.Back.{Blocked, Ready}
use Rattle.demand3.proofs.LookedUp.{look-blocked}
use Rattle.model.proofs.Keeps.TableFacts.{Awaits}
use Rattle.demand3.proofs.Reached.{Reached, Roomy, reached-rules}
use Rattle.demand3.proofs.NotRule.{at-rule}
use Rattle.model.proofs.Machine.TableRows.{live_inside}

module _ (lim : Limits) (d : Dag) (M : Labels) (room : Roomy lim) (flow : Flow d M) (dag : dag_holds d ≡ true) where
  pub waiting-blocked : {m : Machine} {s : Abstract.State} → Reached lim d M m s → (p c : ℕ)
      → (token_at m.tokens p).state ≡ states.Waiting c
      → Blocked d m p
  unfolding is_live is_blank_state token_at node_rule
  waiting-blocked {m} r p c e =
      record { site = b.site; params = b.params; next = b.next; cell = found.0; node = b.node; finds = found.1 }
    where
      t : Token
      t = token_at m.tokens p

      b : Awaits d m.cells t c
      b = (r.facts.tables.tokens p).waits c e

      inside : p < length m.tokens
      inside = live_inside m.tokens p (ap is_live e)

      rule : node_rule m.tokens t (node_at d t.node) ≡ true
      rule =
          at-rule d m.tokens t (ap is_blank_state e)
          (all-at (at_node d m.tokens) m.tokens p blank_token (each-rule-holds lim d m (reached-rules lim d M room flow dag r)).nodes
          inside)

      found : (a : ℕ) × (look m.cells t.binds b.params ≡ unset a)
      found =
          look-blocked m.cells t.binds b.params b.name c b.asked b.bound b.unset
          (subst (λ N. node_rule m.tokens t N ≡ true) b.node rule)

  -- a record of a run that has room can follow the abstract machine
  pub reached-ready : {m : Machine} {s : Abstract.State} → Reached lim d M m s → Room lim d m → Ready lim d m
  reached-ready r space = record { holds = reached-rules lim d M room flow dag r; room = space; blocked = waiting-blocked r }
