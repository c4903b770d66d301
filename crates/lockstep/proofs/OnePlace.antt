-- The instructions that write one place agree with the abstract machine's: stop, publish, assign, remove, return, and site calls. Assumes
-- nothing.
use mathlib.Core.Path.{◌≡◌, refl, sym, ◌∙◌, subst}
use mathlib.Core.Bool.{Bool, true, false}
use mathlib.Core.List.{List, [], ◌∷◌, map, reverse}
use mathlib.Core.Option.{Option}
use Prim.Native.Nat.{ℕ, ◌<◌}
use native.Mathlib.Omega.{arith}
use lib.ListN.{length, set}
use lib.Dec.{ltb}
use lib.IntN.{ℤ, pos}
use Rattle.std.specs.Prelude.{Some, None}
use Rattle.job.specs.Test.{All}
use Rattle.job.specs.Site.{BuiltinReply, gives, silent, later, due_time, is_builtin, builtin}
use Rattle.job.specs.Syntax.{Param}
use Rattle.job.specs.WellFormed.{GoodParam}
use Rattle.job.specs.Node.{Node, Dag, body_at}
use Rattle.model.specs.Machine.Limits.{Limits}
use Rattle.model.specs.Machine.Blank.{blank_token, token_at}
use Rattle.model.specs.Machine.State.{is_live}
use Rattle.model.specs.Machine.Reply.{Effect, moves, publishes, unless}
use Rattle.model.specs.Machine.Update.{with_node, with_binding, with_value, with_state, with_tables, with_orders, with_counts, with_timers}
use Rattle.model.specs.Machine.Update.{put, enqueue}
use Rattle.model.specs.Machine.Step.{LookUpResult, values, unset, look, value_of, ended, goes_on, waited, replied, called_out, returned}
use Rattle.model.specs.Machine.Step.{callee, becomes_callee, deferred, call_site}
use Rattle.calculus.specs.Event.{Event, Label, silently, showing}
use Rattle.calculus.specs.Expression.{Exp}
use Rattle.calculus.specs.Allowed.{next_handle}
use Rattle.calculus.specs.Meaning.{param_meant}
use Rattle.model.specs.declared.token.Slot.TheVariants as slots
use Rattle.model.specs.Machine.Held.{Held, Place}
use Rattle.model.specs.declared.token.State.{State}
use Rattle.model.specs.declared.token.State.TheVariants as states
use Rattle.model.specs.declared.token.Token.{Token}
use Rattle.model.specs.declared.record.Machine.{Machine}
use Rattle.job.proofs.Test.{never, le-leb, lt-not-leb}
use Rattle.model.proofs.Machine.WrittenTokens.{fits-callee}
use Rattle.model.proofs.Machine.Deferred.{at_once, in_time, deferred-cases}
use Rattle.simulation.proofs.AbstractMachine as Abstract
use Rattle.simulation.proofs.AbstractMachine.{Binding, Frame, at, running, Store, named, acts_at}
use Rattle.simulation.proofs.Store.{◌is-in◌}
use Rattle.lockstep.proofs.Labels.{Labels, node_meant, program_of, Fresh, Follows, Enters}
use Rattle.lockstep.proofs.Tails.{TailLabels}
use Rattle.lockstep.proofs.View.{World, cells_of_caller, absent, present, ready, waiting, called, due, valued, BindingSeen}
use Rattle.lockstep.proofs.View.{FrameSeen, frame_at}
use Rattle.lockstep.proofs.View.{frame-seen, StateSeen, TokenSeen, sees}
use Rattle.lockstep.proofs.Seen.{world, tokens-of, used-fits}
use Rattle.lockstep.proofs.Slots.{found, values_seen, formals-seen}
use Rattle.lockstep.proofs.Moving.{value_there, value-optional, value-held, ready-seen, nested-none, place-to, place-bind}
use Rattle.lockstep.proofs.Moving.{slots_at, place-drop, place-as, fits-as, fits-bind}
use Rattle.lockstep.proofs.Agrees.{Acting, acting-used, acting-fits, Becomes, Shows, shows-unless, Agrees, ends-becomes}
use Rattle.lockstep.proofs.Agrees.{goes-becomes}

module _ (d : Dag) (M : Labels) (bodies : ℕ → Exp) (m : Machine) {name place : ℕ → ℕ} {σ : Store} {new p : ℕ}
    {L R : List Abstract.Token} {n : ℕ} {B : List Binding} {F : List Frame} {U : List ℕ} {v : ℤ}
    (A : Acting M (world m.tokens m.cells name place σ new) p L R n B F U v) where
  abbrev W : World
  W = world m.tokens m.cells name place σ new

  abbrev t : Token
  t = token_at m.tokens p

  -- what the abstract machine's token does at the node
  abbrev does : Node → Abstract.Effect
  does N = acts_at (program_of d M bodies) m.clock σ new m.calls (node_meant (M.scope n) N) (at n B F U) v

  pub stop-agrees : Agrees M W L R m.clock m.calls (moves (ended m p)) (does Node.stop)
  unfolding Shows ended put with_tables node_meant is_live next_handle
  stop-agrees = ends-becomes m A.others (ended m p) silently blank_token refl refl refl refl refl

  pub publish-agrees : M.value n ≡ true
      → Agrees M W L R m.clock m.calls (publishes (value_of t.value) (ended m p)) (does Node.publish)
  unfolding Shows ended put with_tables node_meant is_live next_handle value_of
  publish-agrees e =
      subst (λ w. Becomes M W L R m.clock m.calls (does Node.publish) (showing (Event.publish (value_of w))) (ended m p))
      (sym (value_there e A.value))
      (ends-becomes m A.others (ended m p) (showing (Event.publish v)) blank_token refl refl refl refl refl)

  pub assign-agrees : {x k : ℕ} → M.value n ≡ true → x < 8 → Fresh x (M.scope n) → Follows d M n k (x ∷ M.scope n) (M.nest n)
      → Agrees M W L R m.clock m.calls (goes_on m p (with_node k (with_binding x (slots.Value (value_of t.value)) t)))
      (does (Node.assign x k))
  unfolding Shows goes_on enqueue put with_tables with_orders node_meant next_handle
  assign-agrees {x} {k} e l g f =
      goes-becomes m A.others _ silently u refl refl refl refl
      (fits-bind x k _ (let z : length t.binds ≡ 8 = A.place.binds.size in omega arith) (λ c q. no_cell q) (acting-fits A)) view
    where
      u : Token
      u = with_node k (with_binding x (slots.Value (value_of t.value)) t)

      no_cell : {v : ℤ} {c : ℕ} → slots.Value v ≡ slots.Cell c → ⊥
      no_cell q = never cc

      here : t.value ≡ Some v
      here = value_there e A.value

      view : TokenSeen W M u (running (at k (Binding.value v ∷ B) F U) v)
      view = unfold with_node with_binding value_of in
          sees
          (place-bind l g f (subst (λ w. BindingSeen W (slots.Value (value_of w)) (Binding.value v)) (sym here) valued) A.place)
          A.clear (ready-seen A.state (value-held here))

  pub remove-agrees : {x k : ℕ} {scope : List ℕ}
      → M.value n ≡ true → x < 8 → M.scope n ≡ x ∷ scope → Fresh x scope → Follows d M n k scope (M.nest n)
      → Agrees M W L R m.clock m.calls (goes_on m p (with_node k (with_binding x slots.Empty t))) (does (Node.remove x k))
  unfolding Shows goes_on enqueue put with_tables with_orders node_meant next_handle with_node with_binding
  remove-agrees {x} {k} e l q g f =
      goes-becomes m A.others _ silently (with_node k (with_binding x slots.Empty t)) refl refl refl refl
      (fits-bind x k slots.Empty (let z : length t.binds ≡ 8 = A.place.binds.size in omega arith) no_cell (acting-fits A))
      (sees (place-drop l q g f A.place) A.clear (ready-seen A.state (value-held (value_there e A.value))))
    where
      no_cell : (c : ℕ) → slots.Empty ≡ slots.Cell c → ⊥
      no_cell c q = never cc

  -- the frame is under the same cells as the token that returns to it
  return-to : {G : List Frame} → M.value n ≡ true → U ≡ cells_of_caller G → (f : ℕ) → t.caller ≡ Some f → FrameSeen W M f G
      → Agrees M W L R m.clock m.calls (goes_on m p (with_state states.Ready (with_value t.value (token_at m.tokens f))))
      (Abstract.returns G v)
  unfolding Shows goes_on enqueue put with_tables with_orders next_handle with_state with_value
  return-to e z f c (frame_at l s b) =
      goes-becomes m A.others _ silently _ refl refl refl refl
      (fits-as {t = token_at m.tokens f} refl refl refl (used-fits W f ((tokens-of W).caller p (acting-used A) f c)))
      (sees (place-as {t = token_at m.tokens f} refl refl refl refl b)
      (λ i h. A.clear i (subst (λ U. i is-in U) (sym z) h))
      (ready-seen refl (value-held (value_there e A.value))))

  pub return-agrees : M.value n ≡ true → M.nest n ≡ 0
      → Agrees M W L R m.clock m.calls (returned m p t t.caller) (does Node.return)
  unfolding returned Shows node_meant
  return-agrees e z = go t.caller refl
    where
      go : (q : Place) → t.caller ≡ q → Agrees M W L R m.clock m.calls (returned m p t q) (does Node.return)
      go None c = tt
      go (Some f) c = return-to e (nested-none z A.place.nested) f c (frame-seen f c A.place.caller)

  -- a tail call: the token stands at the body's root, for its own caller
  pub tail-agrees : {e : ℕ} {ps : List Param} → All (GoodParam (M.scope n)) ps → TailLabels M n → Enters d M e ps
      → Agrees M W L R m.clock m.calls (becomes_callee m p t (body_at d e).root ps)
      (Abstract.goes_on (at (body_at d e).root (map (named B) (reverse (map (param_meant (M.scope n)) ps))) F U) v)
  unfolding Shows becomes_callee goes_on enqueue put with_tables with_orders next_handle
  tail-agrees {e} {ps} good tail enters =
      goes-becomes m A.others _ silently (callee t.caller t (body_at d e).root ps) refl refl refl refl
      (fits-callee t.caller (body_at d e).root ps (acting-fits A).caller (acting-fits A))
      (sees
      (record {
        node = refl;
        binds = slots_at (sym enters.scope) (formals-seen ps A.place.binds.views good enters.few);
        caller = A.place.caller;
        cell = A.place.cell;
        nested =
            record {
              own = [];
              size = sym enters.nest;
              parts = nested-none tail.nest A.place.nested;
              body = enters.body ∙ sym tail.body ∙ A.place.nested.body;
            };
      })
      A.clear (ready (absent enters.value)))

  -- site calls
  module _ (lim : Limits) (s : ℕ) {k : ℕ} (f : Follows d M n k (M.scope n) (M.nest n)) where
    -- the token stands at the next node, in this state and with this value
    goes-next : (m' : Machine) (a : Label) (st : State) (w : Held) {x : Abstract.Token}
        → m'.tokens ≡ set m.tokens p (with_node k (with_state st (with_value w t))) → m'.cells ≡ m.cells
        → m'.calls ≡ next_handle a m.calls → m'.clock ≡ m.clock
        → StateSeen M k (at k B F U) st w x → Becomes M W L R m.clock m.calls (Abstract.makes a (x ∷ [])) a m'
    unfolding with_node with_state with_value
    goes-next m' a st w et ec eh en seen =
        goes-becomes m A.others m' a (with_node k (with_state st (with_value w t))) et ec eh en
        (fits-as {t = t} refl refl refl (acting-fits A))
        (sees (place-as {t = with_node k t} refl refl refl refl (place-to f A.place)) A.clear seen)

    -- "With t = 0 the token joins the back of the queue in the call's own step, with value 0": it is due no later than now
    deferred-agrees : (o : Option ℕ)
        → Agrees M W L R m.clock m.calls (deferred m p t k o) (Abstract.falls_due m.clock o (at k B F U))
    unfolding Shows goes_on ended enqueue put with_tables with_timers with_orders next_handle is_live with_node with_value with_state
    deferred-agrees o =
        deferred-cases m p t k (λ o e. Agrees M W L R m.clock m.calls e (Abstract.falls_due m.clock o (at k B F U)))
        (ends-becomes m A.others _ silently blank_token refl refl refl refl refl)
        (λ time l.
        subst (λ b. Goes b time (at_once m p t k)) (sym (le-leb time m.clock l))
        (goes-next _ silently t.state (Some (pos 0)) refl refl refl refl (ready-seen A.state present)))
        (λ time l.
        subst (λ b. Goes b time (moves (in_time m p t k time))) (sym (lt-not-leb time m.clock l))
        (goes-next _ silently (states.Due time) t.value refl refl refl refl due))
        o
      where
        Goes : Bool → ℕ → Effect → Type 0
        Goes b time e = Agrees M W L R m.clock m.calls e (Abstract.makes silently (Abstract.woken_if b time (at k B F U) ∷ []))

    replied-agrees : (r : BuiltinReply)
        → Agrees M W L R m.clock m.calls (replied m p t k r) (Abstract.replies m.clock r (at k B F U))
    unfolding Shows replied goes_on ended enqueue put with_tables with_orders next_handle is_live with_node with_value with_state
    replied-agrees (later t) = deferred-agrees (due_time m.clock t)
    replied-agrees silent = ends-becomes m A.others _ silently blank_token refl refl refl refl refl
    replied-agrees (gives w) = goes-next _ silently t.state (Some w) refl refl refl refl (ready-seen A.state present)

    called-agrees : (vs : List ℤ)
        → Agrees M W L R m.clock m.calls (called_out m p t s vs k) (Abstract.calls_site m.clock m.calls s vs false (at k B F U))
    unfolding Shows called_out put with_tables with_counts next_handle with_node with_state with_value
    called-agrees vs =
        goes-next _ (showing (Event.call m.calls s vs)) (states.Called m.calls) t.value refl refl refl refl called

    look-up-agrees : M.value n ≡ false → (l : LookUpResult)
        → Agrees M W L R m.clock m.calls (call_site lim m p t s k l)
        (Abstract.asks_site m.clock m.calls s (running (at n B F U) v) (found l) (at k B F U))
    unfolding Shows call_site waited put with_tables with_orders next_handle with_state
    look-up-agrees e (unset c) =
        goes-becomes m A.others _ silently _ refl refl refl refl (fits-as {t = t} refl refl refl (acting-fits A))
        (sees (place-as {t = t} refl refl refl refl A.place) A.clear (waiting e (value-optional refl A.value)))
    look-up-agrees e (values vs) = go (is_builtin s)
      where
        go : (b : Bool) → Agrees M W L R m.clock m.calls
            (elim b [
              | true ↦ replied m p t k (builtin s vs)
              | false ↦ unless (ltb m.calls lim.calls) 13 (called_out m p t s vs k)
            ])
            (Abstract.calls_site m.clock m.calls s vs b (at k B F U))
        go true = replied-agrees (builtin s vs)
        go false =
            shows-unless (Becomes M W L R m.clock m.calls (Abstract.calls_site m.clock m.calls s vs false (at k B F U)))
            (ltb m.calls lim.calls) 13 (called_out m p t s vs k) (λ i. called-agrees vs)

    pub site-agrees : {ps : List Param} → M.value n ≡ false → All (GoodParam (M.scope n)) ps
        → Agrees M W L R m.clock m.calls (call_site lim m p t s k (look m.cells t.binds ps)) (does (Node.site s ps k))
    unfolding node_meant
    site-agrees {ps} e good =
        subst
        (λ o. Agrees M W L R m.clock m.calls (call_site lim m p t s k (look m.cells t.binds ps))
        (Abstract.asks_site m.clock m.calls s (running (at n B F U) v) o (at k B F U)))
        (sym (values_seen A.place.binds.views good))
        (look-up-agrees e (look m.cells t.binds ps))
