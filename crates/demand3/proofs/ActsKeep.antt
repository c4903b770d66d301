-- Each instruction keeps the facts: what it writes is a token whose fields come from the one that acts, from its node or from a frame, and
-- the orders gain the places that become ready, wait or are due later. Stated of the machine before blanking. Assumes nothing.
use mathlib.Core.Path.{◌≡◌, refl, sym, ◌∙◌, ap, subst}
use mathlib.Core.Bool.{true, false}
use mathlib.Core.List.{List, [], ◌∷◌, ◌++◌, map}
use Prim.Native.Nat.{ℕ, zero, suc, ◌<◌, ◌≤◌}
use native.Mathlib.Omega.{arith}
use lib.ListN.{length, set, length-set, length-map}
use lib.Dec.{ltb, eqb}
use lib.IntN.{ℤ}
use Rattle.std.specs.Prelude.{Some, None}
use Rattle.job.specs.Test.{for_all, select}
use Rattle.job.specs.Number.{Signed32}
use Rattle.job.specs.Site.{last_time}
use Rattle.job.specs.Syntax.{Param}
use Rattle.job.specs.Node.{Node, Dag, node_at, body_at, param_holds, params_hold, is_node, node_holds, body_holds, dag_holds}
use Rattle.model.specs.Machine.Limits.{Limits}
use Rattle.model.specs.Machine.Blank.{blank_token, token_at, cell_at, slot_at}
use Rattle.model.specs.Machine.Active.{upward, within}
use Rattle.model.specs.Machine.State.{is_live, is_ready, is_waiting, is_due}
use Rattle.model.specs.Machine.Rules.{held_in_range}
use Rattle.model.specs.Machine.Reply.{Effect}
use Rattle.model.specs.Machine.Update as Update
use Rattle.model.specs.Machine.Step as Step
use Rattle.model.specs.Machine.Step.{unset, has_token_place, has_cell_place, token_place}
use Rattle.model.specs.Machine.Update.{with_orders, queue_of, waits_of, timers_of}
use Rattle.model.specs.Machine.Step.{cell_place, choke_token, act}
use Rattle.model.specs.declared.token.Slot.TheVariants as slots
use Rattle.model.specs.Machine.Held.{Place}
use Rattle.model.specs.declared.token.State.{State}
use Rattle.model.specs.declared.token.State.TheVariants as states
use Rattle.model.specs.declared.token.Token.{Token}
use Rattle.model.specs.declared.cell.Cell.{Cell}
use Rattle.model.specs.declared.record.Machine.{Machine}
use Rattle.job.proofs.Test.{never, clash, eqb_same, ltb-lt, and_left, and_right}
use Rattle.job.proofs.DagRules.{body-rules}
use Rattle.model.proofs.Machine.Refused.{After}
use Rattle.model.proofs.Machine.ActCases.{Said, Anew, Does, act-does}
use Rattle.model.proofs.Keeps.NamedOnce.{Lines, Taken, taken-ready, taken-inside, lines-gone, lines-back, lines-wait, lines_new}
use Rattle.model.proofs.Keeps.NamedOnce.{lines-later, lines-choke}
use Rattle.model.proofs.Keeps.Orders.{Orders, queue-is, waits-are, orders-with, orders-counts, orders-timers}
use Rattle.model.proofs.Keeps.Orders.{orders-put, orders-enqueue, orders-token, orders-cell}
use Rattle.model.proofs.Keeps.Orders.{Timers, timers-are, timers-with, timers-orders, timers-counts}
use Rattle.model.proofs.Keeps.Orders.{timers-put, timers-enqueue, timers-token, timers-cell}
use Rattle.demand3.proofs.Values.{zero-fits, held_fits, LookUpFits, found-signed, look-fits, ReplyFits, gives-signed, builtin-fits}
use Rattle.demand3.proofs.Values.{due-last}
use Rattle.demand3.proofs.LookedUp.{look-unset}
use Rattle.model.proofs.Keeps.TableFacts.{BindsFit, binds-written, formals-fit, Awaits, awaits-as, TokenHolds, Tables, Idle}
use Rattle.model.proofs.Keeps.TableFacts.{idle-holds, blank-holds, tables-write, tables-wait, tables-later, tables-call, tables-cell}
use Rattle.model.proofs.Keeps.TableFacts.{tables-choke}
use Rattle.model.proofs.Keeps.Facts.{sizes-new, sizes-as, Facts}
use Rattle.model.proofs.Machine.TableRows.{token-other}

not-live-ready : (s : State) → is_live s ≡ false → is_ready s ≡ false
unfolding is_live is_ready
not-live-ready states.Blank e = refl
not-live-ready states.Ready e = e
not-live-ready (states.Waiting c) e = refl
not-live-ready (states.Called h) e = refl
not-live-ready (states.Due d) e = refl
not-live-ready states.Frame e = refl

not-live-waiting : (s : State) → is_live s ≡ false → is_waiting s ≡ false
unfolding is_live is_waiting
not-live-waiting states.Blank e = refl
not-live-waiting states.Ready e = refl
not-live-waiting (states.Waiting c) e = e
not-live-waiting (states.Called h) e = refl
not-live-waiting (states.Due d) e = refl
not-live-waiting states.Frame e = refl

not-live-due : (s : State) → is_live s ≡ false → is_due s ≡ false
unfolding is_live is_due
not-live-due states.Blank e = refl
not-live-due states.Ready e = refl
not-live-due (states.Waiting c) e = refl
not-live-due (states.Called h) e = refl
not-live-due (states.Due d) e = e
not-live-due states.Frame e = refl

-- a cell is within itself
own-within : (cs : List Cell) (c : ℕ) → c < length cs → within cs c (Some c) ≡ true
unfolding within
own-within cs c l = go (length cs) (omega arith)
  where
    go : (n : ℕ) → 0 < n → upward (λ b k. eqb c b) cs n (Some c) ≡ true
    go zero i = absurd (omega arith)
    go (suc n) i = unfold upward in rw (eqb_same c, upward) refl

-- a place for a new token
pub record Vacant (m : Machine) (q : ℕ) : Type 0 where
  pub inside : q < length m.tokens
  pub dead : is_live (token_at m.tokens q).state ≡ false

-- The token at p acts, taken from the queue of m; its orders are then `queue`, `waits` and the order of call
module _ (lim : Limits) (d : Dag) (m : Machine) (F : Facts lim d m) (some : 0 < length d.nodes)
    (queue waits : List ℕ) (p : ℕ) (T : Taken m.tokens p queue waits F.timers) where
  abbrev pub acting : Token
  acting = token_at m.tokens p

  abbrev pub at : Machine
  at = with_orders queue waits m

  abbrev pub Keeps : Effect → Type 0
  Keeps = After (Facts lim d)

  abbrev Good : Token → Type 0
  Good u = TokenHolds d m.cells m.calls m.clock u

  inside : p < length m.tokens
  inside = taken-inside T

  was : Good acting
  was = F.tables.tokens p

  begun : Orders at queue waits
  begun = orders-with queue waits m

  timed : Timers at F.timers
  timed = timers-orders F.timed queue waits

  -- the token, with a node, a value and bindings of another, ready or a frame
  going : {u : Token} → u.node < length d.nodes → held_in_range u.value ≡ true → BindsFit u.binds → Idle u.state → Good u
  going n v b i = idle-holds n v b i

  ready-idle : {s : State} → s ≡ states.Ready → Idle s
  ready-idle e = subst Idle (sym e) Idle.ready

  goes_on_lem : (u : Token) → Good u → u.state ≡ states.Ready → Keeps (Step.goes_on at p u)
  unfolding After Step.goes_on Update.enqueue Update.put Update.with_tables with_orders
  goes_on_lem u k s =
      record {
        sizes = sizes-as (length-set m.tokens p u) refl F.sizes;
        queue = queue ++ (p ∷ []);
        waits = waits;
        timers = F.timers;
        orders = orders-enqueue (orders-put begun p u) p;
        timed = timers-enqueue (timers-put timed p u) p;
        lines = lines-back T u s;
        tables = tables-write F.tables p u inside k (ready-idle s);
      }

  -- to another node, with what it has
  ahead : (k : ℕ) → k < length d.nodes → {u : Token} → u.node ≡ k → u.value ≡ acting.value → u.binds ≡ acting.binds
      → Idle u.state → Good u
  ahead k l n v b i =
      going (subst (λ j. j < length d.nodes) (sym n) l) (ap held_in_range v ∙ was.value) (subst BindsFit (sym b) was.binds) i

  -- the callee of a definition call
  called-good : (q : Place) (root : ℕ) (ps : List Param) → root < length d.nodes → for_all param_holds ps ≡ true
      → Good (Step.callee q acting root ps)
  unfolding held_in_range
  called-good q root ps ir holds = going ir refl (formals-fit acting.binds ps holds was.binds) Idle.ready

  pub ended : Facts lim d (Step.ended at p)
  unfolding Step.ended Update.put Update.with_tables with_orders is_ready is_waiting is_due
  ended =
      record {
        sizes = sizes-as (length-set m.tokens p blank_token) refl F.sizes;
        queue = queue;
        waits = waits;
        timers = F.timers;
        orders = orders-put begun p blank_token;
        timed = timers-put timed p blank_token;
        lines = lines-gone T blank_token refl refl refl;
        tables = tables-write F.tables p blank_token inside (blank-holds some) Idle.blank;
      }

  -- a second place
  module _ (q : ℕ) (v : Vacant m q) where
    apart : q ≡ p → ⊥
    unfolding is_live
    apart e = clash (ap is_live (taken-ready T)) (ap (λ i. is_live (token_at m.tokens i).state) (sym e) ∙ v.dead)

    still : (u : Token) → token_at (set m.tokens p u) q ≡ token_at m.tokens q
    still u = token-other m.tokens p q u apart

    still-inside : (u : Token) → q < length (set m.tokens p u)
    still-inside u = let z = length-set m.tokens p u in let y = v.inside in omega arith

    both-size : (u w : Token) → length (set (set m.tokens p u) q w) ≡ length m.tokens
    both-size u w = length-set (set m.tokens p u) q w ∙ length-set m.tokens p u

    given : q < lim.token_places
    given = let z = F.sizes.token_places in let y = v.inside in omega arith

    second : (u : Token) {a b c : List ℕ} (w : Token) → w.state ≡ states.Ready → Lines (set m.tokens p u) a b c
        → Lines (set (set m.tokens p u) q w) (a ++ (q ∷ [])) b c
    second u w s l =
        lines_new q w (still-inside u)
        (ap (λ (t : Token). is_ready t.state) (still u) ∙ not-live-ready _ v.dead)
        (ap (λ (t : Token). is_waiting t.state) (still u) ∙ not-live-waiting _ v.dead)
        (ap (λ (t : Token). is_due t.state) (still u) ∙ not-live-due _ v.dead) s l

    both-written : {u w : Token} → Good u → Idle u.state → Good w → Idle w.state
        → Tables d (set (set m.tokens p u) q w) m.cells m.calls m.clock
    both-written {u} {w} a i b j = tables-write (tables-write F.tables p u inside a i) q w (still-inside u) b j

    forked : (l r : ℕ) → l < length d.nodes → r < length d.nodes → Keeps (Step.forked at p acting q l r)
    unfolding After Step.forked Update.enqueue Update.new_token Update.put Update.with_tables with_orders Update.with_counts Update.with_node
    forked l r il ir =
        let s = ready-idle (taken-ready T) in
        record {
          sizes = sizes-new (both-size _ _) refl F.sizes given F.sizes.lastcell;
          queue = (queue ++ (p ∷ [])) ++ (q ∷ []);
          waits = waits;
          timers = F.timers;
          orders = orders-enqueue
              (orders-enqueue (orders-token (orders-put begun p (Update.with_node l acting)) q (Update.with_node r acting)) p) q;
          timed = timers-enqueue
              (timers-enqueue (timers-token (timers-put timed p (Update.with_node l acting)) q (Update.with_node r acting)) p) q;
          lines = second (Update.with_node l acting) (Update.with_node r acting) (taken-ready T)
              (lines-back T (Update.with_node l acting) (taken-ready T));
          tables = both-written (ahead l il refl refl refl s) s (ahead r ir refl refl refl s) s;
        }

    entered : (root : ℕ) (ps : List Param) (k : ℕ) → root < length d.nodes → for_all param_holds ps ≡ true → k < length d.nodes
        → Keeps (Step.entered at p acting q root ps k)
    unfolding
        After Step.entered Update.enqueue Update.new_token Update.put Update.with_tables with_orders Update.with_counts Update.with_node
        Update.with_state
        is_ready is_waiting is_due held_in_range
    entered root ps k ir holds ik =
        record {
          sizes = sizes-new (both-size _ _) refl F.sizes given F.sizes.lastcell;
          queue = queue ++ (q ∷ []);
          waits = waits;
          timers = F.timers;
          orders = orders-enqueue (orders-token (orders-put begun p frame) q (Step.callee (Some p) acting root ps)) q;
          timed = timers-enqueue (timers-token (timers-put timed p frame) q (Step.callee (Some p) acting root ps)) q;
          lines = second frame (Step.callee (Some p) acting root ps) refl (lines-gone T frame refl refl refl);
          tables =
              both-written (ahead k ik refl refl refl Idle.frame) Idle.frame
              (called-good (Some p) root ps ir holds) Idle.ready;
        }
      where
        frame : Token
        frame = Update.with_node k (Update.with_state states.Frame acting)

    split : (c x l r : ℕ) → c < length m.cells → l < length d.nodes → r < length d.nodes → Keeps (Step.split at p acting q c x l r)
    unfolding
        After Step.split Update.enqueue Update.new_token Update.new_cell Update.put Update.with_tables with_orders Update.with_counts
        Update.with_node Update.in_cell Update.with_binding
    split c x l r ic il ir =
        let s = ready-idle (taken-ready T) in
        record {
          sizes = sizes-new (both-size _ _) (length-set m.cells c own) F.sizes given (let z = F.sizes.cell_places in omega arith);
          queue = (queue ++ (p ∷ [])) ++ (q ∷ []);
          waits = waits;
          timers = F.timers;
          orders = orders-enqueue (orders-enqueue (orders-cell (orders-token (orders-put begun p left) q right) c own) p) q;
          timed = timers-enqueue (timers-enqueue (timers-cell (timers-token (timers-put timed p left) q right) c own) p) q;
          lines = second left right (taken-ready T) (lines-back T left (taken-ready T));
          tables =
              tables-cell
              (both-written
              (going il was.value
              (binds-written acting.binds x (slots.Cell c) (λ v e. never cc) was.binds) s)
              s
              (ahead r ir refl refl refl s) s)
              c own ic refl;
        }
      where
        left : Token
        left = Update.with_node l (Update.with_binding x (slots.Cell c) acting)

        right : Token
        right = Update.in_cell c (Update.with_node r acting)

        own : Cell
        own = record { parent = acting.cell; value = None }

  -- site calls
  waited : (c : ℕ) → Awaits d m.cells acting c → Keeps (Step.waited at p acting c)
  unfolding After Step.waited Update.put Update.with_tables with_orders Update.with_state
  waited c b =
      record {
        sizes = sizes-as (length-set m.tokens p u) refl F.sizes;
        queue = queue_of at;
        waits = waits_of at ++ (p ∷ []);
        timers = F.timers;
        orders = orders-with (queue_of at) (waits_of at ++ (p ∷ [])) (Update.put p u at);
        timed = timers-orders (timers-put timed p u) (queue_of at) (waits_of at ++ (p ∷ []));
        lines =
            subst (λ q. Lines (set m.tokens p u) q (waits_of at ++ (p ∷ [])) F.timers) (sym (queue-is begun))
            (subst (λ w. Lines (set m.tokens p u) queue (w ++ (p ∷ [])) F.timers) (sym (waits-are begun)) (lines-wait T u c refl));
        tables =
            tables-wait F.tables p u inside c refl
            (record {
              node = was.node;
              value = was.value;
              binds = was.binds;
              waits = λ a e. subst (Awaits d m.cells u) (let z : c ≡ a = cc in z) (awaits-as refl refl refl b.unset b);
              called = λ h e. never cc;
              due = λ time e. never cc;
            });
      }
    where
      u : Token
      u = Update.with_state (states.Waiting c) acting

  -- "With t = 0 the token joins the back of the queue"; else it is due later
  later : (k : ℕ) → k < length d.nodes → (due : ℕ) → m.clock < due → due ≤ last_time
      → Facts lim d
      (Update.with_timers (timers_of at ++ (p ∷ [])) (Update.put p (Update.with_node k (Update.with_state (states.Due due) acting)) at))
  unfolding Update.put Update.with_tables Update.with_timers with_orders Update.with_node Update.with_state
  later k l due after last =
      record {
        sizes = sizes-as (length-set m.tokens p u) refl F.sizes;
        queue = queue;
        waits = waits;
        timers = timers_of at ++ (p ∷ []);
        orders = orders-timers (orders-put begun p u) (timers_of at ++ (p ∷ []));
        timed = timers-with (timers_of at ++ (p ∷ [])) (Update.put p u at);
        lines = subst (λ l. Lines (set m.tokens p u) queue waits (l ++ (p ∷ []))) (sym (timers-are timed)) (lines-later T u due refl);
        tables =
            tables-later F.tables p u inside due refl
            (record {
              node = l;
              value = was.value;
              binds = was.binds;
              waits = λ c e. never cc;
              called = λ h e. never cc;
              due = λ time e. subst (λ i. (m.clock < i) × (i ≤ last_time)) (let z : due ≡ time = cc in z) (after, last);
            });
      }
    where
      u : Token
      u = Update.with_node k (Update.with_state (states.Due due) acting)

  called_out : (s : ℕ) (vs : List ℤ) (k : ℕ) → m.calls < lim.calls → k < length d.nodes → Keeps (Step.called_out at p acting s vs k)
  unfolding After Step.called_out Update.put Update.with_tables with_orders Update.with_counts Update.with_node Update.with_state is_ready
      is_waiting is_due
  called_out s vs k few l =
      record {
        sizes =
            record {
              token_places = length-set m.tokens p u ∙ F.sizes.token_places;
              cell_places = F.sizes.cell_places;
              calls = omega arith;
              lasttoken = F.sizes.lasttoken;
              lastcell = F.sizes.lastcell;
              clock = F.sizes.clock;
            };
        queue = queue;
        waits = waits;
        timers = F.timers;
        orders = orders-counts (orders-put begun p u) _ _ _;
        timed = timers-counts (timers-put timed p u) _ _ _;
        lines = lines-gone T u refl refl refl;
        tables =
            tables-call F.tables p u inside refl
            (record {
              node = l;
              value = was.value;
              binds = was.binds;
              waits = λ c e. never cc;
              called = λ h e. let z : m.calls ≡ h = cc in omega arith;
              due = λ time e. never cc;
            });
      }
    where
      u : Token
      u = Update.with_node k (Update.with_state (states.Called m.calls) acting)

  chokes : (c : ℕ) → acting.cell ≡ Some c → c < length m.cells → Facts lim d (Step.after_choke c acting.value at)
  unfolding Step.after_choke Update.with_tables Update.with_timers with_orders
  chokes c e i =
      record {
        sizes = sizes-as (length-map m.tokens (choke_token m.cells c)) (length-set m.cells c k) F.sizes;
        queue = ready_of (queue_of at ++ waits_of at);
        waits = waiting_of (waits_of at);
        timers = due_of (timers_of at);
        orders = orders-with _ _ (Update.with_timers (due_of (timers_of at)) tables);
        timed = timers-orders (timers-with (due_of (timers_of at)) tables) _ _;
        lines =
            subst (λ q. Lines ts (ready_of (q ++ waits_of at)) (waiting_of (waits_of at)) (due_of (timers_of at))) (sym (queue-is begun))
            (subst (λ w. Lines ts (ready_of (queue ++ w)) (waiting_of w) (due_of (timers_of at))) (sym (waits-are begun))
            (subst (λ l. Lines ts (ready_of (queue ++ waits)) (waiting_of waits) (due_of l)) (sym (timers-are timed))
            (lines-choke m.tokens m.cells c p queue waits F.timers T
            (ap (within m.cells c) e ∙ own-within m.cells c i))));
        tables = tables-choke F.tables some c k i was.value;
      }
    where
      ts : List Token
      ts = map (choke_token m.cells c) m.tokens

      ready_of : List ℕ → List ℕ
      ready_of l = select (λ (r : ℕ). is_ready (token_at ts r).state) l

      waiting_of : List ℕ → List ℕ
      waiting_of l = select (λ (r : ℕ). is_waiting (token_at ts r).state) l

      due_of : List ℕ → List ℕ
      due_of l = select (λ (r : ℕ). is_due (token_at ts r).state) l

      k : Cell
      k = record { parent = (cell_at m.cells c).parent; value = acting.value }

      tables : Machine
      tables = Update.with_tables ts (set m.cells c k) at

  -- what the node at which the token stands does
  module _ (dag : dag_holds d ≡ true)
      (named : (x c : ℕ) → slot_at acting.binds x ≡ slots.Cell c → c < length m.cells)
      (own : (c : ℕ) → acting.cell ≡ Some c → c < length m.cells)
      (token : has_token_place lim m ≡ true → Vacant m (token_place m))
      (cell : has_cell_place lim m ≡ true → cell_place m < length m.cells) where
    node-inside : (k : ℕ) → is_node d k ≡ true → k < length d.nodes
    unfolding is_node
    node-inside k e = ltb-lt k (length d.nodes) e

    params : (ps : List Param) → params_hold ps ≡ true → for_all param_holds ps ≡ true
    unfolding params_hold
    params ps e = and_right _ _ e

    body : (e : ℕ) → ltb e (length d.bodies) ≡ true → (body_at d e).root < length d.nodes
    unfolding body_holds
    body e l = node-inside (body_at d e).root (and_left _ _ (body-rules d e dag (ltb-lt e (length d.bodies) l)))

    -- the node N, whose rules hold
    module _ (N : Node) (node : node_at d acting.node ≡ N) (holds : node_holds d N ≡ true) where
      rule : {K : Node} → N ≡ K → node_holds d K ≡ true
      rule e = subst (λ K. node_holds d K ≡ true) e holds

      site-holds : {s : ℕ} {ps : List Param} {k : ℕ} → N ≡ Node.site s ps k → (for_all param_holds ps ≡ true) × (k < length d.nodes)
      unfolding node_holds
      site-holds {ps = ps} {k = k} e =
          let h = and_right _ _ (rule e) in (params ps (and_left _ _ h), node-inside k (and_right _ _ h))

      said_fits : {s : ℕ} {ps : List Param} {v : ℤ} → Said at acting s ps v → for_all param_holds ps ≡ true → Signed32 v
      unfolding with_orders
      said_fits {s} {ps} (Said.given l b) h =
          gives-signed
          (subst ReplyFits b
          (builtin-fits s (found-signed (subst LookUpFits l (look-fits m.cells acting.binds was.binds F.tables.cells ps h)))))
      said_fits Said.at_once h = zero-fits

      anew : {u : Token} → Anew d at acting N u → Good u × (u.state ≡ states.Ready)
      unfolding node_holds held_in_range with_orders Update.with_node Update.with_binding Update.with_value Update.with_state
      anew (Anew.assigned {x = x} {k = k} e) = (
        going (node-inside k (and_right _ _ (rule e))) was.value
            (binds-written acting.binds x _
            (λ v f. subst Signed32 (let z : Step.value_of acting.value ≡ v = cc in z) (held_fits acting.value was.value)) was.binds)
            (ready-idle (taken-ready T)),
        taken-ready T,
      )
      anew (Anew.removed {x = x} {k = k} e) = (
        going (node-inside k (and_right _ _ (rule e))) was.value
            (binds-written acting.binds x _ (λ v f. never cc) was.binds) (ready-idle (taken-ready T)),
        taken-ready T,
      )
      anew (Anew.replied e v) = (
        going (site-holds e).1 (said_fits v (site-holds e).0) was.binds (ready-idle (taken-ready T)),
        taken-ready T,
      )
      anew (Anew.became {e = f} {ps = ps} e i) = (
        called-good acting.caller _ ps (body f (and_left _ _ (rule e))) (params ps (and_left _ _ (and_right _ _ (rule e)))),
        refl,
      )
      anew (Anew.back {f = f} e i) = let fr = F.tables.tokens f in (going fr.node was.value fr.binds Idle.ready, refl)

      does-keeps : {e : Effect} → Does lim d m at p acting N e → Keeps e
      unfolding After node_holds with_orders
      does-keeps (Does.refused r) = tt
      does-keeps Does.ends = ended
      does-keeps Does.publishes = ended
      does-keeps (Does.goes_on a) = goes_on_lem _ (anew a).0 (anew a).1
      does-keeps (Does.waits {s = s} {ps = ps} {k = k} {c = c} e i) =
          let x = look-unset m.cells acting.binds ps c i in
          waited c
          (record {
            site = s;
            params = ps;
            next = k;
            name = x.0;
            node = node ∙ e;
            asked = x.1;
            bound = x.2;
            inside = named x.0 c x.2;
            unset = x.3;
          })
      does-keeps (Does.due_later {k = k} {due = due} time e i l) = later k (site-holds e).1 due l (due-last m.clock time due i)
      does-keeps (Does.calls_out {s = s} {k = k} {vs = vs} e i l) = called_out s vs k l (site-holds e).1
      does-keeps (Does.forks {l = l} {r = r} e t) =
          forked _ (token t) l r (node-inside l (and_left _ _ (rule e))) (node-inside r (and_right _ _ (rule e)))
      does-keeps (Does.enters {e = f} {ps = ps} {k = k} e i t) =
          let h = and_right _ _ (rule e) in
          entered _ (token t) _ ps k (body f (and_left _ _ (rule e))) (params ps (and_left _ _ h)) (node-inside k (and_right _ _ h))
      does-keeps (Does.splits {x = x} {l = l} {r = r} e t c) =
          let h = and_right _ _ (rule e) in
          split _ (token t) _ x l r (cell c) (node-inside l (and_left _ _ h)) (node-inside r (and_right _ _ h))
      does-keeps (Does.chokes {c = c} e i) = chokes c i (own c i)

      pub acted : Keeps (act lim d m at p acting N)
      acted = does-keeps (act-does lim d m at p acting N)
