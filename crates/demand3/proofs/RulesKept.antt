-- A record that is seen, has the facts and is blank where it is not in use keeps the index rules, one by one: places named are in range
-- because they are seen, parent chains end because they are seen as lists, and the rules at the nodes are what the labels of the flow say.
-- Assumes nothing.
use mathlib.Core.Path.{◌≡◌, refl, sym, ◌∙◌, ap, subst}
use mathlib.Core.Logic.{◌⊎◌, inl, inr}
use mathlib.Core.Bool.{Bool, true, false, not}
use mathlib.Core.List.Memᴰ
use mathlib.Core.List.{List, [], ◌∷◌, ◌++◌}
use Prim.Native.Nat.{ℕ, zero, suc, ◌<◌, ◌≤◌}
use native.Mathlib.Decide.{ℕ_discrete}
use native.Mathlib.Omega.{arith}
use lib.ListN.{length, get_or, length-append}
use lib.Dec.{eqb}
use lib.IntN.{ℤ}
use Rattle.std.specs.Prelude.{None}
use Rattle.job.specs.Test.{◌and◌, ◌or◌, for_all, for_some, All, none, more, distinct}
use Rattle.job.specs.Number.{fits}
use Rattle.job.specs.Site.{last_time}
use Rattle.job.specs.Syntax.{Param}
use Rattle.job.specs.Node.{Node, Dag, node_at, is_node, dag_holds}
use Rattle.job.specs.WellFormed.{GoodParam}
use Rattle.model.specs.Machine.Limits.{Limits}
use Rattle.model.specs.Machine.Blank.{empty, blank_token, blank_cell, token_at, cell_at, slot_at, is_bound, has_value, is_place}
use Rattle.model.specs.Machine.State.{is_blank_state, is_live, is_ready, is_frame, handle_of}
use Rattle.model.specs.Machine.Active.{cell_is_set, under_set}
use Rattle.model.specs.Machine.InUse.{tokens_used, cells_used}
use Rattle.model.specs.Machine.Rules.{held_in_range, place_in_range, slot_in_range, state_in_range}
use Rattle.model.specs.Machine.Rules.{token_in_range, cell_in_range, sizes_in_range}
use Rattle.model.specs.Machine.Rules.{chain_ends, chains_end, not_under_set, open_handles, waits_at_unset, names_frame}
use Rattle.model.specs.Machine.Rules.{not_empty, value_if_ready, node_rule, at_node, due_in_range, clock_holds, machine_holds, rules_hold}
use Rattle.model.specs.declared.token.Slot.{Slot}
use Rattle.model.specs.declared.token.Slot.TheVariants as slots
use Rattle.model.specs.Machine.Held.{Held, Place}
use Rattle.model.specs.declared.token.State.{State}
use Rattle.model.specs.declared.token.State.TheVariants as states
use Rattle.model.specs.declared.token.Token.{Token}
use Rattle.model.specs.declared.cell.Cell.{Cell}
use Rattle.model.specs.declared.record.Machine.{Machine}
use Rattle.model.proofs.Machine.Rules.{ready-live}
use Rattle.job.proofs.Test.{never, clash, false_of, eqb-eq, eq-eqb, lt-ltb, le-leb, and_both, all-from}
use Rattle.simulation.proofs.AbstractMachine as Abstract
use Rattle.simulation.proofs.AbstractMachine.{Binding, Frame, Store}
use Rattle.simulation.proofs.Store.{◌not-in◌}
use Rattle.lockstep.proofs.Labels.{Labels, Flow, FlowAt}
use Rattle.lockstep.proofs.View.{World, cells_of_caller, has_caller, Nested, absent, present, StateSeen, ready, waiting}
use Rattle.lockstep.proofs.View.{called, due, CellsSeen, root, below, BindingSeen, valued, celled, BindingsSeen, binds}
use Rattle.lockstep.proofs.View.{SlotsSeen, FramesSeen, outermost, called_by, PlaceSeen, TokenSeen, sees}
use Rattle.lockstep.proofs.Seen.{Core, world, not-under-set, token-at, live-listed}
use Rattle.lockstep.proofs.Slots.{variable-seen}
use Rattle.demand3.proofs.UsedSeen.{Standing, standing, Named, named, used-stands, used-named}
use Rattle.lockstep.proofs.WithinSeen.{chain-short}
use Rattle.model.proofs.Keeps.Orders.{queue-names, waits-name, timers-name}
use Rattle.model.proofs.Keeps.TableFacts.{BindsFit, TokenHolds}
use Rattle.model.proofs.Keeps.Facts.{Facts}
use Rattle.model.proofs.Keeps.Clean.{Clean, clean-tokens, clean-cells}

-- "open handles differ"
handle-there : (h : ℕ) (ts : List Token) → for_some (eqb h) (open_handles ts) ≡ true
    → (q : ℕ) × ((get_or ts q blank_token).state ≡ states.Called h)
unfolding for_some open_handles handle_of ◌or◌
handle-there h [] e = clash e refl
handle-there h (t ∷ ts) e = go t.state refl e (λ x. let y = handle-there h ts x in (suc y.0, y.1))
  where
    Found : Type 0
    Found = (q : ℕ) × ((get_or (t ∷ ts) q blank_token).state ≡ states.Called h)

    here : (g : ℕ) (b : Bool) → t.state ≡ states.Called g → eqb h g ≡ b → (b or for_some (eqb h) (open_handles ts)) ≡ true
        → (for_some (eqb h) (open_handles ts) ≡ true → Found) → Found
    here g true s e x f = (0, s ∙ ap states.Called (sym (eqb-eq h g e)))
    here g false s e x f = f x

    go : (s : State) → t.state ≡ s → for_some (eqb h) (handle_of s ++ open_handles ts) ≡ true
        → (for_some (eqb h) (open_handles ts) ≡ true → Found)
        → Found
    go states.Blank s x f = f x
    go states.Ready s x f = f x
    go (states.Waiting c) s x f = f x
    go (states.Called g) s x f = here g (eqb h g) s refl x f
    go (states.Due d) s x f = f x
    go states.Frame s x f = f x

handles-differ : (ts : List Token)
    → ((p q h : ℕ) → (get_or ts p blank_token).state ≡ states.Called h → (get_or ts q blank_token).state ≡ states.Called h → p ≡ q)
    → distinct (open_handles ts) ≡ true
unfolding distinct open_handles handle_of
handles-differ [] f = refl
handles-differ (t ∷ ts) f = go t.state refl
    (handles-differ ts (λ p q h a b. let z : suc p ≡ suc q = f (suc p) (suc q) h a b in omega arith))
  where
    go : (s : State) → t.state ≡ s → distinct (open_handles ts) ≡ true → distinct (handle_of s ++ open_handles ts) ≡ true
    go states.Blank s x = x
    go states.Ready s x = x
    go (states.Waiting c) s x = x
    go (states.Called h) s x =
        and_both (ap not
        (false_of _ (λ a. let y = handle-there h ts a in let z : 0 ≡ suc y.0 = f 0 (suc y.0) h s y.1 in omega arith))) x
    go (states.Due d) s x = x
    go states.Frame s x = x

-- ranges, of what is seen
slot-range : (n : ℕ) (s : Slot) → ((v : ℤ) → s ≡ slots.Value v → fits v ≡ true) → ((c : ℕ) → s ≡ slots.Cell c → c < n)
    → slot_in_range n s ≡ true
unfolding slot_in_range
slot-range n slots.Empty f g = refl
slot-range n (slots.Value v) f g = f v refl
slot-range n (slots.Cell c) f g = lt-ltb _ _ (g c refl)

module _ {W : World} where
  pub cells-range : {q : Place} {U : List ℕ} → CellsSeen W q U → place_in_range (length W.cells) q ≡ true
  unfolding place_in_range
  cells-range root = refl
  cells-range (below s v) = lt-ltb _ _ s.inside

  caller-range : {M : Labels} {q : Place} {F : List Frame} → FramesSeen W M q F → place_in_range (length W.tokens) q ≡ true
  unfolding place_in_range
  caller-range outermost = refl
  caller-range (called_by l i s k b f u o) = lt-ltb _ _ l

  binding-inside : {s : Slot} {b : Binding} (c : ℕ) → s ≡ slots.Cell c → BindingSeen W s b → c < length W.cells
  binding-inside c e valued = never cc
  binding-inside c e (celled {c = b} (below s v)) = subst (λ i. i < length W.cells) (let z : b ≡ c = cc in z) s.inside

  -- a bound cell is that of a variable in scope
  bound-inside : {bs : List Slot} {scope : List ℕ} {B : List Binding} (x c : ℕ) → slot_at bs x ≡ slots.Cell c
      → BindingsSeen W bs scope B → (x not-in scope) ⊎ (c < length W.cells)
  bound-inside x c e BindingsSeen.nothing = inl Memᴰ.not-nil
  bound-inside {bs} x c e (binds {x = y} {scope = scope} v r) = go (ℕ_discrete x y) (bound-inside x c e r)
    where
      neither : (x ≡ y → ⊥) → x not-in scope → x not-in (y ∷ scope)
      neither n f (Memᴰ.head e) = n e
      neither n f (Memᴰ.tail m) = f m

      go : Dec (x ≡ y) → (x not-in scope) ⊎ (c < length W.cells) → (x not-in (y ∷ scope)) ⊎ (c < length W.cells)
      go (yes f) i = inr (binding-inside c (ap (slot_at bs) (sym f) ∙ e) v)
      go (no n) (inl f) = inl (neither n f)
      go (no n) (inr l) = inr l

  pub slot-inside : {bs : List Slot} {scope : List ℕ} {B : List Binding} → SlotsSeen W bs scope B
      → (x c : ℕ) → slot_at bs x ≡ slots.Cell c → c < length W.cells
  slot-inside {scope = scope} s x c e = go (bound-inside x c e s.views)
    where
      go : (x not-in scope) ⊎ (c < length W.cells) → c < length W.cells
      go (inl f) = let i : slots.Empty ≡ slots.Cell c = sym (s.rest x f) ∙ e in never cc
      go (inr l) = l

  binds-range : {bs : List Slot} {scope : List ℕ} {B : List Binding} → SlotsSeen W bs scope B → BindsFit bs
      → for_all (slot_in_range (length W.cells)) bs ≡ true
  unfolding slot_at
  binds-range {bs} s f = all-from _ bs empty (λ x l. slot-range _ _ (f x) (slot-inside s x))

state-range : (cells calls : ℕ) (s : State) → ((c : ℕ) → s ≡ states.Waiting c → c < cells) → ((h : ℕ) → s ≡ states.Called h → h < calls)
    → state_in_range cells calls s ≡ true
unfolding state_in_range
state-range cells calls states.Blank a b = refl
state-range cells calls states.Ready a b = refl
state-range cells calls (states.Waiting c) a b = lt-ltb _ _ (a c refl)
state-range cells calls (states.Called h) a b = lt-ltb _ _ (b h refl)
state-range cells calls (states.Due d) a b = refl
state-range cells calls states.Frame a b = refl

-- "a due time not above it or past 2147483647"
due-range : (clock : ℕ) (s : State) → ((time : ℕ) → s ≡ states.Due time → (clock < time) × (time ≤ last_time)) → due_in_range clock s ≡ true
unfolding due_in_range
due-range clock states.Blank f = refl
due-range clock states.Ready f = refl
due-range clock (states.Waiting c) f = refl
due-range clock (states.Called h) f = refl
due-range clock (states.Due d) f = and_both (lt-ltb _ _ (f d refl).0) (le-leb _ _ (f d refl).1)
due-range clock states.Frame f = refl

-- "each parent chain ends"
chain-ends : {W : World} (n : ℕ) {q : Place} {U : List ℕ} → CellsSeen W q U → length U ≤ n → chain_ends W.cells n q ≡ true
unfolding chain_ends is_place
chain-ends zero root l = refl
chain-ends zero (below s v) l = absurd (omega arith)
chain-ends (suc n) root l = refl
chain-ends (suc n) (below s v) l = chain-ends n v (omega arith)

-- the rules at the nodes
module _ (d : Dag) (M : Labels) (W : World) where
  slot-bound : {s : Slot} {b : Binding} → BindingSeen W s b → is_bound s ≡ true
  unfolding is_bound
  slot-bound valued = refl
  slot-bound (celled v) = refl

  params-bound : {bs : List Slot} {scope : List ℕ} {B : List Binding} {ps : List Param} → BindingsSeen W bs scope B
      → All (GoodParam scope) ps
      → for_all (not_empty bs) ps ≡ true
  unfolding for_all not_empty ◌and◌
  params-bound v none = refl
  params-bound v (more (GoodParam.variable {x = x} m) r) = and_both (slot-bound (variable-seen x m v)) (params-bound v r)
  params-bound v (more (GoodParam.constant f) r) = params-bound v r

  names-frame : {q : Place} {F : List Frame} → FramesSeen W M q F → has_caller F ≡ true → names_frame W.tokens q ≡ true
  unfolding names_frame is_frame
  names-frame outermost e = clash e refl
  names-frame (called_by l i s k b f u o) e = ap (λ (t : Token). is_frame t.state) i ∙ ap is_frame s

  has-cell : {q : Place} {U : List ℕ} → CellsSeen W q U → 0 < length U → is_place q ≡ true
  unfolding is_place
  has-cell root l = absurd (omega arith)
  has-cell (below s v) l = refl

  under_some : {n : ℕ} {U : List ℕ} {F : List Frame} → Nested M n U F → 1 ≤ M.nest n → 0 < length U
  under_some {n} {U} {F} o l =
      subst (λ U. 0 < length U) (sym o.parts) (let z = length-append o.own (cells_of_caller F) in let y = o.size in omega arith)

  node-rule : (t : Token) {n : ℕ} {B : List Binding} {F : List Frame} {U : List ℕ} → PlaceSeen W M t n B F U
      → (M.value n ≡ true → value_if_ready t ≡ true) → {N : Node} → FlowAt d M n N → node_rule W.tokens t N ≡ true
  unfolding node_rule
  node-rule t v h FlowAt.stop = refl
  node-rule t v h (FlowAt.site e good f) = params-bound v.binds.views good
  node-rule t v h (FlowAt.call e good f x) = params-bound v.binds.views good
  node-rule t v h (FlowAt.fork a b f g) = refl
  node-rule t v h (FlowAt.assign e l x f) = h e
  node-rule t v h (FlowAt.remove e l s x f) = h e
  node-rule t v h (FlowAt.where' a b l x f g) = refl
  node-rule t v h (FlowAt.choke e l) = and_both (has-cell v.cell (under_some v.nested l)) (h e)
  node-rule t v h (FlowAt.return e z b) = and_both (names-frame v.caller (sym v.nested.body ∙ b)) (h e)
  node-rule t v h (FlowAt.publish e) = h e

value_there : {M : Labels} {n : ℕ} {K : Abstract.Place} {s : State} {w : Held} {x : Abstract.Token} → M.value n ≡ true
    → StateSeen M n K s w x
    → (not (is_ready s) or has_value w) ≡ true
unfolding is_ready has_value ◌or◌
value_there e (ready (absent f)) = clash e f
value_there e (ready present) = refl
value_there e (waiting f v) = refl
value_there e called = refl
value_there e due = refl

unset-if : (k : Cell) → k.value ≡ None → cell_is_set k ≡ false
unfolding cell_is_set has_value
unset-if k e = ap has_value e

module _ (lim : Limits) (d : Dag) (M : Labels) (flow : Flow d M) (dag : dag_holds d ≡ true) (some : 0 < length d.nodes)
    (m : Machine) (X : Facts lim d m) (clean : Clean m) {name place : ℕ → ℕ} {σ : Store} {new : ℕ} {A : List ℕ} {S : List Abstract.Token}
    (K : Core M (world m.tokens m.cells name place σ new) A S) where
  abbrev W : World
  W = world m.tokens m.cells name place σ new

  abbrev tok : ℕ → Token
  tok p = token_at m.tokens p

  abbrev good : (p : ℕ) → TokenHolds d m.cells m.calls m.clock (tok p)
  good p = X.tables.tokens p

  -- a test of each token: it is in use and so stands somewhere, or it is blank
  each-token : (test : Token → Bool) → test blank_token ≡ true → ((p : ℕ) → Standing M W p → test (tok p) ≡ true)
      → for_all test m.tokens ≡ true
  unfolding token_at
  each-token test e h = all-from test m.tokens blank_token (λ p l. go p l (get_or (tokens_used m) p true) refl)
    where
      go : (p : ℕ) → p < length m.tokens → (b : Bool) → get_or (tokens_used m) p true ≡ b → test (get_or m.tokens p blank_token) ≡ true
      go p l true u = h p (used-stands M W K p l u)
      go p l false u = ap test (clean.tokens p u) ∙ e

  each-cell : (test : Cell → Bool) → test blank_cell ≡ true → ((c : ℕ) → Named M W c → test (cell_at m.cells c) ≡ true)
      → for_all test m.cells ≡ true
  unfolding cell_at
  each-cell test e h = all-from test m.cells blank_cell (λ c l. go c l (get_or (cells_used m) c true) refl)
    where
      go : (c : ℕ) → c < length m.cells → (b : Bool) → get_or (cells_used m) c true ≡ b → test (get_or m.cells c blank_cell) ≡ true
      go c l true u = h c (used-named M W K c l u)
      go c l false u = ap test (clean.cells c u) ∙ e

  token-range : (p : ℕ) → Standing M W p → token_in_range lim d m.calls (tok p) ≡ true
  unfolding token_in_range is_node
  token-range p (standing l b v) =
      subst (λ n. ranges n lim.token_places ≡ true) X.sizes.cell_places
      (subst (λ n. ranges (length m.cells) n ≡ true) X.sizes.token_places
      (and_both (lt-ltb _ _ (good p).node)
      (and_both (eq-eqb _ _ v.binds.size)
      (and_both (binds-range v.binds (good p).binds)
      (and_both (good p).value
      (and_both (caller-range v.caller)
      (and_both (cells-range v.cell)
      (state-range (length m.cells) m.calls (tok p).state (λ c e. ((good p).waits c e).inside) (good p).called))))))))
    where
      ranges : ℕ → ℕ → Bool
      ranges c t = unfold is_node in
          is_node d (tok p).node
          and eqb (length (tok p).binds) 8
          and for_all (slot_in_range c) (tok p).binds
          and held_in_range (tok p).value
          and place_in_range t (tok p).caller
          and place_in_range c (tok p).cell
          and state_in_range c m.calls (tok p).state

  blank-range : token_in_range lim d m.calls blank_token ≡ true
  unfolding token_in_range is_node slot_in_range held_in_range place_in_range state_in_range for_all ◌and◌
  blank-range = rw (lt-ltb 0 (length d.nodes) some) refl

  cell-range : (c : ℕ) → Named M W c → cell_in_range lim (cell_at m.cells c) ≡ true
  unfolding cell_in_range
  cell-range c (named (below s v)) =
      and_both (subst (λ n. place_in_range n (cell_at m.cells c).parent ≡ true) X.sizes.cell_places (cells-range v)) (X.tables.cells c)

  blank-cell-range : cell_in_range lim blank_cell ≡ true
  unfolding cell_in_range place_in_range held_in_range ◌and◌
  blank-cell-range = refl

  sizes : sizes_in_range lim m ≡ true
  unfolding sizes_in_range
  sizes =
      and_both (eq-eqb _ _ X.sizes.token_places)
      (and_both (eq-eqb _ _ X.sizes.cell_places)
      (and_both (le-leb _ _ X.sizes.calls) (and_both (lt-ltb _ _ X.sizes.lasttoken) (lt-ltb _ _ X.sizes.lastcell))))

  chain : (c : ℕ) → Named M W c → chain_ends m.cells (length m.cells) (cell_at m.cells c).parent ≡ true
  chain c (named (below s v)) = chain-ends (length m.cells) v (chain-short v)

  blank-chain : chain_ends m.cells (length m.cells) blank_cell.parent ≡ true
  unfolding chain_ends is_place
  blank-chain = go (length m.cells)
    where
      go : (n : ℕ) → chain_ends m.cells n None ≡ true
      go zero = refl
      go (suc n) = refl

  token-seen : (p : ℕ) → is_live (tok p).state ≡ true → (x : Abstract.Token) × TokenSeen W M (tok p) x
  token-seen p e = token-at p (live-listed p K e) K.seen

  not-under : (p : ℕ) → not_under_set m.cells (tok p) ≡ true
  unfolding not_under_set
  not-under p = go (is_live (tok p).state) refl
    where
      clear : {x : Abstract.Token} → TokenSeen W M (tok p) x → under_set m.cells (tok p).cell ≡ false
      clear (sees v un s) = not-under-set un v.cell

      go : (b : Bool) → is_live (tok p).state ≡ b
          → elim b as (λ b. Bool) [ true ↦ not (under_set m.cells (tok p).cell) | false ↦ true ] ≡ true
      go true e = ap not (clear (token-seen p e).1)
      go false e = refl

  at-unset : (p : ℕ) → waits_at_unset m.cells (tok p).state ≡ true
  unfolding waits_at_unset
  at-unset p = go (tok p).state refl
    where
      go : (s : State) → (tok p).state ≡ s → waits_at_unset m.cells s ≡ true
      go states.Blank e = refl
      go states.Ready e = refl
      go (states.Waiting c) e = ap not (unset-if (cell_at m.cells c) ((good p).waits c e).unset)
      go (states.Called h) e = refl
      go (states.Due d) e = refl
      go states.Frame e = refl

  -- "a clock outside its range, a due time not above it or past 2147483647, or an order of call that names such tokens other than
  -- once each"
  clock-holds : clock_holds m ≡ true
  unfolding clock_holds token_at
  clock-holds =
      and_both (le-leb _ _ X.sizes.clock)
      (and_both (all-from (λ (t : Token). due_in_range m.clock t.state) m.tokens blank_token (λ p l. due-range _ _ (good p).due))
      (timers-name X.timed X.lines.due))

  has-value : (p n : ℕ) → (tok p).node ≡ n → M.value n ≡ true → value_if_ready (tok p) ≡ true
  unfolding value_if_ready ◌or◌
  has-value p n e v = go (is_ready (tok p).state) refl
    where
      seen : {x : Abstract.Token} → TokenSeen W M (tok p) x → (not (is_ready (tok p).state) or has_value (tok p).value) ≡ true
      seen (sees {n = k} w un s) = value_there {n = k} (ap M.value (sym w.node ∙ e) ∙ v) s

      go : (b : Bool) → is_ready (tok p).state ≡ b → (not (is_ready (tok p).state) or has_value (tok p).value) ≡ true
      go true r = seen (token-seen p (ready-live _ r)).1
      go false r = rw r refl

  at-node : (p : ℕ) → Standing M W p → at_node d m.tokens (tok p) ≡ true
  unfolding at_node
  at-node p (standing {n = n} l b v) = go (is_blank_state (tok p).state)
    where
      rule : node_rule m.tokens (tok p) (node_at d (tok p).node) ≡ true
      rule =
          node-rule d M W (tok p) v (has-value p n v.node)
          (subst (λ i. FlowAt d M i (node_at d (tok p).node)) v.node (flow.at (tok p).node (good p).node))

      go : (b : Bool) → elim b as (λ b. Bool) [ true ↦ true | false ↦ node_rule m.tokens (tok p) (node_at d (tok p).node) ] ≡ true
      go true = refl
      go false = rule

  blank-node : at_node d m.tokens blank_token ≡ true
  unfolding at_node is_blank_state
  blank-node = refl

  pub rules-hold : rules_hold lim d m ≡ true
  unfolding rules_hold machine_holds chains_end token_at
  rules-hold =
      and_both dag
      (and_both sizes
      (and_both (each-token (token_in_range lim d m.calls) blank-range token-range)
      (and_both (each-cell (cell_in_range lim) blank-cell-range cell-range)
      (and_both (queue-names X.orders X.lines)
      (and_both (each-cell (λ (c : Cell). chain_ends m.cells (length m.cells) c.parent) blank-chain chain)
      (and_both (all-from (not_under_set m.cells) m.tokens blank_token (λ p l. not-under p))
      (and_both (handles-differ m.tokens X.tables.apart)
      (and_both (waits-name X.orders X.lines)
      (and_both (all-from (λ (t : Token). waits_at_unset m.cells t.state) m.tokens blank_token (λ p l. at-unset p))
      (and_both (each-token (at_node d m.tokens) blank-node at-node)
      (and_both (clean-tokens m clean) (and_both (clean-cells m clean) clock-holds))))))))))))
