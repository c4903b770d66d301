-- Document 01: the index rules, in the order of their sentence. Assumes nothing: these are definitions.
use Rattle.std.specs.Prelude.{Bool, true, false, not, List, [], ◌∷◌, ◌++◌, ℕ, zero, suc, length, take, drop, ltb, leb, eqb, Some, None}
use Rattle.job.specs.Bounds.{scope_limit}
use Rattle.job.specs.Test.{◌and◌, ◌or◌, for_all, all_from, occurrences, once, distinct}
use Rattle.job.specs.Number.{fits}
use Rattle.job.specs.Site.{last_time}
use Rattle.job.specs.Syntax.{Param, variable, constant}
use Rattle.job.specs.Node.{Node, Dag, node_at, is_node, dag_holds}
use Rattle.model.specs.Machine.Limits.{Limits}
use Rattle.model.specs.Machine.Blank.{token_at, cell_at, slot_at, is_bound, has_value, is_place, token_is_blank, cell_is_blank}
use Rattle.model.specs.Machine.State.{is_blank_state, is_ready, is_waiting, is_frame, is_due, is_live, handle_of}
use Rattle.model.specs.Machine.Active.{cell_is_set, under_set}
use Rattle.model.specs.Machine.InUse.{tokens_used, used_cells}
use Rattle.model.specs.declared.token.Slot.{Slot}
use Rattle.model.specs.declared.token.Slot.TheVariants as slots
use Rattle.model.specs.Machine.Held.{Held, Place}
use Rattle.model.specs.declared.token.State.{State}
use Rattle.model.specs.declared.token.State.TheVariants as states
use Rattle.model.specs.declared.token.Token.{Token}
use Rattle.model.specs.declared.cell.Cell.{Cell}
use Rattle.model.specs.declared.record.Machine.{Machine}

-- "nodes, slots, tokens and cells named lie in their ranges"; "every value is signed 32-bit"
unfoldable pub held_in_range : Held → Bool
held_in_range None = true
held_in_range (Some v) = fits v

unfoldable pub place_in_range : ℕ → Place → Bool
place_in_range n None = true
place_in_range n (Some p) = ltb p n

unfoldable pub slot_in_range : ℕ → Slot → Bool
slot_in_range cells slots.Empty = true
slot_in_range cells (slots.Value v) = fits v
slot_in_range cells (slots.Cell c) = ltb c cells

-- "open handles .. are below the call count"; a waiting token's cell is a cell named
unfoldable pub state_in_range : (cells calls : ℕ) → State → Bool
state_in_range cells calls states.Blank = true
state_in_range cells calls states.Ready = true
state_in_range cells calls (states.Waiting c) = ltb c cells
state_in_range cells calls (states.Called h) = ltb h calls
state_in_range cells calls (states.Due d) = true
state_in_range cells calls states.Frame = true

unfoldable pub token_in_range : Limits → Dag → (calls : ℕ) → Token → Bool
token_in_range lim d calls t =
    is_node d t.node
    and eqb (length t.binds) scope_limit
    and for_all (slot_in_range lim.cell_places) t.binds
    and held_in_range t.value
    and place_in_range lim.token_places t.caller
    and place_in_range lim.cell_places t.cell
    and state_in_range lim.cell_places calls t.state

unfoldable pub cell_in_range : Limits → Cell → Bool
cell_in_range lim c = place_in_range lim.cell_places c.parent and held_in_range c.value

-- the fields that the representation adds: docs/DECISIONS.md, "Fields and their ranges"
unfoldable pub sizes_in_range : Limits → Machine → Bool
sizes_in_range lim m =
    eqb (length m.tokens) lim.token_places
    and eqb (length m.cells) lim.cell_places
    and leb m.calls lim.calls
    and ltb m.lasttoken lim.token_places
    and ltb m.lastcell lim.cell_places

-- "the queue names each ready token once and nothing else"; "the wait order names each waiting token once".
-- An order is the first n numbers of its array; what stands behind them is 0
unfoldable pub names_once : (State → Bool) → List Token → List ℕ → ℕ → Bool
names_once of ts array n =
    let order = take n array in
    eqb (length array) (length ts)
    and leb n (length array)
    and for_all (λ (p : ℕ). ltb p (length ts)) order
    and all_from (λ p (t : Token). eqb (occurrences p order) (once (of t.state))) 0 ts
    and for_all (eqb 0) (drop n array)

-- "each parent chain ends": within as many links as there are cells
unfoldable pub chain_ends : List Cell → ℕ → Place → Bool
chain_ends cs zero q = not (is_place q)
chain_ends cs (suc n) q = elim q [ None ↦ true | Some c ↦ chain_ends cs n (cell_at cs c).parent ]

unfoldable pub chains_end : List Cell → Bool
chains_end cs = for_all (λ (c : Cell). chain_ends cs (length cs) c.parent) cs

-- "no ready, waiting or called-out token is under a set cell"; document 02, request 1: nor one due later
unfoldable pub not_under_set : List Cell → Token → Bool
not_under_set cs t = elim (is_live t.state) [ true ↦ not (under_set cs t.cell) | false ↦ true ]

-- document 01: open handles. Those of all tokens that are called out
unfoldable pub open_handles : List Token → List ℕ
open_handles [] = []
open_handles (t ∷ ts) = handle_of t.state ++ open_handles ts

-- ".. at an unset cell"
unfoldable pub waits_at_unset : List Cell → State → Bool
waits_at_unset cs states.Blank = true
waits_at_unset cs states.Ready = true
waits_at_unset cs (states.Waiting c) = not (cell_is_set (cell_at cs c))
waits_at_unset cs (states.Called h) = true
waits_at_unset cs (states.Due d) = true
waits_at_unset cs states.Frame = true

-- "a token at return names a frame, at choke a cell, at a call no empty variable"
unfoldable pub names_frame : List Token → Place → Bool
names_frame ts None = false
names_frame ts (Some p) = is_frame (token_at ts p).state

unfoldable pub not_empty : List Slot → Param → Bool
not_empty bs (variable x) = is_bound (slot_at bs x)
not_empty bs (constant v) = true

-- "a ready token at assign, remove, return, choke or publish has a value"
unfoldable pub value_if_ready : Token → Bool
value_if_ready t = not (is_ready t.state) or has_value t.value

unfoldable pub node_rule : List Token → Token → Node → Bool
node_rule ts t Node.stop = true
node_rule ts t (Node.site s ps k) = for_all (not_empty t.binds) ps
node_rule ts t (Node.call e ps k) = for_all (not_empty t.binds) ps
node_rule ts t (Node.fork l r) = true
node_rule ts t (Node.assign x k) = value_if_ready t
node_rule ts t (Node.remove x k) = value_if_ready t
node_rule ts t (Node.where' x l r) = true
node_rule ts t Node.choke = is_place t.cell and value_if_ready t
node_rule ts t Node.return = names_frame ts t.caller and value_if_ready t
node_rule ts t Node.publish = value_if_ready t
-- the dag's own rules leave no such node: it is 14 there
node_rule ts t Node.unknown = true

-- a blank token is at no node
unfoldable pub at_node : Dag → List Token → Token → Bool
at_node d ts t = elim (is_blank_state t.state) [ true ↦ true | false ↦ node_rule ts t (node_at d t.node) ]

-- "what is not in use is blank"
unfoldable pub rest_is_blank : {A : Type 0} → (A → Bool) → List Bool → List A → Bool
rest_is_blank is_blank marks [] = true
rest_is_blank is_blank [] (x ∷ xs) = is_blank x and rest_is_blank is_blank [] xs
rest_is_blank is_blank (true ∷ marks) (x ∷ xs) = rest_is_blank is_blank marks xs
rest_is_blank is_blank (false ∷ marks) (x ∷ xs) = is_blank x and rest_is_blank is_blank marks xs

-- document 02, request 1: "a due time not above it or past 2147483647"
unfoldable pub due_in_range : (clock : ℕ) → State → Bool
due_in_range clock states.Blank = true
due_in_range clock states.Ready = true
due_in_range clock (states.Waiting c) = true
due_in_range clock (states.Called h) = true
due_in_range clock (states.Due d) = ltb clock d and leb d last_time
due_in_range clock states.Frame = true

-- document 02, request 1: "14 also: [a token due later] under a set cell" (that one is `not_under_set`), ..
unfoldable pub clock_holds : Machine → Bool
clock_holds m =
    -- ".. a clock outside its range, .."
    leb m.clock last_time
    -- ".. a due time not above it or past 2147483647, .."
    and for_all (λ (t : Token). due_in_range m.clock t.state) m.tokens
    -- ".. or an order of call that names such tokens other than once each"
    and names_once is_due m.tokens m.timers m.timed

unfoldable pub machine_holds : Limits → Dag → Machine → Bool
machine_holds lim d m =
    let used = tokens_used m in
    -- "kinds, sites, counts, nodes, slots, tokens and cells named lie in their ranges"
    sizes_in_range lim m
    and for_all (token_in_range lim d m.calls) m.tokens
    and for_all (cell_in_range lim) m.cells
    -- "the queue names each ready token once and nothing else"
    and names_once is_ready m.tokens m.queue m.queued
    -- "each parent chain ends"
    and chains_end m.cells
    -- "no ready, waiting or called-out token is under a set cell", nor a token due later
    and for_all (not_under_set m.cells) m.tokens
    -- "open handles differ and are below the call count" (the second is among the ranges)
    and distinct (open_handles m.tokens)
    -- "the wait order names each waiting token once, at an unset cell"
    and names_once is_waiting m.tokens m.waits m.waiting
    and for_all (λ (t : Token). waits_at_unset m.cells t.state) m.tokens
    -- "a token at return names a frame, at choke a cell, at a call no empty variable; a ready token at assign, remove, .. has a value"
    and for_all (at_node d m.tokens) m.tokens
    -- "what is not in use is blank"
    and rest_is_blank token_is_blank used m.tokens
    and rest_is_blank cell_is_blank (used_cells used m.tokens m.cells) m.cells
    -- document 02, request 1
    and clock_holds m

-- "14: dag or machine record breaks an index rule"
unfoldable pub rules_hold : Limits → Dag → Machine → Bool
rules_hold lim d m = dag_holds d and machine_holds lim d m
