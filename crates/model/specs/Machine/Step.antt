-- Document 01: one step, and house order where the place is 0. One clause for each instruction; a branch that a test excludes gives the
-- plainest value (docs/DECISIONS.md, "Branches that a test excludes"). Assumes nothing: these are definitions.
use Rattle.std.specs.Prelude.{Bool, true, false, List, [], ◌∷◌, ◌++◌, map, ℕ, suc, length, get_or, set, drop, ltb, ℤ, pos, Some, None}
use Rattle.std.proofs.Math.Option.{Option, some, none}
use Rattle.job.specs.Test.{select, without}
use Rattle.job.specs.Site.{BuiltinReply, gives, silent, later, due_time, is_builtin, builtin}
use Rattle.job.specs.Syntax.{Param, variable, constant}
use Rattle.job.specs.Node.{Node, Dag, node_at, body_at}
use Rattle.job.specs.Tail.{is_tail}
use Rattle.model.specs.Machine.Limits.{Limits}
use Rattle.model.specs.Machine.Update.{with_node, with_binding, with_value, in_cell, with_state, with_tables, with_orders, with_counts}
use Rattle.model.specs.Machine.Update.{with_timers, queue_of, waits_of, timers_of, put, enqueue, new_token, new_cell}
use Rattle.model.specs.Machine.Blank.{unbound, blank_token, token_at, cell_at, slot_at}
use Rattle.model.specs.Machine.Active.{within}
use Rattle.model.specs.Machine.InUse.{tokens_used, cells_used, marked}
use Rattle.model.specs.Machine.FreePlace.{next_place}
use Rattle.model.specs.Machine.Rules.{rules_hold}
use Rattle.model.specs.Machine.State.{is_ready, is_waiting, is_due, waits_at}
use Rattle.model.specs.Machine.Reply.{Effect, moves, waits, publishes, calls, refuses, unless, outcome}
use Rattle.model.specs.declared.token.Slot.TheVariants as slots
use Rattle.model.specs.declared.token.Slot.{Slot}
use Rattle.model.specs.Machine.Held.{Held, Place}
use Rattle.model.specs.declared.token.State.TheVariants as states
use Rattle.model.specs.declared.token.Token.{Token}
use Rattle.model.specs.declared.cell.Cell.{Cell}
use Rattle.model.specs.declared.record.Machine.{Machine}
use Rattle.model.specs.declared.reply.Outcome.{Outcome}

-- "parameters in order": all their values, or the first unset cell
pub data LookUpResult : Type 0 where
  values : List ℤ → LookUpResult
  unset : (cell : ℕ) → LookUpResult

unfoldable pub and_then : ℤ → LookUpResult → LookUpResult
and_then v (values vs) = values (v ∷ vs)
and_then v (unset c) = unset c

module _ (cs : List Cell) (bs : List Slot) where
  unfoldable pub look : List Param → LookUpResult
  look [] = values []
  look (constant v ∷ ps) = and_then v (look ps)
  look (variable x ∷ ps) =
      elim (slot_at bs x) [
        -- "at a call no empty variable": the test for 14 leaves none
        | slots.Empty ↦ values []
        | slots.Value v ↦ and_then v (look ps)
        | slots.Cell c ↦ elim (cell_at cs c).value [ None ↦ unset c | Some v ↦ and_then v (look ps) ]
      ]

-- "A variable's binding is passed on as it is, its cell set or unset"
unfoldable pub passed : List Slot → Param → Slot
passed bs (variable x) = slot_at bs x
passed bs (constant v) = slots.Value v

-- "only its formals bound"
unfoldable pub formals_bound : List Slot → List Param → List Slot
formals_bound bs ps = map (passed bs) ps ++ drop (length ps) unbound

-- ".. the callee is .. in the token's cell, with no value and only its formals bound"
abbrev pub callee : (caller : Place) → Token → (root : ℕ) → List Param → Token
callee q t root ps =
    record {
      node = root;
      binds = formals_bound t.binds ps;
      value = None;
      caller = q;
      cell = t.cell;
      state = states.Ready;
    }

-- "a ready token at .. has a value": the test for 14 leaves none without
unfoldable pub value_of : Held → ℤ
value_of None = pos 0
value_of (Some v) = v

-- "all tokens of it and of its descendants end; waiters become ready" (docs/DECISIONS.md, "Choke ends every token", "Waiting")
unfoldable pub choke_token : List Cell → ℕ → Token → Token
choke_token cs c t =
    elim (within cs c t.cell) [
      | true ↦ blank_token
      | false ↦ elim (waits_at c t.state) [ true ↦ with_state states.Ready t | false ↦ t ]
    ]

-- the machine after a choke: the queue has those that are still ready, then the woken ones, "longest wait first"; the wait order and the
-- order of call have those that still wait, that are still due
unfoldable pub after_choke : ℕ → Held → Machine → Machine
after_choke c v m =
    let ts = map (choke_token m.cells c) m.tokens in
    let cs = set m.cells c (record { parent = (cell_at m.cells c).parent; value = v }) in
    with_orders
    (select (λ (p : ℕ). is_ready (token_at ts p).state) (queue_of m ++ waits_of m))
    (select (λ (p : ℕ). is_waiting (token_at ts p).state) (waits_of m))
    (with_timers (select (λ (p : ℕ). is_due (token_at ts p).state) (timers_of m)) (with_tables ts cs m))

-- What each node does. The token t at place p acts; m is the machine with p taken from its queue
module _ (m : Machine) (p : ℕ) where
  -- "the token ends"
  unfoldable pub ended : Machine
  ended = put p blank_token m

  -- the token goes on as u
  unfoldable pub goes_on : Token → Effect
  goes_on u = moves (enqueue p (put p u m))

module _ (m : Machine) (p : ℕ) (t : Token) where
  -- "left keeps the place, right is new", at place q
  unfoldable pub forked : (q left right : ℕ) → Effect
  forked q l r = moves (enqueue q (enqueue p (new_token q (with_node r t) (put p (with_node l t) m))))

  -- "left binds x to the new cell; right is new and belongs to it"; the cell is at place c
  unfoldable pub split : (q c x left right : ℕ) → Effect
  split q c x l r =
      let sides = new_token q (in_cell c (with_node r t)) (put p (with_node l (with_binding x (slots.Cell c) t)) m) in
      moves (enqueue q (enqueue p (new_cell c (record { parent = t.cell; value = None }) sides)))

  -- "the token becomes a frame at next, the callee is new, .."
  unfoldable pub entered : (q root : ℕ) → List Param → (next : ℕ) → Effect
  entered q root ps k =
      moves (enqueue q (new_token q (callee (Some p) t root ps) (put p (with_node k (with_state states.Frame t)) m)))

  -- document 02, request 2: "the token itself becomes the callee and the callee inherits its caller"
  unfoldable pub becomes_callee : (root : ℕ) → List Param → Effect
  becomes_callee root ps = goes_on m p (callee t.caller t root ps)

  -- "the first unset cell makes the token wait there"
  unfoldable pub waited : ℕ → Effect
  waited c = waits (with_orders (queue_of m) (waits_of m ++ (p ∷ [])) (put p (with_state (states.Waiting c) t) m))

  -- document 02, request 1: a call that falls due at this time, or never. "With t = 0 the token joins the back of the queue in the call's
  -- own step, with value 0"; else it is due later, at the next node, and the last in the order of call
  unfoldable pub deferred : (next : ℕ) → (due : Option ℕ) → Effect
  deferred k none = moves (ended m p)
  deferred k (some due) =
      elim (ltb m.clock due) [
        | false ↦ goes_on m p (with_node k (with_value (Some (pos 0)) t))
        | true ↦ moves (with_timers (timers_of m ++ (p ∷ [])) (put p (with_node k (with_state (states.Due due) t)) m))
      ]

  -- "a built-in replies and the token goes on, or it is silent and the token ends"
  unfoldable pub replied : (next : ℕ) → BuiltinReply → Effect
  replied k (gives v) = goes_on m p (with_node k (with_value (Some v) t))
  replied k silent = moves (ended m p)
  replied k (later time) = deferred k (due_time m.clock time)

  -- "an outside call takes the next handle (from 0), and the token is called out at the next node"
  unfoldable pub called_out : (site : ℕ) → List ℤ → (next : ℕ) → Effect
  called_out s vs k =
      calls m.calls s vs
      (with_counts (suc m.calls) m.lasttoken m.lastcell (put p (with_node k (with_state (states.Called m.calls) t)) m))

  -- "return: the place takes a copy of the frame with the value". (The test for 14 leaves no token without a frame.)
  unfoldable pub returned : Place → Effect
  returned None = refuses 14
  returned (Some f) = goes_on m p (with_state states.Ready (with_value t.value (token_at m.tokens f)))

-- "choke: set the cell; .." (The test for 14 leaves no token without a cell.)
unfoldable pub choke_at : Machine → Token → Place → Effect
choke_at m t None = refuses 14
choke_at m t (Some c) = moves (after_choke c t.value m)

abbrev pub token_place : Machine → ℕ
token_place before = next_place (tokens_used before) before.lasttoken

abbrev pub cell_place : Machine → ℕ
cell_place before = next_place (cells_used before) before.lastcell

module _ (lim : Limits) where
  -- "13: outside call, all values there, after 1,000,000 such calls". (A site that is no built-in is an outside site: the test for 14
  -- leaves no other.)
  unfoldable pub call_site : Machine → ℕ → Token → (site next : ℕ) → LookUpResult → Effect
  call_site m p t s k (unset c) = waited m p t c
  call_site m p t s k (values vs) =
      elim (is_builtin s) [
        | true ↦ replied m p t k (builtin s vs)
        | false ↦ unless (ltb m.calls lim.calls) 13 (called_out m p t s vs k)
      ]

  -- "10: fork, where or definition call with 64 tokens in use", "11: where with 32 cells in use": `before` is the machine before the call
  unfoldable pub has_token_place : Machine → Bool
  has_token_place before = ltb (marked (tokens_used before)) lim.tokens

  unfoldable pub has_cell_place : Machine → Bool
  has_cell_place before = ltb (marked (cells_used before)) lim.cells

  -- document 02, request 2: "A definition call with nothing but remove nodes between it and its body's return shall keep no frame"; "10 is
  -- then not given for such a call". `tail` says whether it is one
  unfoldable pub call_body : (before m : Machine) → ℕ → Token → (root : ℕ) → List Param → (next : ℕ) → (tail : Bool) → Effect
  call_body before m p t root ps k true = becomes_callee m p t root ps
  call_body before m p t root ps k false =
      unless (has_token_place before) 10 (entered m p t (token_place before) root ps k)

module _ (lim : Limits) (d : Dag) where
  -- the instruction table
  unfoldable pub act : (before m : Machine) → ℕ → Token → Node → Effect
  act before m p t Node.stop = moves (ended m p)
  act before m p t Node.publish = publishes (value_of t.value) (ended m p)
  act before m p t (Node.fork l r) =
      unless (has_token_place lim before) 10 (forked m p t (token_place before) l r)
  act before m p t (Node.assign x k) = goes_on m p (with_node k (with_binding x (slots.Value (value_of t.value)) t))
  act before m p t (Node.remove x k) = goes_on m p (with_node k (with_binding x slots.Empty t))
  act before m p t (Node.where' x l r) =
      unless (has_token_place lim before) 10
      (unless (has_cell_place lim before) 11 (split m p t (token_place before) (cell_place before) x l r))
  act before m p t (Node.site s ps k) = call_site lim m p t s k (look m.cells t.binds ps)
  act before m p t (Node.call e ps k) = call_body lim before m p t (body_at d e).root ps k (is_tail d k)
  act before m p t Node.return = returned m p t t.caller
  act before m p t Node.choke = choke_at m t t.cell
  -- the test for 14 leaves no such node
  act before m p t Node.unknown = refuses 14

  -- the token that the queue has at a place acts. (The test for 9 leaves no place behind the queue.)
  unfoldable pub takes : Machine → (place : ℕ) → Effect
  takes m place =
      let p = get_or m.queue place 0 in
      let t = token_at m.tokens p in
      act m (with_orders (without place (queue_of m)) (waits_of m) m) p t (node_at d t.node)

  -- "A step tests 14, 9, then 10, 11 or 13" (docs/DECISIONS.md, "A step")
  unfoldable pub step : Machine → (place : ℕ) → Outcome
  step m place =
      let effect = takes m place in
      outcome m (unless (rules_hold lim d m) 14 (unless (ltb place m.queued) 9 effect))
