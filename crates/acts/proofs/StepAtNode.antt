-- What a step does at each kind of node, by the words of the node's row. The tests have passed, so the definition comes to the clause of
-- the node. Assumes nothing.
use mathlib.Core.Path.{◌≡◌, refl, sym, ap, ap₂, ◌∙◌}
use mathlib.Core.Bool.{Bool, true, false}
use mathlib.Core.List.{List, []}
use Prim.Native.Nat.{ℕ, ◌+◌}
use native.Mathlib.Omega.{arith}
use lib.ListN.{get_or}
use lib.Dec.{ltb}
use Rattle.std.specs.Prelude.{Some}
use Rattle.job.specs.Node.{Dag, body_at}
use Rattle.job.specs.Tail.{is_tail}
use Rattle.job.specs.Words.{dag_of}
use Rattle.model.specs.Machine.Blank.{blank_token, token_at}
use Rattle.model.specs.Machine.InUse.{tokens_used, cells_used, marked}
use Rattle.model.specs.Machine.Limits.{paper}
use Rattle.model.specs.Machine.FreePlace.{next_place}
use Rattle.model.specs.Machine.Reply.{accepted, outcome, unless, refuses}
use Rattle.model.specs.Machine.Step as Step
use Rattle.model.specs.Machine.Update.{with_node, with_state, with_value, with_binding, in_cell}
use Rattle.model.specs.Machine.Update.{put, enqueue, new_token, new_cell, with_orders}
use Rattle.model.specs.Machine.Step.{act, value_of}
use Rattle.model.specs.Machine.Step.{has_token_place, has_cell_place, call_site, look}
use Rattle.model.specs.declared.record.Machine.{Machine}
use Rattle.model.specs.declared.reply.Reply.TheVariants as replies
use Rattle.model.specs.declared.token.Slot.TheVariants as slots
use Rattle.model.specs.declared.token.State.TheVariants as states
use Rattle.model.specs.declared.token.Token.{Token}
use Rattle.lockstep.proofs.Lockstep.{Fitting}
use Rattle.record.specs.Changes.{dequeued, unset_cell}
use Rattle.reach.specs.Marks.{next_free}
use Rattle.std.specs.Prelude.{Option, Some, None}
use Rattle.acts.specs.Acting.{Acting, Lawful}
use Rattle.sites.specs.Row.{callee, params_at}
use Rattle.reach.specs.declared.used.Marks.{Marks}
use Rattle.writes.specs.declared.actor.Actor.{Actor}
use Rattle.acts.proofs.Outcomes.{step_is}

-- the paper's limits are no larger than its tables
pub fitting : Fitting paper
fitting = record { tokens = omega arith; cells = omega arith }

-- the next place, where there is room, and where there is none
next-room : (n : ℕ) {new : ℕ} (marks : List Bool) (last : ℕ) → Some new ≡ next_free n marks last
    → (ltb (marked marks) n ≡ true) × (new ≡ next_place marks last)
unfolding next_free
next-room n {new} marks last e = go (ltb (marked marks) n) e
  where
    go : (b : Bool) → Some new ≡ elim b as (λ _. Option ℕ) [ true ↦ Some (next_place marks last) | false ↦ None ]
        → (b ≡ true) × (new ≡ next_place marks last)
    go true f = (refl, cc)
    go false f = absurd (cc)

next-full : (n : ℕ) (marks : List Bool) (last : ℕ) → None ≡ next_free n marks last → ltb (marked marks) n ≡ false
unfolding next_free
next-full n marks last e = go (ltb (marked marks) n) e
  where
    go : (b : Bool) → None ≡ elim b as (λ _. Option ℕ) [ true ↦ Some (next_place marks last) | false ↦ None ] → b ≡ false
    go true f = absurd (cc)
    go false f = refl

module _ {ws dag : List ℕ} {used : Marks} {m : Machine} (a : Lawful ws used dag m) where
  abbrev d : Dag
  d = dag_of dag

  module _ {o : Option ℕ} {last : ℕ} (next : o ≡ next_free 64 used.tokens last) (given : last ≡ m.lasttoken) where
    own : o ≡ next_free 64 (tokens_used m) m.lasttoken
    own = next ∙ ap₂ (next_free 64) a.marks.tokens given

    pub token-room : {new : ℕ} → o ≡ Some new → (has_token_place paper m ≡ true) × (new ≡ next_place (tokens_used m) m.lasttoken)
    unfolding has_token_place
    token-room e = next-room 64 (tokens_used m) m.lasttoken (sym e ∙ own)

    pub token-full : o ≡ None → has_token_place paper m ≡ false
    unfolding has_token_place
    token-full e = next-full 64 (tokens_used m) m.lasttoken (sym e ∙ own)

  module _ {o : Option ℕ} {last : ℕ} (next : o ≡ next_free 32 used.cells last) (given : last ≡ m.lastcell) where
    own-cell : o ≡ next_free 32 (cells_used m) m.lastcell
    own-cell = next ∙ ap₂ (next_free 32) a.marks.cells given

    pub cell_room : {new : ℕ} → o ≡ Some new → (has_cell_place paper m ≡ true) × (new ≡ next_place (cells_used m) m.lastcell)
    unfolding has_cell_place
    cell_room e = next-room 32 (cells_used m) m.lastcell (sym e ∙ own-cell)

    pub cell_full : o ≡ None → has_cell_place paper m ≡ false
    unfolding has_cell_place
    cell_full e = next-full 32 (cells_used m) m.lastcell (sym e ∙ own-cell)

module _ (dag : List ℕ) (actor : Actor) (m : Machine) where
  abbrev t : Token
  t = token_at m.tokens actor.token

  abbrev word : ℕ → ℕ
  word i = get_or dag (actor.row + i) 0

  pub stop_step : {ws : List ℕ} {used : Marks} → Acting ws used dag actor 0 m
      → Step.step paper (dag_of dag) m actor.place ≡ accepted replies.Done [] (put actor.token blank_token (dequeued m actor.place))
  unfolding act outcome Step.ended
  stop_step a = step_is a

  pub publish-step : {ws : List ℕ} {used : Marks} → Acting ws used dag actor 9 m
      → Step.step paper (dag_of dag) m actor.place ≡ accepted (replies.Published (value_of t.value)) [] (put actor.token blank_token (dequeued m actor.place))
  unfolding act outcome Step.ended
  publish-step a = step_is a

  pub assign-step : {ws : List ℕ} {used : Marks} → Acting ws used dag actor 4 m → Step.step paper (dag_of dag) m actor.place
      ≡ accepted replies.Done []
      (enqueue actor.token (put actor.token (with_node (word 2) (with_binding (word 1) (slots.Value (value_of t.value)) t)) (dequeued m actor.place)))
  unfolding act outcome Step.goes_on
  assign-step a = step_is a

  pub remove-step : {ws : List ℕ} {used : Marks} → Acting ws used dag actor 5 m → Step.step paper (dag_of dag) m actor.place
      ≡ accepted replies.Done [] (enqueue actor.token (put actor.token (with_node (word 2) (with_binding (word 1) slots.Empty t)) (dequeued m actor.place)))
  unfolding act outcome Step.goes_on
  remove-step a = step_is a

  pub return-step : {ws : List ℕ} {used : Marks} → (f : ℕ) → t.caller ≡ Some f → Acting ws used dag actor 8 m
      → Step.step paper (dag_of dag) m actor.place
      ≡ accepted replies.Done []
      (enqueue actor.token (put actor.token (with_state states.Ready (with_value t.value (token_at m.tokens f))) (dequeued m actor.place)))
  unfolding act outcome Step.goes_on Step.returned with_orders
  return-step f e a = step_is a ∙ ap (λ q. outcome m (Step.returned (dequeued m actor.place) actor.token t q)) e

  pub choke-step : {ws : List ℕ} {used : Marks} → (c : ℕ) → t.cell ≡ Some c → Acting ws used dag actor 7 m
      → Step.step paper (dag_of dag) m actor.place
      ≡ accepted replies.Done [] (Step.after_choke c t.value (dequeued m actor.place))
  unfolding act outcome Step.choke_at
  choke-step c e a = step_is a ∙ ap (λ q. outcome m (Step.choke_at (dequeued m actor.place) t q)) e

  pub site-step : {ws : List ℕ} {used : Marks} → Acting ws used dag actor 1 m → Step.step paper (dag_of dag) m actor.place
      ≡ outcome m (call_site paper (dequeued m actor.place) actor.token t (word 1) (word 2) (look m.cells t.binds (params_at dag actor.row)))
  unfolding act with_orders
  site-step a = step_is a

  -- fork, definition call and where, with room and without
  pub fork-step : {ws : List ℕ} {used : Marks} → (new : ℕ) → has_token_place paper m ≡ true
      → new ≡ next_place (tokens_used m) m.lasttoken → Acting ws used dag actor 3 m
      → Step.step paper (dag_of dag) m actor.place
      ≡ accepted replies.Done []
      (enqueue new (enqueue actor.token (new_token new (with_node (word 2) t) (put actor.token (with_node (word 1) t) (dequeued m actor.place)))))
  unfolding act outcome unless Step.forked
  fork-step new room e a =
      step_is a
      ∙ ap (λ b. outcome m
      (unless b 10 (Step.forked (dequeued m actor.place) actor.token t (next_place (tokens_used m) m.lasttoken) (word 1) (word 2))))
      room
      ∙ ap (λ q. accepted replies.Done []
      (enqueue q (enqueue actor.token (new_token q (with_node (word 2) t) (put actor.token (with_node (word 1) t) (dequeued m actor.place)))))) (sym e)

  pub fork-full : {ws : List ℕ} {used : Marks} → has_token_place paper m ≡ false → Acting ws used dag actor 3 m
      → Step.step paper (dag_of dag) m actor.place ≡ outcome m (refuses 10)
  unfolding act outcome unless
  fork-full full a =
      step_is a
      ∙ ap (λ b. outcome m
      (unless b 10 (Step.forked (dequeued m actor.place) actor.token t (next_place (tokens_used m) m.lasttoken) (word 1) (word 2))))
      full

  -- a definition call, by whether it is in tail position
  abbrev root : ℕ
  root = (body_at (dag_of dag) (word 1)).root

  body-step : {ws : List ℕ} {used : Marks} (tail : Bool) → is_tail (dag_of dag) (word 2) ≡ tail
      → Acting ws used dag actor 2 m
      → Step.step paper (dag_of dag) m actor.place ≡ outcome m (Step.call_body paper m (dequeued m actor.place) actor.token t root (params_at dag actor.row) (word 2)
      tail)
  unfolding act
  body-step tail is a =
      step_is a ∙ ap (λ b. outcome m (Step.call_body paper m (dequeued m actor.place) actor.token t root (params_at dag actor.row) (word 2) b)) is

  pub tail_step : {ws : List ℕ} {used : Marks} → is_tail (dag_of dag) (word 2) ≡ true → Acting ws used dag actor 2 m
      → Step.step paper (dag_of dag) m actor.place
      ≡ accepted replies.Done [] (enqueue actor.token (put actor.token (Step.callee t.caller t root (params_at dag actor.row)) (dequeued m actor.place)))
  unfolding outcome Step.call_body Step.becomes_callee Step.goes_on
  tail_step is a = body-step true is a

  entered-step : {ws : List ℕ} {used : Marks} (room : Bool) → has_token_place paper m ≡ room
      → is_tail (dag_of dag) (word 2) ≡ false → Acting ws used dag actor 2 m
      → Step.step paper (dag_of dag) m actor.place
      ≡ outcome m
      (unless room 10 (Step.entered (dequeued m actor.place) actor.token t (next_place (tokens_used m) m.lasttoken) root (params_at dag actor.row) (word 2)))
  unfolding Step.call_body
  entered-step room has is a =
      body-step false is a
      ∙ ap (λ b. outcome m
      (unless b 10
      (Step.entered (dequeued m actor.place) actor.token t (next_place (tokens_used m) m.lasttoken) root (params_at dag actor.row) (word 2)))) has

  pub call_step : {ws : List ℕ} {used : Marks} → (new : ℕ) → has_token_place paper m ≡ true
      → new ≡ next_place (tokens_used m) m.lasttoken → is_tail (dag_of dag) (word 2) ≡ false → Acting ws used dag actor 2 m
      → Step.step paper (dag_of dag) m actor.place
      ≡ accepted replies.Done []
      (enqueue new
      (new_token new (callee actor.token t.cell t.binds root (params_at dag actor.row))
      (put actor.token (with_node (word 2) (with_state states.Frame t)) (dequeued m actor.place))))
  unfolding outcome unless Step.entered
  call_step new room e is a =
      entered-step true room is a
      ∙ ap
      (λ q.
      accepted replies.Done []
      (enqueue q (new_token q (callee actor.token t.cell t.binds root (params_at dag actor.row))
      (put actor.token (with_node (word 2) (with_state states.Frame t)) (dequeued m actor.place))))) (sym e)

  pub call-full : {ws : List ℕ} {used : Marks} → has_token_place paper m ≡ false → is_tail (dag_of dag) (word 2) ≡ false
      → Acting ws used dag actor 2 m
      → Step.step paper (dag_of dag) m actor.place ≡ outcome m (refuses 10)
  unfolding unless
  call-full full is a = entered-step false full is a

  abbrev splitting : (new c : ℕ) → Machine
  splitting new c =
      enqueue new
      (enqueue actor.token
      (new_cell c (unset_cell t.cell)
      (new_token new (in_cell c (with_node (word 2) t))
      (put actor.token (with_node (word 1) (with_binding (word 3) (slots.Cell c) t)) (dequeued m actor.place)))))

  pub where-step : {ws : List ℕ} {used : Marks} → (new c : ℕ) → has_token_place paper m ≡ true
      → new ≡ next_place (tokens_used m) m.lasttoken
      → has_cell_place paper m ≡ true → c ≡ next_place (cells_used m) m.lastcell → Acting ws used dag actor 6 m
      → Step.step paper (dag_of dag) m actor.place ≡ accepted replies.Done [] (splitting new c)
  unfolding act outcome unless Step.split
  where-step new c room e below f a =
      let q = next_place (tokens_used m) m.lasttoken in
      let k = next_place (cells_used m) m.lastcell in
      step_is a
      ∙ ap₂
      (λ b g. outcome m
      (unless b 10 (unless g 11 (Step.split (dequeued m actor.place) actor.token t q k (word 3) (word 1) (word 2)))))
      room below
      ∙ ap₂ (λ q k. accepted replies.Done [] (splitting q k)) (sym e) (sym f)

  pub where-full : {ws : List ℕ} {used : Marks} → has_token_place paper m ≡ false → Acting ws used dag actor 6 m
      → Step.step paper (dag_of dag) m actor.place ≡ outcome m (refuses 10)
  unfolding act outcome unless
  where-full full a =
      let q = next_place (tokens_used m) m.lasttoken in
      let k = next_place (cells_used m) m.lastcell in
      step_is a
      ∙ ap
      (λ b.
      outcome m
      (unless b 10
      (unless (has_cell_place paper m) 11 (Step.split (dequeued m actor.place) actor.token t q k (word 3) (word 1) (word 2))))) full

  pub where-cells-full : {ws : List ℕ} {used : Marks} → has_token_place paper m ≡ true → has_cell_place paper m ≡ false
      → Acting ws used dag actor 6 m
      → Step.step paper (dag_of dag) m actor.place ≡ outcome m (refuses 11)
  unfolding act outcome unless
  where-cells-full room full a =
      let q = next_place (tokens_used m) m.lasttoken in
      let k = next_place (cells_used m) m.lastcell in
      step_is a
      ∙ ap₂
      (λ b g. outcome m
      (unless b 10 (unless g 11 (Step.split (dequeued m actor.place) actor.token t q k (word 3) (word 1) (word 2)))))
      room full
