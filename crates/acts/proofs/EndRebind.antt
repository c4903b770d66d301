-- The instructions after which something may be out of reach: an end, another binding, a return. Where the token named no cell that it
-- names no more, nothing is, and otherwise the record is swept. Assumes nothing.
use mathlib.Core.Path.{◌≡◌, refl, sym, ap, ap₂, subst, ◌∙◌}
use mathlib.Core.Bool.{Bool, true, false}
use mathlib.Core.List.{List, []}
use Prim.Native.Nat.{ℕ, ◌-◌, ◌<◌, ◌≤◌}
use native.Mathlib.Omega.{arith}
use lib.ListN.{length, set}
use lib.Dec.{eqb}
use lib.IntN.{ℤ}
use Rattle.std.specs.Prelude.{Some, None}
use Rattle.job.specs.Number.{unsigned, signed}
use Rattle.job.specs.Test.{◌and◌, for_all}
use Rattle.job.specs.Node.{is_node}
use Rattle.job.specs.Words.{dag_of}
use Rattle.model.specs.Machine.Blank.{blank_token, is_place, token_at, slot_at}
use Rattle.model.specs.Machine.InUse.{sweep}
use Rattle.model.specs.Machine.Limits.{paper}
use Rattle.model.specs.Machine.Reply.{accepted}
use Rattle.model.specs.Machine.Rules.{node_rule, names_frame, held_in_range, place_in_range, slot_in_range, state_in_range, token_in_range}
use Rattle.model.specs.Machine.Update.{with_node, with_state, with_value, with_binding, put, enqueue, with_tables, with_orders}
use Rattle.model.specs.Machine.Step.{value_of}
use Rattle.model.specs.declared.record.Machine.{Machine}
use Rattle.model.specs.declared.reply.Outcome.{Outcome}
use Rattle.model.specs.declared.reply.Reply.{Reply}
use Rattle.model.specs.declared.reply.Reply.TheVariants as replies
use Rattle.model.specs.declared.reply.Report.{Report}
use Rattle.model.specs.Machine.Held.{Held, Place}
use Rattle.model.specs.declared.token.Slot.{Slot}
use Rattle.model.specs.declared.token.Slot.TheVariants as slots
use Rattle.model.specs.declared.token.State.TheVariants as states
use Rattle.model.specs.declared.token.Token.{Token}
use Rattle.job.proofs.Test.{never, clash, and_left, and_right, ltb-lt}
use Rattle.job.proofs.Number.{signed-unsigned}
use Rattle.demand3.proofs.Carried.{rebound-carried, ended-whole, ended-carried}
use Rattle.record.specs.Changes.{dequeued}
use Rattle.record.specs.Holds.{Holds}
use Rattle.record.specs.Layout.{slot_kind, held_number, place_number}
use Rattle.reach.specs.Marks.{MarksOf, Vacant}
use Rattle.acts.specs.Acting.{Acting, Taking, Gives, plain}
use Rattle.acts.specs.Links.{NoLinks}
use Rattle.reach.specs.declared.used.Marks.{Marks}
use Rattle.writes.specs.declared.actor.Actor.{Actor}
use Rattle.acts.proofs.Outcomes.{gives_whole, token-inside, node-rule}
use Rattle.sites.proofs.RuleFacts.{token-range}
use Rattle.acts.proofs.Vacancy.{vacant-row}

-- what `sweep` leaves
abbrev pub Swept : Machine → List ℕ → Marks → Type 0
Swept o ws used = Holds ws (sweep o) × MarksOf (sweep o) used

-- a value's bits
pub value-bits : (v : Held) → held_number v ≡ unsigned (value_of v)
unfolding value_of unsigned
value-bits None = refl
value-bits (Some v) = refl

module _ {ws dag : List ℕ} {used : Marks} {actor : Actor} {m : Machine} (a : Taking ws used dag actor m) where
  abbrev t : Token
  t = token_at m.tokens actor.token

  -- an end
  pub end-vacant : Vacant (put actor.token blank_token (dequeued m actor.place)) used
  unfolding put with_tables with_orders
  end-vacant = vacant-row a _ blank_token refl refl

  pub end-gives : {after : List ℕ} (reply : Reply) (r : Report) → r ≡ plain reply → NoLinks t
      → Holds after (put actor.token blank_token (dequeued m actor.place))
      → Gives (accepted reply [] (put actor.token blank_token (dequeued m actor.place))) m after
      (record { tokens = set used.tokens actor.token false; cells = used.cells }) r
  end-gives reply r e n h =
      let k = a.lawful.marks in
      gives_whole _ reply [] r refl (ap (λ (y : Report). y.reply) e) (ap (λ (y : Report). y.values) e) h
      (ended-whole paper (dag_of dag) m a.lawful.rules actor.place a.queued actor.token a.token n.caller n.cell n.binds)
      (λ framed.
      let c = ended-carried paper (dag_of dag) m a.lawful.rules actor.place a.queued actor.token a.token n.caller n.cell n.binds framed in
      record { whole = c.whole; tokens = c.tokens ∙ ap (λ u. set u actor.token false) (sym k.tokens); cells = c.cells ∙ sym k.cells })

  -- another binding
  module _ (x next : ℕ) (s : Slot) where
    abbrev rebound : Machine
    rebound = enqueue actor.token (put actor.token (with_node next (with_binding x s t)) (dequeued m actor.place))

    pub rebind-vacant : Vacant rebound used
    unfolding put with_tables with_orders enqueue
    rebind-vacant = vacant-row a _ (with_node next (with_binding x s t)) refl refl

    pub rebind-gives : {after : List ℕ} (r : Report) → r ≡ plain replies.Done → ((c : ℕ) → slot_at t.binds x ≡ slots.Cell c → ⊥)
        → ((c : ℕ) → s ≡ slots.Cell c → ⊥) → Holds after rebound → Gives (accepted replies.Done [] rebound) m after used r
    rebind-gives r e n k h =
        let marks = a.lawful.marks in
        let c = rebound-carried paper (dag_of dag) m a.lawful.rules actor.place a.queued actor.token a.token x s next n k in
        gives_whole _ replies.Done [] r refl (ap (λ (y : Report). y.reply) e) (ap (λ (y : Report). y.values) e) h c.whole
        (λ framed. record { whole = c.whole; tokens = c.tokens ∙ sym marks.tokens; cells = c.cells ∙ sym marks.cells })

  -- a return
  pub return-vacant : (f : ℕ)
      → Vacant (enqueue actor.token (put actor.token (with_state states.Ready (with_value t.value (token_at m.tokens f))) (dequeued m actor.place))) used
  unfolding put with_tables with_orders enqueue
  return-vacant f = vacant-row a _ (with_state states.Ready (with_value t.value (token_at m.tokens f))) refl refl

-- an old slot that is no cell
pub no_cell : (s : Slot) (k : ℕ) → k ≡ slot_kind s → (k ≡ 2 → ⊥) → (c : ℕ) → s ≡ slots.Cell c → ⊥
no_cell s k e n c f = n (e ∙ ap slot_kind f)

-- a call's outcome in other words
pub gives_as : {x y : Outcome} {m : Machine} {ws : List ℕ} {used : Marks} {r : Report} → y ≡ x → Gives x m ws used r
    → Gives y m ws used r
gives_as {x} {y} {m} {ws} {used} {r} e g = subst (λ o. Gives o m ws used r) (sym e) g

-- a place's number is 0 for none
pub no_place : (q : Place) (n : ℕ) → n ≡ place_number q → n ≡ 0 → q ≡ None
no_place None n e z = refl
no_place (Some p) n e z = absurd (omega arith)

-- "a token at return names a frame"; "at choke a cell"
pub is-place : (q : Place) (n size : ℕ) → is_place q ≡ true → place_in_range size q ≡ true → n ≡ place_number q
    → (1 ≤ n) × (n - 1 < size) × (q ≡ Some (n - 1))
unfolding is_place place_in_range
is-place None n size e r f = clash e refl
is-place (Some p) n size e r f = (omega arith, (let l = ltb-lt p size r in omega arith), ap Some (omega arith))

frame-place : (ts : List Token) (q : Place) → names_frame ts q ≡ true → is_place q ≡ true
unfolding names_frame is_place
frame-place ts None e = clash e refl
frame-place ts (Some p) e = refl

module _ {ws dag : List ℕ} {used : Marks} {actor : Actor} {m : Machine} (a : Taking ws used dag actor m) where
  range : token_in_range paper (dag_of dag) m.calls (token_at m.tokens actor.token) ≡ true
  range = token-range (dag_of dag) m a.lawful.rules actor.token (token-inside a)

  pub value-range : held_in_range (token_at m.tokens actor.token).value ≡ true
  unfolding token_in_range
  value-range =
      let u = token_at m.tokens actor.token in
      and_left _ _
      (and_right (for_all (slot_in_range 32) u.binds) _
      (and_right (eqb (length u.binds) 8) _ (and_right (is_node (dag_of dag) u.node) _ range)))

  rest : (place_in_range 64 (token_at m.tokens actor.token).caller
      and (place_in_range 32 (token_at m.tokens actor.token).cell and state_in_range 32 m.calls (token_at m.tokens actor.token).state)) ≡ true
  unfolding token_in_range
  rest =
      let u = token_at m.tokens actor.token in
      and_right (held_in_range u.value) _
      (and_right (for_all (slot_in_range 32) u.binds) _
      (and_right (eqb (length u.binds) 8) _ (and_right (is_node (dag_of dag) u.node) _ range)))

  pub caller-range : place_in_range 64 (token_at m.tokens actor.token).caller ≡ true
  caller-range = and_left _ _ rest

  pub cell-range : place_in_range 32 (token_at m.tokens actor.token).cell ≡ true
  cell-range = and_left _ _ (and_right (place_in_range 64 (token_at m.tokens actor.token).caller) _ rest)

module _ (dag : List ℕ) (actor : Actor) (m : Machine) {n : ℕ} where
  pub return-caller : {ws : List ℕ} {used : Marks} → Acting ws used dag actor 8 m
      → n ≡ place_number (token_at m.tokens actor.token).caller
      → (1 ≤ n) × (n - 1 < 64) × ((token_at m.tokens actor.token).caller ≡ Some (n - 1))
  unfolding node_rule
  return-caller a e = is-place _ n 64 (frame-place m.tokens _ (and_left _ _ (node-rule a))) (caller-range a.taking) e

  pub choke-cell : {ws : List ℕ} {used : Marks} → Acting ws used dag actor 7 m
      → n ≡ place_number (token_at m.tokens actor.token).cell
      → (1 ≤ n) × (n - 1 < 32) × ((token_at m.tokens actor.token).cell ≡ Some (n - 1))
  unfolding node_rule
  choke-cell a e = is-place _ n 32 (and_left _ _ (node-rule a)) (cell-range a.taking) e

-- a value that is read as it was written
pub value_read : (v : Held) (n : ℕ) → held_in_range v ≡ true → n ≡ held_number v → signed n ≡ value_of v
unfolding held_in_range value_of signed
value_read None n r e = ap signed e
value_read (Some v) n r e = ap signed e ∙ signed-unsigned v r

-- "publish reports its value"
pub publish-reply : (v : Held) (n : ℕ) (z y : ℤ) → held_in_range v ≡ true → n ≡ held_number v → z ≡ signed n → y ≡ z
    → replies.Published (value_of v) ≡ replies.Published y
publish-reply v n z y r e f g = ap replies.Published (sym (value_read v n r e) ∙ sym f ∙ sym g)

-- a value, and nothing, are no cell
pub value-no-cell : (v : ℤ) (c : ℕ) → slots.Value v ≡ slots.Cell c → ⊥
value-no-cell v c e = never cc

pub empty-no-cell : (c : ℕ) → slots.Empty ≡ slots.Cell c → ⊥
empty-no-cell c e = never cc

-- the numbers of the node's row, as the code has them
pub rebound-as : (m : Machine) (actor : Actor) (s : Slot) {x i k j : ℕ} → x ≡ i → k ≡ j
    → accepted replies.Done [] (enqueue actor.token (put actor.token (with_node k (with_binding x s (token_at m.tokens actor.token))) (dequeued m actor.place)))
    ≡ accepted replies.Done [] (enqueue actor.token (put actor.token (with_node j (with_binding i s (token_at m.tokens actor.token))) (dequeued m actor.place)))
rebound-as m actor s e f =
    ap₂ (λ x k. accepted replies.Done [] (enqueue actor.token (put actor.token (with_node k (with_binding x s (token_at m.tokens actor.token))) (dequeued m actor.place)))) e f

pub reply-as : {x : Outcome} (o : Machine) {q r : Reply} → x ≡ accepted q [] o → q ≡ r → x ≡ accepted r [] o
reply-as {x} o e f = e ∙ ap (λ y. accepted y [] o) f
