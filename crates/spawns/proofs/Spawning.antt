-- Fork, where and definition call: the new places are free, so they are blank and apart from the token that acts, and there is room in the
-- queue; what is in use afterwards is what was, and what is new. Assumes nothing.
use mathlib.Core.Path.{◌≡◌, refl, sym, ap, subst, subst₂, ◌∙◌}
use mathlib.Core.Bool.{Bool, true, false}
use mathlib.Core.List.{List, []}
use Rattle.std.specs.Prelude.{Option, Some, None}
use Prim.Native.Nat.{ℕ, ◌+◌, ◌<◌}
use lib.ListN.{get_or, set}
use Rattle.job.specs.Node.{body_at}
use Rattle.job.specs.Tail.{is_tail}
use Rattle.job.specs.Words.{dag_of}
use Rattle.model.specs.Machine.Blank.{blank_token, token_at}
use Rattle.model.specs.Machine.InUse.{tokens_used}
use Rattle.model.specs.Machine.Limits.{paper}
use Rattle.model.specs.Machine.FreePlace.{next_place}
use Rattle.model.specs.Machine.Reply.{accepted}
use Rattle.model.specs.Machine.State.{is_ready}
use Rattle.model.specs.Machine.Step as Step
use Rattle.model.specs.Machine.Update.{with_node, with_state, with_binding, in_cell, put, enqueue, new_token, new_cell}
use Rattle.model.specs.Machine.Step.{has_token_place}
use Rattle.model.specs.declared.record.Machine.{Machine}
use Rattle.model.specs.declared.reply.Outcome.{Outcome}
use Rattle.model.specs.declared.reply.Report.{Report}
use Rattle.model.specs.declared.reply.Reply.TheVariants as replies
use Rattle.model.specs.declared.reply.Refusal.TheVariants as refusals
use Rattle.model.specs.declared.token.Slot.TheVariants as slots
use Rattle.model.specs.declared.token.State.TheVariants as states
use Rattle.model.specs.declared.token.Token.{Token}
use Rattle.job.proofs.Test.{clash}
use Rattle.model.proofs.Machine.Marks.{Free}
use Rattle.lockstep.proofs.Lockstep.{free-token}
use Rattle.demand3.proofs.Carried.{Carried, forked-carried, entered-carried, split-carried}
use Rattle.record.specs.Changes.{dequeued, unset_cell}
use Rattle.record.specs.Holds.{Holds}
use Rattle.reach.specs.Marks.{next_free}
use Rattle.acts.specs.Acting.{Acting, Taking, Gives, plain}
use Rattle.sites.specs.Row.{callee, params_at}
use Rattle.reach.specs.declared.used.Marks.{Marks}
use Rattle.writes.specs.declared.actor.Actor.{Actor}
use Rattle.sites.proofs.RuleFacts.{queue-room}
use Rattle.acts.proofs.Outcomes.{gives_whole, gives-refused, token-ready}
use Rattle.acts.proofs.StepAtNode.{fitting, token-room, token-full, cell_room, cell_full}
use Rattle.acts.proofs.StepAtNode.{fork-step, fork-full, call_step, call-full, where-step, where-full, where-cells-full}
use Rattle.acts.proofs.Vacancy.{clean}

-- an accepted call that left marks
pub gives_made : {x : Outcome} {m : Machine} (o : Machine) {ws : List ℕ} {used : Marks} (r : Report)
    → x ≡ accepted replies.Done [] o → r ≡ plain replies.Done → Holds ws o → Carried o used.tokens used.cells → Gives x m ws used r
gives_made o r e f h k =
    gives_whole o replies.Done [] r e (ap (λ (y : Report). y.reply) f) (ap (λ (y : Report). y.values) f) h k.whole (λ framed. k)

module _ {ws dag : List ℕ} {used : Marks} {actor : Actor} {m : Machine} (a : Taking ws used dag actor m) {o : Option ℕ} {new last : ℕ}
    (next : o ≡ next_free 64 used.tokens last) (given : last ≡ m.lasttoken) (is : o ≡ Some new) (inside : new < 64) where
  room : (has_token_place paper m ≡ true) × (new ≡ next_place (tokens_used m) m.lasttoken)
  room = token-room a.lawful next given is

  free : Free (tokens_used m) new
  free = subst (Free (tokens_used m)) (sym room.1) (free-token paper (dag_of dag) m a.lawful.rules fitting room.0)

  -- the place is blank, and not that of the token
  pub new-blank : token_at m.tokens new ≡ blank_token
  new-blank = (clean a.lawful).tokens new free

  not-ready : is_ready (token_at m.tokens new).state ≡ false
  not-ready = ap (λ (t : Token). is_ready t.state) new-blank ∙ (unfold is_ready in refl)

  pub new_apart : actor.token ≡ new → ⊥
  new_apart e = clash (token-ready a) (ap (λ i. is_ready (token_at m.tokens i).state) e ∙ not-ready)

  -- there is room in the queue
  pub queue-open : m.queued < 64
  queue-open = queue-room (dag_of dag) m a.lawful.rules new inside not-ready

-- marks that the code changed
carried-as : {o : Machine} {tokens cells used below : List Bool} → Carried o tokens cells → tokens ≡ used → cells ≡ below
    → Carried o used below
carried-as k e f = record { whole = k.whole; tokens = k.tokens ∙ e; cells = k.cells ∙ f }

module _ (dag : List ℕ) (actor : Actor) (m : Machine) where
  abbrev t : Token
  t = token_at m.tokens actor.token

  abbrev word : ℕ → ℕ
  word i = get_or dag (actor.row + i) 0

  module _ {ws : List ℕ} {used : Marks} (a : Acting ws used dag actor 3 m) {o : Option ℕ} {last : ℕ}
      (next : o ≡ next_free 64 used.tokens last) (given : last ≡ m.lasttoken) where
    pub fork-gives : {after : List ℕ} {new : ℕ} (r : Report) (left right : ℕ) → left ≡ word 1 → right ≡ word 2 → o ≡ Some new → r ≡ plain replies.Done
        → Holds after (enqueue new (enqueue actor.token (new_token new (with_node right t) (put actor.token (with_node left t) (dequeued m actor.place)))))
        → Gives (Step.step paper (dag_of dag) m actor.place) m after (record { tokens = set used.tokens new true; cells = used.cells }) r
    fork-gives {after} {new} r left right el er l e h₀ =
        let h =
        subst₂ (λ i j. Holds after (enqueue new (enqueue actor.token (new_token new (with_node j t) (put actor.token (with_node i t) (dequeued m actor.place))))))
        el er
        h₀ in
        let y = token-room a.taking.lawful next given l in
        let k = a.taking.lawful.marks in
        gives_made _ r (fork-step dag actor m new y.0 y.1 a) e h
        (carried-as
        (forked-carried paper (dag_of dag) m a.taking.lawful.rules actor.place a.taking.queued actor.token a.taking.token fitting y.0 new
        y.1 (word 1)
        (word 2))
        (ap (λ u. set u new true) (sym k.tokens)) (sym k.cells))

    pub fork-refused : (r : Report) → o ≡ None → r ≡ plain (replies.Refused refusals.TokenLimit)
        → Gives (Step.step paper (dag_of dag) m actor.place) m ws used r
    fork-refused r l e =
        gives-refused 10 r a.taking.lawful (fork-full dag actor m (token-full a.taking.lawful next given l) a)
        e

  module _ {ws : List ℕ} {used : Marks} (a : Acting ws used dag actor 2 m)
      (is : is_tail (dag_of dag) (word 2) ≡ false) {o : Option ℕ} {last : ℕ} (next : o ≡ next_free 64 used.tokens last) (given : last ≡ m.lasttoken) where
    pub call-gives : {after : List ℕ} {new : ℕ} (r : Report) (root next : ℕ) → root ≡ (body_at (dag_of dag) (word 1)).root → next ≡ word 2 → o ≡ Some new
        → r ≡ plain replies.Done
        → Holds after
        (enqueue new (new_token new (callee actor.token t.cell t.binds root (params_at dag actor.row))
        (put actor.token (with_node next (with_state states.Frame t)) (dequeued m actor.place))))
        → Gives (Step.step paper (dag_of dag) m actor.place) m after (record { tokens = set used.tokens new true; cells = used.cells }) r
    call-gives {after} {new} r root k₂ f g l e h =
        let y = token-room a.taking.lawful next given l in
        let k = a.taking.lawful.marks in
        let own =
        subst₂
        (λ x y.
        Holds after
        (enqueue new (new_token new (callee actor.token t.cell t.binds x (params_at dag actor.row))
        (put actor.token (with_node y (with_state states.Frame t)) (dequeued m actor.place)))))
        f g h in
        gives_made _ r (call_step dag actor m new y.0 y.1 is a) e own
        (carried-as
        (entered-carried paper (dag_of dag) m a.taking.lawful.rules actor.place a.taking.queued actor.token a.taking.token fitting y.0 new
        y.1
        (body_at (dag_of dag) (word 1)).root (params_at dag actor.row) (word 2))
        (ap (λ u. set u new true) (sym k.tokens)) (sym k.cells))

    pub call-refused : (r : Report) → o ≡ None → r ≡ plain (replies.Refused refusals.TokenLimit)
        → Gives (Step.step paper (dag_of dag) m actor.place) m ws used r
    call-refused r l e =
        gives-refused 10 r a.taking.lawful (call-full dag actor m (token-full a.taking.lawful next given l) is a)
        e

  module _ {ws : List ℕ} {used : Marks} (a : Acting ws used dag actor 6 m) {o : Option ℕ} {last : ℕ}
      (next : o ≡ next_free 64 used.tokens last) (given : last ≡ m.lasttoken) where
    pub where-refused : (r : Report) → o ≡ None → r ≡ plain (replies.Refused refusals.TokenLimit)
        → Gives (Step.step paper (dag_of dag) m actor.place) m ws used r
    where-refused r l e =
        gives-refused 10 r a.taking.lawful
        (where-full dag actor m (token-full a.taking.lawful next given l) a) e

    module _ {oc : Option ℕ} {lastc : ℕ} (nextc : oc ≡ next_free 32 used.cells lastc) (givenc : lastc ≡ m.lastcell) where
      pub where-refused-cell : {new : ℕ} (r : Report) → o ≡ Some new → oc ≡ None → r ≡ plain (replies.Refused refusals.CellLimit)
          → Gives (Step.step paper (dag_of dag) m actor.place) m ws used r
      where-refused-cell r l n e =
          let y = token-room a.taking.lawful next given l in
          gives-refused 11 r a.taking.lawful
          (where-cells-full dag actor m y.0 (cell_full a.taking.lawful nextc givenc n) a) e

      abbrev splits : (new c x left right : ℕ) → Machine
      splits new c x left right =
          enqueue new
          (enqueue actor.token
          (new_cell c (unset_cell t.cell)
          (new_token new (in_cell c (with_node right t)) (put actor.token (with_node left (with_binding x (slots.Cell c) t)) (dequeued m actor.place)))))

      pub where-gives : {after : List ℕ} {new c : ℕ} (r : Report) (x left right : ℕ) → x ≡ word 3 → left ≡ word 1 → right ≡ word 2 → o ≡ Some new → oc ≡ Some c
          → r ≡ plain replies.Done → Holds after (splits new c x left right)
          → Gives (Step.step paper (dag_of dag) m actor.place) m after (record { tokens = set used.tokens new true; cells = set used.cells c true }) r
      where-gives {after} {new} {c} r x left right ex el er l n e h₀ =
          let h = subst (λ i. Holds after (splits new c i (word 1) (word 2))) ex (subst₂ (λ i j. Holds after (splits new c x i j)) el er h₀) in
          let y = token-room a.taking.lawful next given l in
          let z = cell_room a.taking.lawful nextc givenc n in
          let k = a.taking.lawful.marks in
          gives_made _ r (where-step dag actor m new c y.0 y.1 z.0 z.1 a) e h
          (carried-as
          (split-carried paper (dag_of dag) m a.taking.lawful.rules actor.place a.taking.queued actor.token a.taking.token fitting y.0 new
          y.1 z.0 c
          z.1 (word 3) (word 1) (word 2))
          (ap (λ u. set u new true) (sym k.tokens)) (ap (λ u. set u c true) (sym k.cells)))
