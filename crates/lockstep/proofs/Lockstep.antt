-- The lock step: each accepted call of the concrete machine is one step of the abstract machine that shows the same events, and the
-- machines are seen as one another again. So each run's event list is shown by a run of the abstract machine. Nothing but the view is
-- carried from call to call: an accepted call has tested the rules itself. Assumes nothing.
use mathlib.Core.Path.{◌≡◌, refl, sym, ◌∙◌, ap, subst}
use mathlib.Core.Logic.{◌⊎◌, inl, inr}
use mathlib.Core.Bool.{Bool, true, false}
use mathlib.Core.List.{List, [], ◌∷◌, ◌++◌}
use Prim.Native.Nat.{ℕ, ◌<◌, ◌≤◌}
use native.Mathlib.Omega.{arith}
use lib.ListN.{length, get_or}
use lib.Seq.{take-append_seam}
use lib.IntN.{ℤ}
use Rattle.std.specs.Prelude.{Some, None}
use Rattle.job.specs.Test.{padded, without}
use Rattle.job.specs.Number.{Signed32}
use Rattle.job.specs.Site.{last_time}
use Rattle.job.specs.Node.{Dag, node_at, is_node, dag_holds}
use Rattle.model.specs.Machine.Limits.{Limits, limits}
use Rattle.model.specs.Machine.Blank.{blank_token, token_at}
use Rattle.model.specs.Machine.InUse.{tokens_used, cells_used, marked}
use Rattle.model.specs.Machine.FreePlace.{next_place}
use Rattle.model.specs.Machine.Rules.{token_in_range, rules_hold}
use Rattle.model.specs.Machine.Reply.{Effect, moves, waits, publishes, calls, refuses, accepted, outcome, is_refused}
use Rattle.model.specs.Machine.Step as Step
use Rattle.model.specs.Machine.Update.{with_orders, queue_of, waits_of}
use Rattle.model.specs.Machine.Step.{has_token_place, has_cell_place, takes}
use Rattle.model.specs.Machine.Answer as Answer
use Rattle.model.specs.Machine.Answer.{holder, answered}
use Rattle.model.specs.Machine.Clock as Clock
use Rattle.model.specs.Machine.Clock.{takes_time}
use Rattle.calculus.specs.Event.{Event, Label, silently, showing}
use Rattle.calculus.specs.Expression.{Exp}
use Rattle.calculus.specs.Allowed.{shown}
use Rattle.model.specs.Run.Call.{Call, step, answer, advance, runner, events_of, outcome_of, events_from, started}
use Rattle.model.specs.Machine.Held.{Place}
use Rattle.model.specs.declared.record.Machine.{Machine}
use Rattle.model.specs.declared.reply.Reply.TheVariants as replies
use Rattle.model.specs.declared.reply.Outcome.{Outcome}
use Rattle.job.proofs.Test.{clash, holds-or-fails, and_left, and_right, all-at, ltb-lt, leb-le}
use Rattle.model.proofs.Machine.Marks.{Free}
use Rattle.model.proofs.Machine.InUse.{tokens-used, cells-used}
use Rattle.model.proofs.Machine.Places.{next-place-free}
use Rattle.model.proofs.Machine.Rules.{EachRuleHolds, each-rule-holds, ready-state}
use Rattle.model.proofs.Machine.Rules.{tokens-sized, cells-sized, lasttoken-inside, lastcell-inside}
use Rattle.model.proofs.Machine.Refused.{StepAccepted, step-accepted, AnswerAccepted, answer-accepted, AdvanceAccepted}
use Rattle.model.proofs.Machine.Refused.{advance-accepted}
use Rattle.model.proofs.Run.Passage.{events_by, Passage, passage}
use Rattle.model.proofs.Run.Queue.{queue-rules-hold}
use Rattle.simulation.proofs.AbstractMachine as Abstract
use Rattle.simulation.proofs.AbstractMachine.{Binding, Frame, at, Store, state, label_of, after, Move, start_at}
use Rattle.lockstep.proofs.Tails.{tail-labels}
use Rattle.lockstep.proofs.Labels.{Labels, program_of, Flow}
use Rattle.lockstep.proofs.View.{World}
use Rattle.lockstep.proofs.Seen.{world, Sees, seen_as, sweep-sees}
use Rattle.lockstep.proofs.Agrees.{Acting, Shows, Agrees}
use Rattle.lockstep.proofs.ActsAgree.{Taken, taken, take-ready, act-agrees}
use Rattle.lockstep.proofs.AnswerAgrees.{holder-called, Pending, pending, find-pending, answered-becomes}
use Rattle.lockstep.proofs.ClockAgrees.{advanced-sees}
use Rattle.lockstep.proofs.StartSeen.{start-sees}

-- tables at least as large as the limits
pub record Fitting (lim : Limits) : Type 0 where
  pub tokens : lim.tokens ≤ lim.token_places
  pub cells : lim.cells ≤ lim.cell_places

pub fitting : (t c k : ℕ) → Fitting (limits t c k)
fitting t c k = record { tokens = omega arith; cells = omega arith }

-- what the rules of an accepted step give: new places are free, and the token that acts is ready and at a node
module _ (lim : Limits) (d : Dag) (m : Machine) (holds : rules_hold lim d m ≡ true) where
  rules : EachRuleHolds lim d m
  rules = each-rule-holds lim d m holds

  pub free-token : Fitting lim → has_token_place lim m ≡ true → Free (tokens_used m) (next_place (tokens_used m) m.lasttoken)
  unfolding has_token_place
  free-token fits e =
      let few = ltb-lt (marked (tokens_used m)) lim.tokens e in
      let size = (tokens-used m.tokens m.cells).size in
      let places = tokens-sized lim d m holds in
      let last = lasttoken-inside lim d m holds in
      let room : lim.tokens ≤ lim.token_places = fits.tokens in
      next-place-free (tokens_used m) m.lasttoken (omega arith) (omega arith)

  pub free-cell : Fitting lim → has_cell_place lim m ≡ true → Free (cells_used m) (next_place (cells_used m) m.lastcell)
  unfolding has_cell_place
  free-cell fits e =
      let few = ltb-lt (marked (cells_used m)) lim.cells e in
      let size = (cells-used (tokens_used m) m.tokens m.cells (tokens-used m.tokens m.cells).size).size in
      let places = cells-sized lim d m holds in
      let last = lastcell-inside lim d m holds in
      let room : lim.cells ≤ lim.cell_places = fits.cells in
      next-place-free (cells_used m) m.lastcell (omega arith) (omega arith)

  pub at-node : (p : ℕ) → p < length m.tokens → (token_at m.tokens p).node < length d.nodes
  unfolding token_at token_in_range is_node
  at-node p l = ltb-lt _ _ (and_left _ _ (all-at (token_in_range lim d m.calls) m.tokens p blank_token rules.tokens l))

-- the abstract machine makes a step that shows the events, and m is seen as what it comes to
module _ (d : Dag) (M : Labels) (bodies : ℕ → Exp) where
  pub data Steps (s : Abstract.State) (es : List Event) (m : Machine) : Type 0 where
    steps : {a : Label} {s' : Abstract.State} → Abstract.Step (program_of d M bodies) s a s' → es ≡ shown a [] → Sees M m s' → Steps s es m

called-shows : (place h s : ℕ) (vs : List ℤ) (m : Machine)
    → events_by (step place) (accepted (replies.Called h s (length vs)) vs m) ≡ Event.call h s vs ∷ []
unfolding events_of accepted padded
called-shows place h s vs m = ap (λ ws. Event.call h s ws ∷ []) (take-append_seam vs _)

-- a time that the clock takes
time-taken : (m : Machine) (time : ℕ) → takes_time m time ≡ true → (m.clock ≤ time) × (time ≤ last_time)
unfolding takes_time
time-taken m time e = (leb-le m.clock time (and_left _ _ e), leb-le time last_time (and_right _ _ e))

-- an outcome shows what its effect does, and its machine is the effect's, blanked
module _ (M : Labels) (W : World) (L R : List Abstract.Token) (now h : ℕ) (x : Abstract.Effect) (place : ℕ)
    (before : Machine) where
  pub shown_by : (e : Effect) → Agrees M W L R now h e x → is_refused (outcome before e).reply ≡ false
      → (events_by (step place) (outcome before e) ≡ shown (label_of x) [])
      × Sees M (outcome before e).machine (after L R now W.store W.new h x)
  unfolding Shows outcome accepted events_of is_refused shown
  shown_by (moves m) b ok = (ap (λ a. shown a []) (sym b.label), sweep-sees m b.machine)
  shown_by (waits m) b ok = (ap (λ a. shown a []) (sym b.label), sweep-sees m b.machine)
  shown_by (publishes v m) b ok = (ap (λ a. shown a []) (sym b.label), sweep-sees m b.machine)
  shown_by (calls k s vs m) b ok = (called-shows place k s vs m ∙ ap (λ a. shown a []) (sym b.label), sweep-sees m b.machine)
  shown_by (refuses r) b ok = clash refl ok

module _ (lim : Limits) (d : Dag) (M : Labels) (bodies : ℕ → Exp) (fits : Fitting lim) (flow : Flow d M) where
  -- what a step that takes a queued token does, whether or not it is refused
  pub takes-agrees : (m : Machine) (k : ℕ) → rules_hold lim d m ≡ true → k < m.queued → {name place : ℕ → ℕ} {σ : Store} {new : ℕ}
      {L R : List Abstract.Token} {n : ℕ} {B : List Binding} {F : List Frame} {U : List ℕ} {v : ℤ}
      → Acting M (world m.tokens m.cells name place σ new) (get_or m.queue k 0) L R n B F U v
      → Agrees M (world m.tokens m.cells name place σ new) L R m.clock m.calls (takes lim d m k)
      (Abstract.act (program_of d M bodies) m.clock σ new m.calls (at n B F U) v)
  unfolding takes
  takes-agrees m k holds l {name} {place} {σ} {new} {L} {R} {n} {B} {F} {U} {v} acting =
      subst
      (λ i. Agrees M W L R m.clock m.calls
      (Step.act lim d m (with_orders (without k (queue_of m)) (waits_of m) m) p (token_at m.tokens p) (node_at d i)) x)
      (sym acting.place.node)
      (act-agrees lim d M bodies m (without k (queue_of m)) (waits_of m) acting
      (free-token lim d m holds fits) (free-cell lim d m holds fits) (tail-labels d M flow) (flow.at n there))
    where
      W : World
      W = world m.tokens m.cells name place σ new

      p : ℕ
      p = get_or m.queue k 0

      x : Abstract.Effect
      x = Abstract.act (program_of d M bodies) m.clock σ new m.calls (at n B F U) v

      there : n < length d.nodes
      there = subst (λ i. i < length d.nodes) acting.place.node (at-node lim d m holds p ((queue-rules-hold lim d m holds).named k l))

  -- an accepted step
  pub step-locks : (m : Machine) {s : Abstract.State} → Sees M m s → (place : ℕ) → is_refused (Step.step lim d m place).reply ≡ false
      → Steps d M bodies s (events_by (step place) (Step.step lim d m place)) (Step.step lim d m place).machine
  step-locks m (seen_as {S = S} {σ = σ} {new = new} name place A K) k ok =
      subst (λ (o : Outcome). Steps d M bodies (state S σ new m.calls m.clock) (events_by (step k) o) o.machine) (sym a.does)
      (go (take-ready p K (ready-state _ ((queue-rules-hold lim d m a.holds).ready k a.queued))))
    where
      a : StepAccepted lim d m k
      a = step-accepted lim d m k ok

      p : ℕ
      p = get_or m.queue k 0

      W : World
      W = world m.tokens m.cells name place σ new

      o : Outcome
      o = outcome m (takes lim d m k)

      go : Taken M W p S → Steps d M bodies (state S σ new m.calls m.clock) (events_by (step k) o) o.machine
      go (taken {L = L} {R = R} {n = n} {B = B} {F = F} {U = U} {v = v} split acting) =
          let both =
          shown_by M W L R m.clock m.calls (Abstract.act (program_of d M bodies) m.clock σ new m.calls (at n B F U) v) k m
          (takes lim d m k)
          (takes-agrees m k a.holds a.queued acting)
          (subst (λ (o : Outcome). is_refused o.reply ≡ false) a.does ok) in
          steps (Abstract.step Move.acts split) both.0 both.1

  -- an accepted answer
  pub answer-locks : (m : Machine) {s : Abstract.State} → Sees M m s → (h : ℕ) (v : ℤ) (signed : Signed32 v)
      → is_refused (Answer.answer lim d m h v).reply ≡ false
      → Steps d M bodies s (events_by (answer h v signed) (Answer.answer lim d m h v)) (Answer.answer lim d m h v).machine
  answer-locks m (seen_as {S = S} {σ = σ} {new = new} name place A K) h v signed ok =
      subst Locked (sym a.does)
      (go (holder h 0 m.tokens) refl (subst (λ (o : Outcome). is_refused o.reply ≡ false) a.does ok))
    where
      Locked : Outcome → Type 0
      Locked o = Steps d M bodies (state S σ new m.calls m.clock) (events_by (answer h v signed) o) o.machine

      a : AnswerAccepted lim d m h v
      a = answer-accepted lim d m h v ok

      W : World
      W = world m.tokens m.cells name place σ new

      found : (p : ℕ) → Pending M W p h S → Locked (outcome m (answered m v (Some p)))
      found p (pending split others view clear seen) = unfold answered outcome accepted is_refused events_of shown in
          steps (Abstract.step (Move.answered v signed) split) refl (sweep-sees _ (answered-becomes m h v others view clear seen).machine)

      go : (q : Place) → holder h 0 m.tokens ≡ q → is_refused (outcome m (answered m v q)).reply ≡ false
          → Locked (outcome m (answered m v q))
      go None e r = unfold answered outcome is_refused in clash refl r
      go (Some p) e r = found p (find-pending p h K (holder-called h m.tokens p e))

  -- an accepted clock move
  pub advance-locks : (m : Machine) {s : Abstract.State} → Sees M m s → (time : ℕ) → is_refused (Clock.advance lim d m time).reply ≡ false
      → Steps d M bodies s (events_by (advance time) (Clock.advance lim d m time)) (Clock.advance lim d m time).machine
  unfolding outcome accepted is_refused events_of shown
  advance-locks m (seen_as {S = S} {σ = σ} {new = new} name place A K) time ok =
      subst
      (λ (o : Outcome). Steps d M bodies (state S σ new m.calls m.clock) (events_by (advance time) o) o.machine)
      (sym a.does)
      (steps (Abstract.ticks (time-taken m time a.takes).0 (time-taken m time a.takes).1) refl
      (sweep-sees _ (advanced-sees m time K)))
    where
      a : AdvanceAccepted lim d m time
      a = advance-accepted lim d m time ok

-- "14: dag .. breaks an index rule": nothing is accepted on such a dag
accepted-dag : (lim : Limits) (d : Dag) (m : Machine) (c : Call) → is_refused (outcome_of runner lim d m c).reply ≡ false
    → dag_holds d ≡ true
unfolding outcome_of
accepted-dag lim d m (step place) ok = (each-rule-holds lim d m (step-accepted lim d m place ok).holds).dag
accepted-dag lim d m (answer h v signed) ok = (each-rule-holds lim d m (answer-accepted lim d m h v ok).holds).dag
accepted-dag lim d m (advance time) ok = (each-rule-holds lim d m (advance-accepted lim d m time ok).holds).dag

pub shown-append : (a : Label) (es : List Event) → shown a [] ++ es ≡ shown a es
unfolding shown
shown-append silently es = refl
shown-append (showing e) es = refl

module _ (lim : Limits) (d : Dag) (M : Labels) (bodies : ℕ → Exp) (fits : Fitting lim) (flow : Flow d M) where
  pub call-locks : (m : Machine) {s : Abstract.State} → Sees M m s → (c : Call) → is_refused (outcome_of runner lim d m c).reply ≡ false
      → Steps d M bodies s (events_by c (outcome_of runner lim d m c)) (outcome_of runner lim d m c).machine
  unfolding outcome_of
  call-locks m sn (step place) ok = step-locks lim d M bodies fits flow m sn place ok
  call-locks m sn (answer h v signed) ok = answer-locks lim d M bodies fits flow m sn h v signed ok
  call-locks m sn (advance time) ok = advance-locks lim d M bodies fits flow m sn time ok

  -- the abstract machine runs from s and shows the events, and m is seen as what it comes to
  pub data Runs (s : Abstract.State) (es : List Event) (m : Machine) : Type 0 where
    runs : {s' : Abstract.State} → Abstract.Run (program_of d M bodies) s es s' → Sees M m s' → Runs s es m

  -- "any list of calls"
  pub calls-lock : {m end : Machine} {cs : List Call} {es : List Event} {fine : Bool} → Passage lim d m cs es fine end
      → (s : Abstract.State) → Sees M m s → Runs s es end
  calls-lock Passage.none s sn = runs Abstract.rests sn
  calls-lock (Passage.refused no' p) s sn = calls-lock p s sn
  calls-lock (Passage.accepted {m = m} {end = end} {c = c} {es = es} ok p) s sn = locked (call-locks m sn c ok) (λ s' x. calls-lock p s' x)
    where
      o : Outcome
      o = outcome_of runner lim d m c

      first : {s₁ : Abstract.State} {a : Label} → Abstract.Step (program_of d M bodies) s a s₁ → events_by c o ≡ shown a [] → Runs s₁ es end
          → Runs s (events_by c o ++ es) end
      first {a = a} st e (runs r sn') =
          subst (λ es. Runs s es end) (sym (ap (λ xs. xs ++ es) e ∙ shown-append a es)) (runs (Abstract.then st r) sn')

      locked : Steps d M bodies s (events_by c o) o.machine → ((s' : Abstract.State) → Sees M o.machine s' → Runs s' es end)
          → Runs s (events_by c o ++ es) end
      locked (steps st e sn') f = first st e (f _ sn')

  -- on a dag that breaks a rule every call is refused
  no-events : dag_holds d ≡ false → {m end : Machine} {cs : List Call} {es : List Event} {fine : Bool} → Passage lim d m cs es fine end
      → es ≡ []
  no-events e Passage.none = refl
  no-events e (Passage.refused no' p) = no-events e p
  no-events e (Passage.accepted {m = m} {c = c} ok p) = clash (accepted-dag lim d m c ok) e

  -- "each run's event list": from the start on, some run of the abstract machine shows it
  pub data Shown (es : List Event) : Type 0 where
    shows : {s : Abstract.State} → Abstract.Run (program_of d M bodies) (start_at d.goal) es s → Shown es

  pub run-shown : 0 < lim.token_places → (cs : List Call) → Shown (events_from runner lim d (started runner lim d) cs)
  run-shown some cs = go (holds-or-fails (dag_holds d))
    where
      from : {es : List Event} {m : Machine} → Runs (start_at d.goal) es m → Shown es
      from (runs r sn) = shows r

      go : (dag_holds d ≡ true) ⊎ (dag_holds d ≡ false) → Shown (events_from runner lim d (started runner lim d) cs)
      go (inl holds) = from (calls-lock (passage lim d cs (started runner lim d)) (start_at d.goal) (start-sees lim d M flow some holds))
      go (inr broken) = subst Shown (sym (no-events broken (passage lim d cs (started runner lim d)))) (shows Abstract.rests)
