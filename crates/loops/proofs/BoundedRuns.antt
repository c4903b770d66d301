-- Along a run the machine is seen as a state whose tokens need no more than at the start, and the cells in use with those still needed are
-- no more either: each accepted call is a step of the abstract machine, and only a where adds a cell. Assumes nothing.
use mathlib.Core.Path.{◌≡◌, refl, sym, ◌∙◌, ap, subst}
use mathlib.Core.Bool.{true, false}
use mathlib.Core.List.{List}
use Prim.Native.Nat.{ℕ, ◌+◌, ◌<◌, ◌≤◌}
use native.Mathlib.Omega.{arith}
use lib.ListN.{get_or}
use lib.IntN.{ℤ}
use Rattle.job.specs.Node.{Node, Dag, node_at, dag_holds}
use Rattle.model.specs.Machine.Limits.{Limits}
use Rattle.model.specs.Machine.InUse.{tokens_used, cells_used, marked}
use Rattle.model.specs.Machine.Rules.{rules_hold}
use Rattle.model.specs.Machine.Reply.{is_refused}
use Rattle.model.specs.Machine.Start.{start}
use Rattle.model.specs.Machine.Step as Step
use Rattle.model.specs.Machine.Step.{has_token_place, has_cell_place, takes}
use Rattle.model.specs.Run.Call.{Call, step, answer, advance, runner, outcome_of, machine_after, started}
use Rattle.model.specs.declared.record.Machine.{Machine}
use Rattle.model.specs.declared.reply.Outcome.{Outcome}
use Rattle.calculus.specs.Event.{Event}
use Rattle.calculus.specs.Expression.{Exp}
use Rattle.job.proofs.Test.{lt-ltb}
use Rattle.model.proofs.Machine.Refused.{StepAccepted, step-accepted}
use Rattle.model.proofs.Machine.Rules.{ready-state}
use Rattle.model.proofs.Machine.StartUsed.{start-within}
use Rattle.model.proofs.Run.Queue.{queue-rules-hold}
use Rattle.model.proofs.Run.Passage.{calls-keep}
use Rattle.simulation.proofs.AbstractMachine as Abstract
use Rattle.simulation.proofs.AbstractMachine.{Program, Binding, Frame, Move, at, running, after}
use Rattle.simulation.proofs.Shuffle.{Split}
use Rattle.lockstep.proofs.Labels.{Labels, node_meant, program_of, Flow}
use Rattle.lockstep.proofs.View.{World}
use Rattle.lockstep.proofs.Seen.{world, Sees, seen_as}
use Rattle.lockstep.proofs.ActsAgree.{Taken, taken, take-ready}
use Rattle.lockstep.proofs.StartSeen.{start-sees}
use Rattle.lockstep.proofs.Lockstep.{Fitting, takes-agrees, shown_by, Steps, steps, answer-locks, advance-locks}
use Rattle.model.proofs.Machine.Added.{tokens_added, cells_added, node_taken}
use Rattle.demand3.proofs.Larger.{allowing, step-adds, answer-adds, advance-adds}
use Rattle.loops.proofs.Weights.{made_at, Weighs, in_goal, Entries, alone}
use Rattle.loops.proofs.StepWeighs.{Around, around, weighed-around, cells_made, Leaves, leaves, StateWeighs, weighs, step-leaves}
use Rattle.loops.proofs.Covered.{uses, split-uses, sees-uses}
use Rattle.loops.proofs.Room.{added_at, place-room, place-cells, weighed-uses}
use Rattle.loops.proofs.NotFull.{RoomFor}

-- both machines make a cell at a where
meant-adds : (scope : List ℕ) (N : Node) → made_at (node_meant scope N) ≡ cells_added N
unfolding node_meant cells_added
meant-adds scope Node.stop = refl
meant-adds scope (Node.site s ps k) = refl
meant-adds scope (Node.call e ps k) = refl
meant-adds scope (Node.fork l r) = refl
meant-adds scope (Node.assign x k) = refl
meant-adds scope (Node.remove x k) = refl
meant-adds scope (Node.where' x l r) = refl
meant-adds scope Node.choke = refl
meant-adds scope Node.return = refl
meant-adds scope Node.publish = refl
meant-adds scope Node.unknown = refl

-- and add a token at the same nodes
meant-tokens : (d : Dag) (M : Labels) (bodies : ℕ → Exp) (scope : List ℕ) (N : Node)
    → added_at (program_of d M bodies) (node_meant scope N) ≡ tokens_added d N
unfolding node_meant tokens_added
meant-tokens d M bodies scope Node.stop = refl
meant-tokens d M bodies scope (Node.site s ps k) = refl
meant-tokens d M bodies scope (Node.call e ps k) = refl
meant-tokens d M bodies scope (Node.fork l r) = refl
meant-tokens d M bodies scope (Node.assign x k) = refl
meant-tokens d M bodies scope (Node.remove x k) = refl
meant-tokens d M bodies scope (Node.where' x l r) = refl
meant-tokens d M bodies scope Node.choke = refl
meant-tokens d M bodies scope Node.return = refl
meant-tokens d M bodies scope Node.publish = refl
meant-tokens d M bodies scope Node.unknown = refl

module _ (lim : Limits) (d : Dag) (M : Labels) (bodies : ℕ → Exp) (fits : Fitting lim) (flow : Flow d M)
    (rank : ℕ → ℕ) (top : ℕ) (entries : Entries (program_of d M bodies) rank top) (T C : ℕ) where
  abbrev G : Program
  G = program_of d M bodies

  -- tokens are no more than T, and cells with those still needed no more than C
  pub data Light (m : Machine) : Type 0 where
    light : {s : Abstract.State} {v : ℕ} → Sees M m s → StateWeighs G rank top T v s → marked (cells_used m) + v ≤ C → Light m

  left : {s : Abstract.State} {made v : ℕ} (m m' : Machine) → Sees M m' s → Leaves G rank top made T v s
      → marked (cells_used m') ≤ made + marked (cells_used m) → marked (cells_used m) + v ≤ C → Light m'
  left m m' sn (leaves {y = y} n l) i j =
      light sn (weighs n) (let z : marked (cells_used m') + y ≤ C = omega arith in z)

  -- a step
  step-light : (m : Machine) (k : ℕ) → is_refused (Step.step lim d m k).reply ≡ false → Light m → Light (Step.step lim d m k).machine
  step-light m k ok (light {v = needed} (seen_as {S = S} {σ = σ} {new = new} name place A K) (weighs w) c) =
      go (take-ready p K (ready-state _ ((queue-rules-hold lim d m a.holds).ready k a.queued)))
    where
      a : StepAccepted lim d m k
      a = step-accepted lim d m k ok

      p : ℕ
      p = get_or m.queue k 0

      W : World
      W = world m.tokens m.cells name place σ new

      adds : marked (cells_used (Step.step lim d m k).machine) ≤ cells_added (node_taken d m k) + marked (cells_used m)
      adds = (step-adds lim d m k ok).1

      go : Taken M W p S → Light (Step.step lim d m k).machine
      go (taken {L = L} {R = R} {n = n} {B = B} {F = F} {U = U} {v = v} split acting) =
          let x = Abstract.act G m.clock σ new m.calls (at n B F U) v in
          let sn =
          (shown_by M W L R m.clock m.calls x k m (takes lim d m k)
          (takes-agrees lim d M bodies fits flow m k a.holds a.queued acting)
          (subst (λ (o : Outcome). is_refused o.reply ≡ false) a.does ok)).1 in
          let same : made_at (G.node n) ≡ cells_added (node_taken d m k) =
          meant-adds (M.scope n) (node_at d n) ∙ ap (λ i. cells_added (node_at d i)) (sym acting.place.node) in
          left m (Step.step lim d m k).machine
          (subst (λ (o : Outcome). Sees M o.machine (after L R m.clock σ new m.calls x)) (sym a.does) sn)
          (step-leaves G rank top entries (Abstract.step Move.acts split) (weighs w))
          (let z : marked (cells_used (Step.step lim d m k).machine) ≤ made_at (G.node n) + marked (cells_used m) =
          omega (arith, adds, same) in z)
          c

  -- an answer, a clock move: no cell is added
  other-light : {s : Abstract.State} {es : List Event} {v : ℕ} (m m' : Machine) → Steps d M bodies s es m' → StateWeighs G rank top T v s
      → marked (cells_used m') ≤ marked (cells_used m) → marked (cells_used m) + v ≤ C → Light m'
  other-light m m' (steps st e sn) w i j =
      left m m' sn (step-leaves G rank top entries st w)
      (let z : marked (cells_used m') ≤ cells_made st + marked (cells_used m) = omega arith in z) j

  call-light : (m : Machine) (c : Call) → is_refused (outcome_of runner lim d m c).reply ≡ false → Light m
      → Light (outcome_of runner lim d m c).machine
  unfolding outcome_of
  call-light m (step k) ok x = step-light m k ok x
  call-light m (answer h v signed) ok (light sn w c) =
      other-light m _ (answer-locks lim d M bodies fits flow m sn h v signed ok) w (answer-adds lim d m h v ok).1 c
  call-light m (advance time) ok (light sn w c) =
      other-light m _ (advance-locks lim d M bodies fits flow m sn time ok) w (advance-adds lim d m time ok).1 c

  no_cells : marked (cells_used (started runner lim d)) ≤ 0
  unfolding start
  no_cells = (start-within (allowing lim 1 0) d (omega arith)).1

  start-light : 0 < lim.token_places → dag_holds d ≡ true → Weighs G rank top d.goal T C → Light (started runner lim d)
  start-light some holds x =
      light (start-sees lim d M flow some holds)
      (weighs (alone G rank top (in_goal x (let z : T ≤ T = omega arith in z))))
      (let z = no_cells in omega arith)

  pub run-light : 0 < lim.token_places → dag_holds d ≡ true → Weighs G rank top d.goal T C → (calls : List Call)
      → Light (machine_after runner lim d (started runner lim d) calls)
  run-light some holds x calls = calls-keep lim d Light call-light (started runner lim d) calls (start-light some holds x)

  -- so what is in use is bounded
  seen-tokens : (m : Machine) {s : Abstract.State} {v : ℕ} → Sees M m s → StateWeighs G rank top T v s → marked (tokens_used m) ≤ T
  seen-tokens m sn (weighs n) = let z = sees-uses m sn in let y = weighed-uses G rank top n in omega arith

  pub light-in-use : (m : Machine) → Light m → (marked (tokens_used m) ≤ T) × (marked (cells_used m) ≤ C)
  light-in-use m (light sn w c) = (seen-tokens m sn w, omega arith)

  -- and where the limits are no smaller there is room for what a step's token adds
  room-around : (m : Machine) {S L R : List Abstract.Token} {n v : ℕ} {B : List Binding} {F : List Frame} {U : List ℕ} {z : ℤ}
      → Split (running (at n B F U) z) S L R → marked (tokens_used m) ≤ uses S → marked (cells_used m) + v ≤ C
      → T ≤ lim.tokens → C ≤ lim.cells
      → Around G rank top (running (at n B F U) z) L R T v
      → (added_at G (G.node n) ≡ 1 → has_token_place lim m ≡ true) × (made_at (G.node n) ≡ 1 → has_cell_place lim m ≡ true)
  unfolding has_token_place has_cell_place
  room-around m split used cells tokens-fit cells_fit (around l p r i j) =
      let a = place-room G rank top p in
      let b = place-cells G rank top p in
      let c = weighed-uses G rank top l in
      let e = weighed-uses G rank top r in
      let f = split-uses split in (
        λ x. lt-ltb (marked (tokens_used m)) lim.tokens (omega arith),
        λ x. lt-ltb (marked (cells_used m)) lim.cells (omega arith),
      )

  pub light-room : (m : Machine) → Light m → T ≤ lim.tokens → C ≤ lim.cells → (k : ℕ) → rules_hold lim d m ≡ true → k < m.queued
      → RoomFor lim d m k
  light-room m (light (seen_as {S = S} {σ = σ} {new = new} name place A K) (weighs w) c) i j k holds l =
      go (take-ready p K (ready-state _ ((queue-rules-hold lim d m holds).ready k l)))
    where
      p : ℕ
      p = get_or m.queue k 0

      go : Taken M (world m.tokens m.cells name place σ new) p S → RoomFor lim d m k
      go (taken {n = n} split acting) =
          let r = room-around m split (sees-uses m (seen_as name place A K)) c i j (weighed-around G rank top split w) in
          let at_n = acting.place.node in (
            λ e. r.0 (meant-tokens d M bodies (M.scope n) (node_at d n) ∙ (ap (λ x. tokens_added d (node_at d x)) (sym at_n) ∙ e)),
            λ e. r.1 (meant-adds (M.scope n) (node_at d n) ∙ (ap (λ x. cells_added (node_at d x)) (sym at_n) ∙ e)),
          )
