-- What is carried through a run, in one record: the machine is seen as a state of the abstract machine, has the facts, and is blank where
-- it is not in use. It holds of the start and after each accepted step, answer and clock move, together with the abstract machine's step;
-- and it gives the index rules. Assumes nothing.
use mathlib.Core.Path.{◌≡◌, refl, sym, ◌∙◌, ap, subst}
use mathlib.Core.Bool.{true, false}
use mathlib.Core.List.{List, [], ◌∷◌, ◌++◌}
use Prim.Native.Nat.{ℕ, ◌<◌, ◌≤◌}
use native.Mathlib.Omega.{arith}
use lib.ListN.{length, get_or, replicate, length-set, length-replicate}
use lib.Seq.{get_or-take}
use lib.IntN.{ℤ}
use Rattle.std.specs.Prelude.{Some, None}
use Rattle.job.specs.Test.{without}
use Rattle.job.specs.Number.{Signed32}
use Rattle.job.specs.Node.{Dag, node_at, dag_holds}
use Rattle.model.specs.Machine.Limits.{Limits, limits, paper}
use Rattle.model.specs.Machine.Blank.{blank_token, token_at}
use Rattle.model.specs.Machine.State.{is_live, is_ready, is_waiting, is_due}
use Rattle.model.specs.Machine.InUse.{tokens_used, cells_used, sweep}
use Rattle.model.specs.Machine.Rules.{held_in_range, place_in_range, rules_hold}
use Rattle.model.specs.Machine.Reply.{Effect, moves, waits, publishes, calls, refuses, is_refused}
use Rattle.model.specs.Machine.Start.{start_token, start_machine}
use Rattle.model.specs.Machine.Update as Update
use Rattle.model.specs.Machine.Step as Step
use Rattle.model.specs.Machine.Update.{with_orders, queue_of, waits_of, put, enqueue, with_state}
use Rattle.model.specs.Machine.Update.{with_value}
use Rattle.model.specs.Machine.Step.{has_token_place, has_cell_place, token_place, cell_place, takes}
use Rattle.model.specs.Machine.Answer as Answer
use Rattle.model.specs.Machine.Answer.{holder, answered}
use Rattle.model.specs.Machine.Clock as Clock
use Rattle.model.specs.Machine.Clock.{after_advance}
use Rattle.calculus.specs.Event.{Event, Label}
use Rattle.calculus.specs.Expression.{Exp}
use Rattle.calculus.specs.Allowed.{shown}
use Rattle.model.specs.Run.Call.{Call, step, answer, advance, runner, outcome_of}
use Rattle.model.specs.Machine.Held.{Place}
use Rattle.model.specs.declared.token.State.TheVariants as states
use Rattle.model.specs.declared.token.Token.{Token}
use Rattle.model.specs.declared.record.Machine.{Machine}
use Rattle.model.specs.declared.reply.Outcome.{Outcome}
use Rattle.job.proofs.Test.{clash, false_of, ltb-lt}
use Rattle.job.proofs.DagRules.{dag-rules, node-rules}
use Rattle.model.proofs.Machine.Marks.{Marked, free-inside}
use Rattle.model.proofs.Machine.InUse.{tokens-used, cells-used}
use Rattle.model.proofs.Machine.Refused.{After, after-outcome, step-accepted, AnswerAccepted, answer-accepted, AdvanceAccepted}
use Rattle.model.proofs.Machine.Refused.{advance-accepted}
use Rattle.simulation.proofs.AbstractMachine as Abstract
use Rattle.simulation.proofs.AbstractMachine.{Store, start_at}
use Rattle.lockstep.proofs.Labels.{Labels, program_of, Flow}
use Rattle.lockstep.proofs.View.{World, CellsSeen}
use Rattle.lockstep.proofs.Seen.{world, Sees, seen_as, token-at, token-used, live-listed}
use Rattle.lockstep.proofs.Agrees.{Shows}
use Rattle.lockstep.proofs.ActsAgree.{taken, take-ready}
use Rattle.lockstep.proofs.ActsAgree as Acts
use Rattle.lockstep.proofs.AnswerAgrees.{holder-called, Pending, pending, find-pending, answered-becomes}
use Rattle.lockstep.proofs.ClockAgrees.{advanced-sees}
use Rattle.lockstep.proofs.StartSeen.{start-machine-sees}
use Rattle.lockstep.proofs.Lockstep as Lockstep
use Rattle.model.proofs.Run.Passage.{events_by}
use Rattle.lockstep.proofs.Lockstep.{free-token, free-cell, takes-agrees, Steps, steps, call-locks}
use Rattle.model.proofs.Keeps.NamedOnce.{Lines, Taken, take_out, taken-ready, lines_new}
use Rattle.model.proofs.Keeps.Orders.{queue-is, waits-are, orders-put, orders-enqueue, timers-put, timers-enqueue}
use Rattle.model.proofs.Keeps.TableFacts.{Idle, idle-holds, tables-write}
use Rattle.model.proofs.Keeps.Facts.{sizes-as, Facts, start-facts, LiveUsed, sweep-facts}
use Rattle.model.proofs.Keeps.Clock.{advanced-facts}
use Rattle.demand3.proofs.ActsKeep.{Vacant, acted}
use Rattle.model.proofs.Keeps.Clean.{Clean, sweep-clean, start-clean}
use Rattle.demand3.proofs.RulesKept.{slot-inside, cells-range, rules-hold}
use Rattle.model.proofs.Machine.TableRows.{token-same, live_inside}

pub record Reached (lim : Limits) (d : Dag) (M : Labels) (m : Machine) (s : Abstract.State) : Type 0 where
  pub view : Sees M m s
  pub facts : Facts lim d m
  pub clean : Clean m

-- what limits must be: tables with a place, and at least as large as the limits
pub record Roomy (lim : Limits) : Type 0 where
  pub token_places : 1 ≤ lim.token_places
  pub cell_places : 1 ≤ lim.cell_places
  pub tokens : lim.tokens ≤ lim.token_places
  pub cells : lim.cells ≤ lim.cell_places

pub limits-roomy : (t c k : ℕ) → 1 ≤ t → 1 ≤ c → Roomy (limits t c k)
limits-roomy t c k a b = record { token_places = a; cell_places = b; tokens = omega arith; cells = omega arith }

pub paper-roomy : Roomy paper
paper-roomy = limits-roomy 64 32 1000000 (omega arith) (omega arith)

fitting : {lim : Limits} → Roomy lim → Lockstep.Fitting lim
fitting r = record { tokens = r.tokens; cells = r.cells }

-- a machine that is seen has its live tokens in use
pub sees-live : {M : Labels} {m : Machine} {s : Abstract.State} → Sees M m s → LiveUsed m
sees-live (seen_as name place A K) p e = token-used _ p (token-at p (live-listed p K e) K.seen).1

shows-after : (P : Label → Machine → Type 0) (Q : Machine → Type 0) → ((a : Label) (o : Machine) → P a o → Q o) → (e : Effect) → Shows P e
    → After Q e
unfolding Shows After
shows-after P Q f (moves o) x = f _ o x
shows-after P Q f (waits o) x = f _ o x
shows-after P Q f (publishes v o) x = f _ o x
shows-after P Q f (calls h s vs o) x = f _ o x
shows-after P Q f (refuses r) x = tt

after_both : (P Q : Machine → Type 0) (e : Effect) → After P e → After Q e → After (λ o. P o × Q o) e
unfolding After
after_both P Q (moves o) x y = (x, y)
after_both P Q (waits o) x y = (x, y)
after_both P Q (publishes v o) x y = (x, y)
after_both P Q (calls h s vs o) x y = (x, y)
after_both P Q (refuses r) x y = tt

-- the queued token at k, taken
facts-taken : {lim : Limits} {d : Dag} (m : Machine) (F : Facts lim d m) (k : ℕ) → k < m.queued
    → Taken m.tokens (get_or m.queue k 0) (without k (queue_of m)) (waits_of m) F.timers
unfolding queue_of
facts-taken m F k l =
    subst (λ p. Taken m.tokens p (without k (queue_of m)) (waits_of m) F.timers) (get_or-take m.queued m.queue k 0 l)
    (take_out k (subst (λ q. k < length q) (sym (queue-is F.orders)) (let z = F.orders.queued in omega arith))
    (subst (λ q. Lines m.tokens q (waits_of m) F.timers) (sym (queue-is F.orders))
    (subst (λ w. Lines m.tokens F.queue w F.timers) (sym (waits-are F.orders)) F.lines)))

cell-inside : {W : World} {q : Place} {U : List ℕ} → CellsSeen W q U → (c : ℕ) → q ≡ Some c → c < length W.cells
unfolding place_in_range
cell-inside {W} v c e = ltb-lt _ _ (ap (place_in_range (length W.cells)) (sym e) ∙ cells-range v)

module _ (lim : Limits) (d : Dag) (M : Labels) (room : Roomy lim) (flow : Flow d M) (dag : dag_holds d ≡ true) where
  some : 0 < length d.nodes
  some = let z = (dag-rules d dag).goal in omega arith

  -- the index rules
  pub reached-rules : {m : Machine} {s : Abstract.State} → Reached lim d M m s → rules_hold lim d m ≡ true
  reached-rules {m} {s} r = go r.view
    where
      go : {s : Abstract.State} → Sees M m s → rules_hold lim d m ≡ true
      go (seen_as name place A K) = rules-hold lim d M flow dag some m r.facts r.clean K

  -- the start
  pub start-reached : Reached lim d M (start_machine lim d.goal) (start_at d.goal)
  unfolding is_live
  start-reached =
      record {
        view = seen;
        facts = start-facts lim d room.token_places room.cell_places (dag-rules d dag).goal;
        clean = start-clean lim d.goal used;
      }
    where
      begins : Machine
      begins = start_machine lim d.goal

      seen : Sees M begins (start_at d.goal)
      seen = start-machine-sees lim d M flow room.token_places

      blanks : List Token
      blanks = replicate lim.token_places blank_token

      stands : token_at begins.tokens 0 ≡ start_token d.goal
      stands =
          token-same blanks 0 (start_token d.goal)
          (let z = length-replicate lim.token_places blank_token in let y = room.token_places in omega arith)

      used : Marked (tokens_used begins) 0
      used = sees-live seen 0 (ap (λ (t : Token). is_live t.state) stands)

  -- what is blanked
  abbrev Left : Machine → Type 0
  Left m = Facts lim d m × Clean m

  finished : (o : Machine) → Facts lim d o × LiveUsed o → Left (sweep o)
  finished o x = (sweep-facts x.0 x.1 some, sweep-clean o)

  module _ (bodies : ℕ → Exp) where
    -- what an instruction leaves, before blanking
    takes-facts : (m : Machine) {s : Abstract.State} → Reached lim d M m s → (k : ℕ) → k < m.queued
        → After (λ o. Facts lim d o × LiveUsed o) (takes lim d m k)
    unfolding takes
    takes-facts m {s} r k l = go r.view
      where
        F : Facts lim d m
        F = r.facts

        p : ℕ
        p = get_or m.queue k 0

        T : Taken m.tokens p (without k (queue_of m)) (waits_of m) F.timers
        T = facts-taken m F k l

        rules : rules_hold lim d m ≡ true
        rules = reached-rules r

        live : LiveUsed m
        live = sees-live r.view

        token : has_token_place lim m ≡ true → Vacant m (token_place m)
        token e =
            let free = free-token lim d m rules (fitting room) e in
            let l = free-inside (tokens_used m) _ free in
            let z = (tokens-used m.tokens m.cells).size in
            record { inside = omega arith; dead = false_of _ (λ x. clash (live _ x) free) }

        cell : has_cell_place lim m ≡ true → cell_place m < length m.cells
        cell e =
            let l = free-inside (cells_used m) _ (free-cell lim d m rules (fitting room) e) in
            let z = (cells-used (tokens_used m) m.tokens m.cells (tokens-used m.tokens m.cells).size).size in
            omega arith

        both : {name place : ℕ → ℕ} {σ : Store} {new : ℕ} {S : List Abstract.Token}
            → Acts.Taken M (world m.tokens m.cells name place σ new) p S → After (λ o. Facts lim d o × LiveUsed o) (takes lim d m k)
        both (taken split acting) =
            after_both (Facts lim d) LiveUsed (takes lim d m k)
            (acted lim d m F some (without k (queue_of m)) (waits_of m) p T dag
            (slot-inside acting.place.binds) (cell-inside acting.place.cell) token cell
            (node_at d (token_at m.tokens p).node) refl (node-rules d _ dag (F.tables.tokens p).node))
            (shows-after _ LiveUsed (λ a o b. sees-live b.machine) (takes lim d m k)
            (takes-agrees lim d M bodies (fitting room) flow m k rules l acting))

        go : {s : Abstract.State} → Sees M m s → After (λ o. Facts lim d o × LiveUsed o) (takes lim d m k)
        go (seen_as name place A K) = both (take-ready p K (taken-ready T))

    -- what an answer leaves, before blanking
    answered-facts : (m : Machine) → Facts lim d m → (v : ℤ) → Signed32 v → (p h : ℕ) → (token_at m.tokens p).state ≡ states.Called h
        → Facts lim d (enqueue p (put p (with_state states.Ready (with_value (Some v) (token_at m.tokens p))) m))
    unfolding enqueue put Update.with_tables with_orders with_state with_value is_live is_ready is_waiting is_due held_in_range
    answered-facts m F v fits p h e =
        record {
          sizes = sizes-as (length-set m.tokens p u) refl F.sizes;
          queue = F.queue ++ (p ∷ []);
          waits = F.waits;
          timers = F.timers;
          orders = orders-enqueue (orders-put F.orders p u) p;
          timed = timers-enqueue (timers-put F.timed p u) p;
          lines = lines_new p u inside (ap is_ready e) (ap is_waiting e) (ap is_due e) refl F.lines;
          tables =
              tables-write F.tables p u inside (idle-holds (F.tables.tokens p).node fits (F.tables.tokens p).binds Idle.ready)
              Idle.ready;
        }
      where
        u : Token
        u = with_state states.Ready (with_value (Some v) (token_at m.tokens p))

        inside : p < length m.tokens
        inside = live_inside m.tokens p (ap is_live e)

    -- an accepted call is a step of the abstract machine that shows the same events, and the machine is reached again
    pub data Reaches (s : Abstract.State) (es : List Event) (m : Machine) : Type 0 where
      reaches : {a : Label} {s' : Abstract.State}
          → Abstract.Step (program_of d M bodies) s a s' → es ≡ shown a [] → Reached lim d M m s' → Reaches s es m

    joined : {s : Abstract.State} {es : List Event} {m : Machine} → Left m → Steps d M bodies s es m → Reaches s es m
    joined x (steps st e v) = reaches st e (record { view = v; facts = x.0; clean = x.1 })

    -- what an accepted call leaves
    step-facts : (m : Machine) {s : Abstract.State} → Reached lim d M m s → (k : ℕ) → is_refused (Step.step lim d m k).reply ≡ false
        → Left (Step.step lim d m k).machine
    step-facts m r k ok =
        let a = step-accepted lim d m k ok in
        subst (λ (o : Outcome). Left o.machine) (sym a.does)
        (after-outcome (λ o. Facts lim d o × LiveUsed o) Left finished m (takes lim d m k) (takes-facts m r k a.queued)
        (subst (λ (o : Outcome). is_refused o.reply ≡ false) a.does ok))

    answer-facts : (m : Machine) {s : Abstract.State} → Reached lim d M m s → (h : ℕ) (v : ℤ) → Signed32 v
        → is_refused (Answer.answer lim d m h v).reply ≡ false → Left (Answer.answer lim d m h v).machine
    answer-facts m r h v signed ok =
        subst (λ (o : Outcome). Left o.machine) (sym a.does)
        (after-outcome (λ o. Facts lim d o × LiveUsed o) Left finished m (answered m v (holder h 0 m.tokens))
        (go (holder h 0 m.tokens) refl)
        (subst (λ (o : Outcome). is_refused o.reply ≡ false) a.does ok))
      where
        a : AnswerAccepted lim d m h v
        a = answer-accepted lim d m h v ok

        Good : Effect → Type 0
        Good = After (λ o. Facts lim d o × LiveUsed o)

        found : {name place : ℕ → ℕ} {σ : Store} {new p : ℕ} {S : List Abstract.Token} → (token_at m.tokens p).state ≡ states.Called h
            → Pending M (world m.tokens m.cells name place σ new) p h S → Good (answered m v (Some p))
        found {p = p} e (pending split others view clear seen) = unfold answered After in
            (answered-facts m r.facts v signed p h e, sees-live (answered-becomes m h v others view clear seen).machine)

        from : {s : Abstract.State} → Sees M m s → (p : ℕ) → (token_at m.tokens p).state ≡ states.Called h
            → Good (answered m v (Some p))
        from (seen_as name place A K) p e = found e (find-pending p h K e)

        go : (q : Place) → holder h 0 m.tokens ≡ q → Good (answered m v q)
        go None e = unfold answered After in tt
        go (Some p) e = from r.view p (holder-called h m.tokens p e)

    advance-facts : (m : Machine) {s : Abstract.State} → Reached lim d M m s → (time : ℕ)
        → is_refused (Clock.advance lim d m time).reply ≡ false → Left (Clock.advance lim d m time).machine
    advance-facts m r time ok =
        subst (λ (o : Outcome). Left o.machine) (sym a.does)
        (after-outcome (λ o. Facts lim d o × LiveUsed o) Left finished m (moves (after_advance m time)) (go r.view)
        (subst (λ (o : Outcome). is_refused o.reply ≡ false) a.does ok))
      where
        a : AdvanceAccepted lim d m time
        a = advance-accepted lim d m time ok

        go : {s : Abstract.State} → Sees M m s → After (λ o. Facts lim d o × LiveUsed o) (moves (after_advance m time))
        go (seen_as name place A K) = unfold After in
            (advanced-facts m r.facts time a.takes, sees-live (advanced-sees m time K))

    pub call_facts : (m : Machine) {s : Abstract.State} → Reached lim d M m s → (c : Call)
        → is_refused (outcome_of runner lim d m c).reply ≡ false
        → Facts lim d (outcome_of runner lim d m c).machine × Clean (outcome_of runner lim d m c).machine
    unfolding outcome_of
    call_facts m r (step k) ok = step-facts m r k ok
    call_facts m r (answer h v signed) ok = answer-facts m r h v signed ok
    call_facts m r (advance time) ok = advance-facts m r time ok

    pub call-reached : (m : Machine) {s : Abstract.State} → Reached lim d M m s → (c : Call)
        → is_refused (outcome_of runner lim d m c).reply ≡ false
        → Reaches s (events_by c (outcome_of runner lim d m c)) (outcome_of runner lim d m c).machine
    call-reached m r c ok = joined (call_facts m r c ok) (call-locks lim d M bodies (fitting room) flow m r.view c ok)
