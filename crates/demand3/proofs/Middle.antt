-- Demand 3, middle part: each list allowed for a table is shown by some run without refused calls, at limits large enough and at all larger
-- ones. The abstract machine shows the list in some number of steps; a step adds at most one token, one cell and one call, so limits above
-- that number leave room for each, and the concrete machine follows. Assumes nothing.
use mathlib.Core.Path.{◌≡◌, refl, sym, subst}
use mathlib.Core.Bool.{true, false}
use mathlib.Core.List.{List}
use Prim.Native.Nat.{ℕ, suc, ◌+◌, ◌≤◌}
use native.Mathlib.Omega.{arith}
use Rattle.job.specs.Syntax.{Program}
use Rattle.job.specs.WellFormed.{WellFormed}
use Rattle.job.specs.Node.{Dag, dag_holds}
use Rattle.job.specs.Construct.{construct}
use Rattle.model.specs.Machine.Limits.{Limits, limits}
use Rattle.model.specs.Machine.InUse.{marked, tokens_used, cells_used}
use Rattle.model.specs.Machine.Reply.{is_refused}
use Rattle.model.specs.Machine.Start.{start_machine}
use Rattle.model.specs.Machine.Step.{has_token_place, has_cell_place}
use Rattle.calculus.specs.Event.{Event, Label, silently, showing}
use Rattle.calculus.specs.Expression.{Exp}
use Rattle.calculus.specs.Allowed.{next_handle}
use Rattle.calculus.specs.Meaning.{meaning}
use Rattle.model.specs.Run.Call.{Call, step, answer, advance, runner, outcome_of, none_refused, events_from}
use Rattle.model.specs.Run.Demand3.{Begins, Shown, Middle}
use Rattle.model.specs.declared.record.Machine.{Machine}
use Rattle.job.proofs.Test.{lt-ltb}
use Rattle.job.proofs.Accepted.{accepted-well-formed}
use Rattle.job.proofs.DagHolds.{construct-holds}
use Rattle.model.proofs.Machine.StartAccepted.{start-machine, accepted-starts}
use Rattle.model.proofs.Machine.StartUsed.{start-one-token, start-no-cell}
use Rattle.model.proofs.Machine.Added.{node_taken, added-few}
use Rattle.demand3.proofs.Larger.{UsedAtMost, step-adds, answer-adds, advance-adds}
use Rattle.simulation.proofs.AbstractMachine as Abstract
use Rattle.simulation.proofs.AbstractMachine.{start_at, handle_of}
use Rattle.demand3.proofs.ProgramComplete.{complete}
use Rattle.lockstep.proofs.Labels.{Labels, program_of, Flow}
use Rattle.lockstep.proofs.Labelling.{labels_of}
use Rattle.lockstep.proofs.Flowing.{construct-flows}
use Rattle.lockstep.proofs.Seen.{Sees, seen_as}
use Rattle.demand3.proofs.Room.{Room}
use Rattle.demand3.proofs.Following.{steps_of, Keeps, Does, does, run-followed}
use Rattle.model.proofs.Run.Passage.{Passage, passed}
use Rattle.lockstep.proofs.Lockstep.{fitting}
use Rattle.demand3.proofs.Reached.{Reached, Roomy, limits-roomy, start-reached, Reaches, reaches, call-reached}
use Rattle.demand3.proofs.Blocked.{reached-ready}

-- a step raises the next handle by one at most
next-handle : (a : Label) (h : ℕ) → next_handle a h ≤ suc h
unfolding next_handle
next-handle silently h = omega arith
next-handle (showing (Event.publish v)) h = omega arith
next-handle (showing (Event.call k s vs)) h = omega arith
next-handle (showing (Event.answer k v)) h = omega arith
next-handle (showing (Event.move t)) h = omega arith

handle-after : (L R : List Abstract.Token) (now : ℕ) (σ : Abstract.Store) (new h : ℕ) (x : Abstract.Effect)
    → handle_of (Abstract.after L R now σ new h x) ≤ suc h
handle-after L R now σ new h (Abstract.makes a N) = next-handle a h
handle-after L R now σ new h (Abstract.sets c v) = omega arith

handle-step : {G : Abstract.Program} {s s' : Abstract.State} {a : Label} → Abstract.Step G s a s' → handle_of s' ≤ suc (handle_of s)
handle-step {G} (Abstract.step {t = t} {L = L} {R = R} {now = now} {σ = σ} {new = new} {h = h} m split) =
    handle-after L R now σ new h (Abstract.effect G now σ new h t m)
handle-step (Abstract.ticks l k) = omega arith

-- the next handle is the count of calls
handle-seen : {M : Labels} {m : Machine} {s : Abstract.State} → Sees M m s → handle_of s ≡ m.calls
handle-seen (seen_as name place A K) = refl

no_more : (m o : Machine) → UsedAtMost o (marked (tokens_used m)) (marked (cells_used m))
    → UsedAtMost o (suc (marked (tokens_used m))) (suc (marked (cells_used m)))
no_more m o x = (let z = x.0 in omega arith, (let z = x.1 in omega arith))

-- what a call adds to those in use
call-adds : (lim : Limits) (d : Dag) (m : Machine) (c : Call) → is_refused (outcome_of runner lim d m c).reply ≡ false
    → UsedAtMost (outcome_of runner lim d m c).machine (suc (marked (tokens_used m))) (suc (marked (cells_used m)))
unfolding outcome_of
call-adds lim d m (step k) ok =
    let x = step-adds lim d m k ok in let l = added-few (node_taken d m k) in let z = x.1 in (x.0, omega arith)
call-adds lim d m (answer h v signed) ok = no_more m (outcome_of runner lim d m (answer h v signed)).machine (answer-adds lim d m h v ok)
call-adds lim d m (advance time) ok = no_more m (outcome_of runner lim d m (advance time)).machine (advance-adds lim d m time ok)

module _ (lim : Limits) (d : Dag) (M : Labels) (bodies : ℕ → Exp) (room : Roomy lim) (flow : Flow d M) (dag : dag_holds d ≡ true) where
  -- a record of a run with room for n more steps
  record Spare (n : ℕ) (m : Machine) : Type 0 where
    state : Abstract.State
    reached : Reached lim d M m state
    tokens : marked (tokens_used m) + n ≤ lim.tokens
    cells : marked (cells_used m) + n ≤ lim.cells
    calls : m.calls + n ≤ lim.calls

  spare-room : (n : ℕ) (m : Machine) → Spare (suc n) m → Room lim d m
  unfolding has_token_place has_cell_place
  spare-room n m x =
      let t = x.tokens in let c = x.cells in let k = x.calls in
      record {
        tokens = lt-ltb (marked (tokens_used m)) lim.tokens (omega arith);
        cells = lt-ltb (marked (cells_used m)) lim.cells (omega arith);
        calls = omega arith;
      }

  spare-call : (n : ℕ) (m : Machine) (c : Call) → Spare (suc n) m → is_refused (outcome_of runner lim d m c).reply ≡ false
      → Spare n (outcome_of runner lim d m c).machine
  spare-call n m c x ok = go (call-reached lim d M room flow dag bodies m x.reached c ok)
    where
      m' : Machine
      m' = (outcome_of runner lim d m c).machine

      adds : UsedAtMost m' (suc (marked (tokens_used m))) (suc (marked (cells_used m)))
      adds = call-adds lim d m c ok

      go : {es : List Event} → Reaches lim d M room flow dag bodies x.state es m' → Spare n m'
      go (reaches {s' = s'} st e r) =
          let h : handle_of s' ≤ suc (handle_of x.state) = handle-step st in
          let new : handle_of s' ≡ m'.calls = handle-seen r.view in
          let old : handle_of x.state ≡ m.calls = handle-seen x.reached.view in
          let t = x.tokens in let c = x.cells in let k = x.calls in
          let a = adds.0 in let b = adds.1 in
          record { state = s'; reached = r; tokens = omega arith; cells = omega arith; calls = omega arith }

  spare-keeps : Keeps lim d M bodies Spare
  spare-keeps =
      record {
        ready = λ n m x. reached-ready lim d M room flow dag x.reached (spare-room n m x);
        stay = λ n m x.
            (let t = x.tokens in let c = x.cells in let k = x.calls in
            record { state = x.state; reached = x.reached; tokens = omega arith; cells = omega arith; calls = omega arith });
        call = λ n m c x v ok w. spare-call n m c x ok;
      }

module _ (p : Program) (w : WellFormed p) {events : List Event} {s : Abstract.State}
    (r : Abstract.Run (program_of (construct p) (labels_of p) (meaning p).body) (start_at (construct p).goal) events s) where
  shown-at : (t c k : ℕ) → suc (steps_of r) ≤ t → suc (steps_of r) ≤ c → steps_of r ≤ k → Shown runner p (construct p) events t c k
  shown-at t c k at ac ak =
      from (start-machine lim p w)
      (run-followed lim d M bodies (fitting t c k) flow (Spare lim d M bodies room flow dag) (spare-keeps lim d M bodies room flow dag) m r
      begun.view spare)
    where
      lim : Limits
      lim = limits t c k

      d : Dag
      d = construct p

      M : Labels
      M = labels_of p

      bodies : ℕ → Exp
      bodies = (meaning p).body

      m : Machine
      m = start_machine lim d.goal

      room : Roomy lim
      room = limits-roomy t c k (omega arith) (omega arith)

      flow : Flow d M
      flow = construct-flows p w

      dag : dag_holds d ≡ true
      dag = construct-holds p w

      begun : Reached lim d M m (start_at d.goal)
      begun = start-reached lim d M room flow dag

      spare : Spare lim d M bodies room flow dag (steps_of r) m
      spare =
          let one : marked (tokens_used m) ≡ 1 = start-one-token lim d.goal (omega arith) in
          let none : marked (cells_used m) ≡ 0 = start-no-cell lim d.goal in
          record { state = start_at d.goal; reached = begun; tokens = omega arith; cells = omega arith; calls = omega arith }

      from : {o : Machine} → o ≡ m → Does lim d M bodies m events
          → Begins runner p d lim × (calls : List Call) × (none_refused runner lim d o calls ≡ true)
          × (events_from runner lim d o calls ≡ events)
      from e (does {cs = calls} {end = end} x) =
          let z = passed lim d (subst (λ o. Passage lim d o calls events true end) (sym e) x) in
          (accepted-starts lim p w, calls, z.clear, z.shows)

pub allowed-lists-are-shown : Middle runner
allowed-lists-are-shown table p e events allowed =
    let w = accepted-well-formed table p e in
    let r = (complete p w allowed).1 in
    (suc (steps_of r), suc (steps_of r), steps_of r, λ t c k at ac ak. shown-at p w r t c k at ac ak)
