-- A run that is under way on lent words: they hold one of the run's records, and the marks are that record's. So each turn's report is that
-- of the definition's turn. Each turn keeps it, by what its call leaves. Assumes nothing.
use mathlib.Core.Path.{◌≡◌, refl, sym, ◌∙◌, subst}
use mathlib.Core.Bool.{Bool, true, false}
use mathlib.Core.List.{List, [], ◌∷◌}
use Prim.Native.Nat.{ℕ, ◌+◌, ◌-◌, ◌<◌, ◌≤◌}
use lib.ListN.{length, get_or}
use native.Mathlib.Omega.{arith}
use Rattle.job.specs.Words.{dag_of}
use Rattle.job.proofs.Test.{lt-ltb, le-not-ltb, eq-eqb, ne_eqb}
use Rattle.model.specs.Output.Line.{text_of_all, end, limit}
use Rattle.model.specs.Output.Orcrun.{run_lines}
use Rattle.model.specs.Machine.Limits.{paper}
use Rattle.model.specs.Machine.Start as Start
use Rattle.model.specs.Machine.Start.{start_machine}
use Rattle.model.specs.declared.record.Machine.{Machine}
use Rattle.model.specs.declared.reply.Outcome.{Outcome}
use Rattle.record.specs.Holds.{Codes, Holds}
use Rattle.reach.specs.Marks.{MarksOf}
use Rattle.acts.specs.Acting.{SomeMachine, Lawful, QueueHasToken}
use Rattle.acts.specs.SharedFrames.{OneCallee}
use Rattle.acts.proofs.CalleeSteps.{start-callees}
use Rattle.house.specs.LoadedDag.{Accepted}
use Rattle.house.specs.TurnLeaves.{TurnLeaves}
use Rattle.lines.specs.LastLines.{last_lines}
use Rattle.lines.specs.Shown.{ShowsBytes}
use Rattle.turns.specs.Turn.{is_last, is_limit, turn_outcome}
use Rattle.reach.specs.declared.used.Marks.{Marks}
use Rattle.turns.proofs.TurnCases.{last_empty, last-ready, limit-empty, limit-ready, at-empty, at_ready, steps-empty, steps-ready}
use Rattle.house.proofs.HouseRecords.{started, reached-start, reached-rules, reached-framed}
use Rattle.house.proofs.HouseGoing.{Going, going-begins, going-last, going-limit, going-ends, going-turns}

some : (n : ℕ) → (n ≡ 0 → ⊥) → 0 < n
some n f = omega arith

-- the words and marks of a start
pub lawful-start : {ws : List ℕ} {used : Marks} (dag : List ℕ) → Accepted dag → length dag ≡ 12331
    → Holds ws (start_machine paper (get_or dag 2 0)) × MarksOf (start_machine paper (get_or dag 2 0)) used
    → Lawful ws used dag (Start.start paper (dag_of dag)).machine
lawful-start {ws} {used} dag A l s =
    record {
      holds = subst (λ (m : Machine). Holds ws m) (started dag A) s.0;
      rules = reached-rules dag A (reached-start dag A);
      marks = subst (λ (m : Machine). MarksOf m used) (started dag A) s.1;
      size = l;
    }

pub started-callees : (shared : List Bool) (dag : List ℕ) → Accepted dag → OneCallee shared (Start.start paper (dag_of dag)).machine
started-callees shared dag A = subst (λ (m : Machine). OneCallee shared m) (started dag A) (start-callees shared _)

module _ (dag rest before : List ℕ) (from : ℕ) where
  pub record Lent (ws : List ℕ) (used : Marks) (shared : List Bool) (steps at total : ℕ) (output : List ℕ) : Type 0 where
    pub machine : Machine
    pub going : Going dag rest before from machine steps at total output
    pub lawful : Lawful ws used dag machine
    pub callees : OneCallee shared machine

  pub lent-begins : (shared : List Bool) {ws : List ℕ} {used : Marks}
      → Accepted dag × (length rest ≤ 65536) × Lawful ws used dag (Start.start paper (dag_of dag)).machine
      → OneCallee shared (Start.start paper (dag_of dag)).machine → Lent ws used shared 0 0 0 before
  lent-begins shared s one =
      record {
        machine = (Start.start paper (dag_of dag)).machine;
        going = going-begins dag rest before from s.0 _ s.1 refl;
        lawful = s.2;
        callees = one;
      }

  abbrev Whole : List ℕ → ℕ → Type 0
  Whole after n = ShowsBytes before from 0 (text_of_all (run_lines paper 100000 (dag_of dag) rest)) after n

  -- each turn, by the tests that lead to it: `word` is the queue's count as the code has read it
  module _ {ws : List ℕ} {used : Marks} {shared : List Bool} {steps at total : ℕ} {output : List ℕ}
      (L : Lent ws used shared steps at total output)
      (word : ℕ) (reads : (m : Machine) → Codes ws m → word ≡ m.queued) where
    count : word ≡ L.machine.queued
    count = reads L.machine L.lawful.holds.codes

    -- the outcome of the turn
    abbrev turned : Outcome
    turned = turn_outcome (dag_of dag) L.machine rest at

    -- what a turn that goes on leaves
    under-way : {ws' output' : List ℕ} {used' : Marks} {shared' : List Bool} {steps' at' n : ℕ} {ended : Bool}
        → Going dag rest before from turned.machine steps' at' n output'
        → TurnLeaves turned L.machine ws' used' shared' output from total output' n ended
        → Lent ws' used' shared' steps' at' n output'
    under-way next given =
        let framed = reached-framed dag L.going.accepted L.going.reached in
        record {
          machine = turned.machine;
          going = next;
          lawful =
              record {
                holds = given.holds;
                rules = reached-rules dag next.accepted next.reached;
                marks = given.marks framed;
                size = L.lawful.size;
              };
          callees = given.callees framed;
        }

    -- "with the queue empty it delivers a record"
    module _ (e : word ≡ 0) where
      none : L.machine.queued ≡ 0
      none = sym count ∙ e

      pub lent-last : {after : List ℕ} {n : ℕ} → length rest - at < 8
          → ShowsBytes output from total (text_of_all (last_lines (length rest - at) steps)) after n → Whole after n
      lent-last l s = going-last dag rest before from L.going true (last_empty _ none _ true (sym (lt-ltb _ 8 l))) refl s

      module _ (more : 8 ≤ length rest - at) where
        unread : false ≡ is_last L.machine.queued (length rest - at)
        unread = last_empty _ none _ false (sym (le-not-ltb _ 8 more))

        pub lent-there : at + 8 ≤ length rest
        lent-there = let inside = L.going.inside in omega arith

        module _ {ws' output' : List ℕ} (n : ℕ)
            (gives : (m : Machine) (d : List ℕ) (ss : List Bool) → Lawful ws used d m → OneCallee ss m → m.queued ≡ 0
            → TurnLeaves (turn_outcome (dag_of d) m rest at) m ws' used ss output from total output' n false) where
          delivered : TurnLeaves turned L.machine ws' used shared output from total output' n false
          delivered = gives L.machine dag shared L.lawful L.callees none

          pub lent-delivers-less : (100000 - steps) + (length rest - (at + 8)) < (100000 - steps) + (length rest - at)
          lent-delivers-less = omega arith

          pub lent-delivers : Lent ws' used shared steps (at + 8) n output'
          lent-delivers =
              under-way
              (going-turns dag rest before from L.going false unread refl false (limit-empty _ none _) refl turned refl false
              delivered.over refl
              steps (at + 8) (steps-empty _ none steps) (at-empty _ none at) delivered.lines delivered.few)
              delivered

    -- and else the token at place 0 acts
    module _ (f : word ≡ 0 → ⊥) where
      ready : L.machine.queued ≡ 0 → ⊥
      ready z = f (count ∙ z)

      abbrev busy : false ≡ is_last L.machine.queued (length rest - at)
      busy = last-ready _ ready _

      pub lent_limit : {after : List ℕ} {n : ℕ} → steps ≡ 100000 → ShowsBytes output from total (text_of_all (limit ∷ end steps ∷ []))
          after n
          → Whole after n
      lent_limit q s =
          going-limit dag rest before from L.going false busy refl true (limit-ready _ ready steps true (sym (eq-eqb steps 100000 q)))
          refl s

      has : QueueHasToken ws used dag 0 L.machine
      has = record { lawful = L.lawful; queued = some L.machine.queued ready }

      pub lent-ready : SomeMachine (QueueHasToken ws used dag 0)
      lent-ready = record { machine = L.machine; is = has }

      module _ (under : steps ≡ 100000 → ⊥) {ws' output' : List ℕ} {used' : Marks} {shared' : List Bool} (n : ℕ) (ended : Bool)
          (gives : (m : Machine) (rs : List ℕ) (a : ℕ) → QueueHasToken ws used dag 0 m → OneCallee shared m
          → TurnLeaves (turn_outcome (dag_of dag) m rs a) m ws' used' shared' output from total output' n ended) where
        stepped : TurnLeaves turned L.machine ws' used' shared' output from total output' n ended
        stepped = gives L.machine rest at has L.callees

        abbrev below : false ≡ is_limit L.machine.queued steps
        below = limit-ready _ ready steps false (sym (ne_eqb steps 100000 under))

        pub lent-few : n ≤ total + 80
        lent-few = stepped.few

        pub lent-ends : {after : List ℕ} {last : ℕ} → ended ≡ true → ShowsBytes output' from n (text_of_all (end steps ∷ [])) after last
            → Whole after last
        lent-ends t u =
            going-ends dag rest before from L.going false busy refl false below refl turned refl ended stepped.over t
            stepped.lines u

        module _ (on-if : ended ≡ false) where
          pub lent-steps-less : (100000 - (steps + 1)) + (length rest - at) < (100000 - steps) + (length rest - at)
          lent-steps-less = let few = L.going.few in omega arith

          pub lent-steps : Lent ws' used' shared' (steps + 1) at n output'
          lent-steps =
              under-way
              (going-turns dag rest before from L.going false busy refl false below refl turned refl ended stepped.over on-if
              (steps + 1) at (steps-ready _ ready steps) (at_ready _ ready at) stepped.lines stepped.few)
              stepped
