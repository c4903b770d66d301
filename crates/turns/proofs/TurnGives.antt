-- What a turn leaves in lent words: the delivery's or the step's outcome is the turn's. Assumes nothing.
use mathlib.Core.Path.{◌≡◌, refl, sym, subst}
use mathlib.Core.Bool.{Bool}
use mathlib.Core.List.{List}
use Prim.Native.Nat.{ℕ, ◌+◌}
use native.Mathlib.Decide.{ℕ_discrete}
use native.Mathlib.Omega.{arith}
use lib.IntN.{ℤ}
use lib.ListN.{take, drop}
use Rattle.std.specs.Prelude.{Result, Ok, Err, IfErr}
use Rattle.job.specs.Number.{number, signed}
use Rattle.job.specs.Words.{dag_of}
use Rattle.model.specs.Machine.Limits.{paper}
use Rattle.model.specs.Machine.Step as Step
use Rattle.model.specs.Machine.Answer as Answer
use Rattle.model.specs.Machine.Clock as Clock
use Rattle.model.specs.Output.Orcrun.{clock_handle, delivered}
use Rattle.model.specs.declared.record.Machine.{Machine}
use Rattle.model.specs.declared.reply.Outcome.{Outcome}
use Rattle.model.specs.declared.reply.Refusal.{Refusal}
use Rattle.model.specs.declared.reply.Refusal.TheVariants as refusals
use Rattle.model.specs.declared.reply.Report.{Report}
use Rattle.reach.specs.Marks.{BlankFrom}
use Rattle.model.proofs.Run.Printing.{moves-clock, answers}
use Rattle.acts.specs.Acting.{Lawful, QueueHasToken, Gives, call_report}
use Rattle.acts.specs.SharedFrames.{OneCallee, Stepped}
use Rattle.acts.proofs.CalleeSteps.{answer_keeps, advance-keeps}
use Rattle.turns.specs.Turn.{turn_outcome, IsDelivery, taken, not_open, wrong_time}
use Rattle.reach.specs.declared.used.Marks.{Marks}
use Rattle.turns.proofs.TurnCases.{turn-empty, turn-ready}

-- a delivery, for any record that the words hold
abbrev pub Delivers : (ws after : List ℕ) (end : ℕ) → Report → (handle value : ℕ) → Type 0
Delivers ws after end r h v =
    (m : Machine) (dag : List ℕ) (used : Marks) → Lawful ws used dag m → BlankFrom m end
    → Gives (delivered paper (dag_of dag) m h v) m after used r

-- the numbers of a record, as the code hands them on
pub delivers-as : {ws after : List ℕ} {end : ℕ} {r : Report} {h k v n : ℕ} → h ≡ k → v ≡ n → Delivers ws after end r h v
    → Delivers ws after end r k n
delivers-as {ws} {after} {end} {r} {h} {n = n} same word gives =
    subst (λ (i : ℕ). Delivers ws after end r i n) same (subst (λ (i : ℕ). Delivers ws after end r h i) word gives)

-- with the clock's handle the time is told, with any other an answer is
module _ {ws after : List ℕ} {end : ℕ} {h : ℕ} (v : ℕ) (r : Result Unit Refusal) where
  pub delivers-time :
      ((m : Machine) (dag : List ℕ) (used : Marks) → Lawful ws used dag m
      → Gives (Clock.advance paper (dag_of dag) m v) m after used (call_report r))
      → h ≡ clock_handle → Delivers ws after end (call_report r) h v
  delivers-time gives e m dag used lawful blank =
      subst (λ (o : Outcome). Gives o m after used (call_report r)) (sym (moves-clock paper (dag_of dag) m h v e))
      (gives m dag used lawful)

  pub delivers-answer : {u : ℤ}
      → ((m : Machine) (dag : List ℕ) (used : Marks) → Lawful ws used dag m → BlankFrom m end
      → Gives (Answer.answer paper (dag_of dag) m h u) m after used (call_report r))
      → u ≡ signed v → (h ≡ clock_handle → ⊥) → Delivers ws after end (call_report r) h v
  delivers-answer gives is other m dag used lawful blank =
      subst (λ (o : Outcome). Gives o m after used (call_report r)) (sym (answers paper (dag_of dag) m h v other))
      (subst (λ (z : ℤ). Gives (Answer.answer paper (dag_of dag) m h z) m after used (call_report r)) is
      (gives m dag used lawful blank))

-- what may be refused
pub time-delivery : (r : Result Unit Refusal) → IfErr r (λ e. e ≡ refusals.WrongTime) → IsDelivery r
time-delivery (Ok tt) k = taken
time-delivery (Err e) k = subst (λ e. IsDelivery (Err e)) (sym k) wrong_time

pub answer-delivery : (r : Result Unit Refusal) → IfErr r (λ e. e ≡ refusals.NotOpen) → IsDelivery r
answer-delivery (Ok tt) k = taken
answer-delivery (Err e) k = subst (λ e. IsDelivery (Err e)) (sym k) not_open

-- no record that is delivered gives a token a second callee
delivery-keeps : (s : List Bool) (dag : List ℕ) (m : Machine) (h v : ℕ) → OneCallee s m
    → OneCallee s (delivered paper (dag_of dag) m h v).machine
delivery-keeps s dag m h v one = go (ℕ_discrete h clock_handle)
  where
    go : Dec (h ≡ clock_handle) → OneCallee s (delivered paper (dag_of dag) m h v).machine
    go (yes e) =
        subst (λ (o : Outcome). OneCallee s o.machine) (sym (moves-clock paper (dag_of dag) m h v e))
        (advance-keeps s (dag_of dag) m v one)
    go (no f) =
        subst (λ (o : Outcome). OneCallee s o.machine) (sym (answers paper (dag_of dag) m h v f)) (answer_keeps s (dag_of dag) m h _ one)

-- with the queue empty a record is delivered
pub turn-delivers : (ws rest after : List ℕ) (at end : ℕ) (r : Report)
    → Delivers ws after end r (number (take 4 (drop at rest))) (number (take 4 (drop (at + 4) rest)))
    → (m : Machine) (dag : List ℕ) (used : Marks) (shared : List Bool) → Lawful ws used dag m → BlankFrom m end
    → OneCallee shared m → m.queued ≡ 0
    → Stepped (turn_outcome (dag_of dag) m rest at) m after used shared r
turn-delivers ws rest after at end r gives m dag used shared lawful blank one e =
    subst (λ (o : Outcome). Stepped o m after used shared r) (turn-empty (dag_of dag) m rest at _ e refl)
    (record { gives = gives m dag used lawful blank; callees = λ framed. delivery-keeps shared dag m _ _ one })

-- and else the token at place 0 acts
pub turn-steps : {ws dag after : List ℕ} {used used' : Marks} {shared' : List Bool} {r : Report} (m : Machine) (rest : List ℕ) (at : ℕ)
    → QueueHasToken ws used dag 0 m → Stepped (Step.step paper (dag_of dag) m 0) m after used' shared' r
    → Stepped (turn_outcome (dag_of dag) m rest at) m after used' shared' r
turn-steps {dag = dag} {after = after} {used' = used'} {shared' = shared'} {r = r} m rest at t gives =
    subst (λ (o : Outcome). Stepped o m after used' shared' r)
    (turn-ready (dag_of dag) m rest at _ (λ z. let some = t.queued in absurd (omega arith)) refl) gives
