-- Demand 3, last part: while a ready token with k others before it neither acts nor is pruned, "at most k later steps have been accepted",
-- if every step takes place 0. Each accepted step at place 0 that neither takes nor ends a token leaves it in the queue with
-- fewer others before it, so there are at most as many such steps as stood before it; answers and clock moves leave it where it was.
-- Assumes nothing.
use mathlib.Core.Path.{◌≡◌, refl}
use mathlib.Core.Bool.{Bool, false}
use mathlib.Core.List.{List, ◌∷◌}
use Prim.Native.Nat.{ℕ, zero, suc, ◌≤◌, ◌<◌}
use native.Mathlib.Omega.{arith}
use lib.IntN.{ℤ}
use Rattle.job.specs.Number.{Signed32}
use Rattle.job.specs.Node.{Dag}
use Rattle.job.specs.Construct.{construct}
use Rattle.model.specs.Machine.Limits.{Limits, paper}
use Rattle.model.specs.Machine.Reply.{is_refused}
use Rattle.model.specs.Machine.Step as Step
use Rattle.model.specs.Machine.Answer as Answer
use Rattle.model.specs.Machine.Clock as Clock
use Rattle.calculus.specs.Event.{Event}
use Rattle.model.specs.Run.Call.{Call, runner, outcome_of}
use Rattle.model.specs.Run.Follow.{Fate, acts, falls, stays, fate, House, Followed}
use Rattle.model.specs.Run.Demand3.{Last}
use Rattle.model.specs.declared.record.Machine.{Machine}
use Rattle.job.proofs.Test.{never}
use Rattle.model.proofs.Run.Passage.{Passage, passage, passage-behind}
use Rattle.model.proofs.Run.Survivors.{survivors-bound, fate-stays}
use Rattle.model.proofs.Run.FrontEnds.{fate-acts, fate-falls, step-acts, step-ends}
use Rattle.model.proofs.Run.StepStands.{step-stands}
use Rattle.model.proofs.Run.AnswerStands.{answer-stands}
use Rattle.model.proofs.Run.ClockStands.{advance-stands}
use Rattle.job.proofs.Accepted.{accepted-well-formed}
use Rattle.model.proofs.Machine.StartAccepted.{accepted-starts}

front-acts : (d : Dag) (m : Machine) → fate d m 0 ≡ acts
unfolding fate
front-acts d m = refl

module _ (lim : Limits) (d : Dag) (fits : lim.tokens ≤ lim.token_places) where
  -- the token at position k is followed, and passed k times at most
  abbrev pub Fair : Machine → ℕ → List Call → Type 0
  Fair m k calls = (n : ℕ) × Followed runner lim d m k calls n × (n ≤ k)

  -- an accepted step, once the calls after it are followed
  after-step :
      {calls : List Call} (m : Machine) (k : ℕ) → k < m.queued → is_refused (Step.step lim d m 0).reply ≡ false
      → ((k' : ℕ) → k' < (Step.step lim d m 0).machine.queued → Fair (Step.step lim d m 0).machine k' calls)
      → Fair m k (Call.step 0 ∷ calls)
  unfolding outcome_of
  after-step {calls} m k l ok rest = by-fate k l (fate d m k) refl
    where
      behind : (k k' : ℕ) → suc k < m.queued → fate d m (suc k) ≡ stays k' → Fair m (suc k) (Call.step 0 ∷ calls)
      behind k k' l e =
          let s = step-stands lim d m k k' fits ok l e in
          let r = rest k' s.queued in (
            suc r.0,
            Followed.passed ok e s r.1,
            (let b = survivors-bound d m 1 k in let p = (fate-stays d m k k' e).1 in let n = r.2 in omega arith),
          )

      by-fate : (k : ℕ) → k < m.queued → (f : Fate) → fate d m k ≡ f → Fair m k (Call.step 0 ∷ calls)
      by-fate k l acts e = (0, Followed.acted ok e (step-acts lim d m k ok (fate-acts d m k e)), omega arith)
      by-fate k l falls e = (0, Followed.pruned ok e (step-ends lim d m k ok (fate-falls d m k e)), omega arith)
      by-fate zero l (stays k') e = never (cc (front-acts d m))
      by-fate (suc k) l (stays k') e = behind k k' l e

  -- an answer, accepted or not
  after-answer : {calls : List Call} (m : Machine) (k h : ℕ) (v : ℤ) (signed : Signed32 v) → k < m.queued
      → ((k' : ℕ) → k' < (Answer.answer lim d m h v).machine.queued → Fair (Answer.answer lim d m h v).machine k' calls)
      → Fair m k (Call.answer h v signed ∷ calls)
  unfolding outcome_of
  after-answer m k h v signed l rest =
      let s = answer-stands lim d m h v k l in let r = rest k s.queued in (r.0, Followed.between s r.1, r.2)

  -- a clock move, accepted or not
  after-advance : {calls : List Call} (m : Machine) (k time : ℕ) → k < m.queued
      → ((k' : ℕ) → k' < (Clock.advance lim d m time).machine.queued → Fair (Clock.advance lim d m time).machine k' calls)
      → Fair m k (Call.advance time ∷ calls)
  unfolding outcome_of
  after-advance m k time l rest =
      let s = advance-stands lim d m time k l in let r = rest k s.queued in (r.0, Followed.ticking s r.1, r.2)

  pub follow : {m end : Machine} {calls : List Call} {es : List Event} {fine : Bool} → House calls → Passage lim d m calls es fine end
      → (k : ℕ) → k < m.queued → Fair m k calls
  unfolding outcome_of
  follow House.none p k l = (0, Followed.over, omega arith)
  follow (House.front rest) (Passage.refused no' p) k l = (0, Followed.refused no', omega arith)
  follow {m} (House.front rest) (Passage.accepted ok p) k l =
      after-step m k l ok (λ k' l'. follow {m = (Step.step lim d m 0).machine} rest p k' l')
  follow {m} (House.between {h = h} {v = v} {fits = signed} rest) p k l =
      after-answer m k h v signed l (λ k' l'. follow rest (passage-behind lim d p).2 k' l')
  follow {m} (House.ticking {time = time} rest) p k l =
      after-advance m k time l (λ k' l'. follow rest (passage-behind lim d p).2 k' l')

-- "Last part: .. at most k later steps have been accepted."
pub house-order-is-fair : Last runner
house-order-is-fair table p read = (
  accepted-starts paper p (accepted-well-formed table p read),
  λ earlier later house k l. follow paper (construct p) (omega arith) house (passage paper (construct p) later _) k l,
)
