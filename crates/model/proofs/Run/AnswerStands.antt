-- An answer, accepted or not, leaves each token of the queue as it is and at its position: it writes at the place of a token that is called
-- out, so not ready, and puts it at the back. Assumes nothing.
use mathlib.Core.Path.{◌≡◌, refl, subst}
use mathlib.Core.Bool.{Bool, true, false}
use mathlib.Core.List.{List, [], ◌∷◌}
use Prim.Native.Nat.{ℕ, suc, ◌+◌, ◌<◌}
use native.Mathlib.Omega.{arith}
use lib.ListN.{get_or}
use lib.Dec.{eqb}
use lib.IntN.{ℤ}
use Rattle.std.specs.Prelude.{Some, None}
use Rattle.job.specs.Test.{for_some}
use Rattle.job.specs.Node.{Dag}
use Rattle.model.specs.Machine.Limits.{Limits}
use Rattle.model.specs.Machine.Blank.{blank_token, token_at}
use Rattle.model.specs.Machine.State.{handle_of, is_ready}
use Rattle.model.specs.Machine.Reply.{Effect}
use Rattle.model.specs.Machine.Answer.{holder, answered, answer}
use Rattle.model.specs.Run.Follow.{queued_token, Stands}
use Rattle.model.specs.Machine.Held.{Place}
use Rattle.model.specs.declared.token.State.{State}
use Rattle.model.specs.declared.token.State.TheVariants as states
use Rattle.model.specs.declared.token.Token.{Token}
use Rattle.model.specs.declared.record.Machine.{Machine}
use Rattle.job.proofs.Test.{never, clash}
use Rattle.model.proofs.Machine.Refused.{After, outcome-refused, answer-accepted}
use Rattle.model.proofs.Run.Queue.{QueueRulesHold}
use Rattle.model.proofs.Run.Bystander.{Untouched, untouched-enqueue, untouched-put, queued-untouched, call-stands}

-- a token with a handle is not ready
pub handle-busy : (h : ℕ) (s : State) → for_some (eqb h) (handle_of s) ≡ true → is_ready s ≡ false
unfolding for_some handle_of is_ready
handle-busy h states.Blank e = refl
handle-busy h states.Ready e = clash e refl
handle-busy h (states.Waiting c) e = refl
handle-busy h (states.Called n) e = refl
handle-busy h (states.Due d) e = refl
handle-busy h states.Frame e = refl

-- the holder of a handle, counted from i, is at a place j places on and is not ready
holder-busy :
    (h i : ℕ) (ts : List Token) (q : ℕ) → holder h i ts ≡ Some q
    → (j : ℕ) × (q ≡ i + j) × (is_ready (token_at ts j).state ≡ false)
unfolding holder token_at
holder-busy h i [] q e = never cc
holder-busy h i (t ∷ ts) q e = go (for_some (eqb h) (handle_of t.state)) refl e (λ x. holder-busy h (suc i) ts q x)
  where
    Busy : Type 0
    Busy = (j : ℕ) × (q ≡ i + j) × (is_ready (get_or (t ∷ ts) j blank_token).state ≡ false)

    later : (j : ℕ) × (q ≡ suc i + j) × (is_ready (get_or ts j blank_token).state ≡ false) → Busy
    later (j, x, r) = (suc j, (let z : q ≡ i + suc j = omega arith in z), r)

    go :
        (b : Bool) → for_some (eqb h) (handle_of t.state) ≡ b
        → elim b as (λ b. Place) [ true ↦ Some i | false ↦ holder h (suc i) ts ] ≡ Some q
        → (holder h (suc i) ts ≡ Some q → (j : ℕ) × (q ≡ suc i + j) × (is_ready (get_or ts j blank_token).state ≡ false))
        → Busy
    go true x y f = (0, (let z : i ≡ q = cc in omega arith), handle-busy h t.state x)
    go false x y f = later (f y)

module _ (m : Machine) (h : QueueRulesHold m) (k : ℕ) (l : k < m.queued) where
  abbrev Leaves : Effect → Type 0
  Leaves e = After (Untouched (queued_token m k) (get_or m.queue k 0) k) e

  apart : (handle q : ℕ) → holder handle 0 m.tokens ≡ Some q → get_or m.queue k 0 ≡ q → ⊥
  apart handle q e p = go (holder-busy handle 0 m.tokens q e)
    where
      go : (j : ℕ) × (q ≡ 0 + j) × (is_ready (token_at m.tokens j).state ≡ false) → ⊥
      go (j, x, r) =
          clash (h.ready k l)
          (subst (λ i. is_ready (token_at m.tokens i).state ≡ false) (let z : j ≡ get_or m.queue k 0 = omega arith in z) r)

  after-answered : (handle : ℕ) (v : ℤ) (q : Place) → holder handle 0 m.tokens ≡ q → Leaves (answered m v q)
  unfolding answered After
  after-answered handle v None e = tt
  after-answered handle v (Some q) e = untouched-enqueue q _ (untouched-put q _ m (apart handle q e) (queued-untouched m h k l))

pub answer-stands :
    (lim : Limits) (d : Dag) (m : Machine) (handle : ℕ) (v : ℤ) (k : ℕ)
    → k < m.queued
    → Stands m k (answer lim d m handle v).machine k
answer-stands lim d m handle v k l =
    call-stands lim d m k (answer lim d m handle v) (answered m v (holder handle 0 m.tokens)) l
    (λ e. unfold answer in outcome-refused m _ e)
    (λ ok. let a = answer-accepted lim d m handle v ok in (a.holds, a.does))
    (λ h. after-answered m h k l handle v (holder handle 0 m.tokens) refl)
