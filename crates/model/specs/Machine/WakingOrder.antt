-- Document 02, request 1, in statements: whom a clock move wakes and in what order, what a choke leaves of a token, and that no two orders
-- name the same one. Proved in demand3/proofs/WakingOrder.antt. Assumes nothing: these are definitions.
use Rattle.std.specs.Prelude.{◌≡◌, true, false, List, [], ◌∷◌, ◌++◌, ℕ, ◌+◌, ◌≤◌, eqb, pos, Some}
use Rattle.job.specs.Test.{select, occurrences, once}
use Rattle.model.specs.Machine.Blank.{blank_token, token_at}
use Rattle.model.specs.Machine.State.{due_time_of}
use Rattle.model.specs.Machine.Update.{with_value, with_state, queue_of, waits_of, timers_of}
use Rattle.model.specs.Machine.Clock.{place_due_by}
use Rattle.model.specs.declared.token.State.TheVariants as states
use Rattle.model.specs.declared.record.Machine.{Machine}

-- places, each no earlier than the one before it
pub data Ascending (time : ℕ → ℕ) : List ℕ → Type 0 where
  none : Ascending time []
  single : {p : ℕ} → Ascending time (p ∷ [])
  next : {p q : ℕ} {l : List ℕ} → time p ≤ time q → Ascending time (q ∷ l) → Ascending time (p ∷ q ∷ l)

-- the due time of the token at a place; the places of a list that are due at a time
abbrev pub due_at : Machine → ℕ → ℕ
due_at m p = due_time_of (token_at m.tokens p).state

abbrev pub due_then : Machine → (due : ℕ) → List ℕ → List ℕ
due_then m due l = select (λ p. eqb (due_at m p) due) l

-- "A clock move adds those now due, with value 0, by due time, then by order of call": they join the back of the queue
pub record WakesInOrder (m : Machine) (time : ℕ) (after : Machine) : Type 0 where
  pub joined : List ℕ
  pub queue : queue_of after ≡ queue_of m ++ joined
  -- "those now due", none twice; and none whose time has not come
  pub each : (p : ℕ) → occurrences p joined ≡ once (place_due_by m time p)
  -- "by due time, then by order of call"
  pub by_time : Ascending (due_at m) joined
  pub by_call : (due : ℕ) → due ≤ time → due_then m due joined ≡ due_then m due (timers_of m)
  -- "with value 0"; every other token is as it was
  pub woken : (p : ℕ) → place_due_by m time p ≡ true
      → token_at after.tokens p ≡ with_state states.Ready (with_value (Some (pos 0)) (token_at m.tokens p))
  pub others : (p : ℕ) → place_due_by m time p ≡ false → token_at after.tokens p ≡ token_at m.tokens p

-- no order names the place, and it is blank
pub record Gone (m : Machine) (p : ℕ) : Type 0 where
  pub blank : token_at m.tokens p ≡ blank_token
  pub queue : occurrences p (queue_of m) ≡ 0
  pub waits : occurrences p (waits_of m) ≡ 0
  pub timers : occurrences p (timers_of m) ≡ 0

-- no place stands in two of the three orders, or twice in one
abbrev pub OrdersApart : Machine → Type 0
OrdersApart m = (p : ℕ) → occurrences p (queue_of m) + occurrences p (waits_of m) + occurrences p (timers_of m) ≤ 1
