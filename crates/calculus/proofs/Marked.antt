-- The programs of the marked runs in the calculus: each list that a run prints is allowed, and no event may come after it but a move of the
-- clock. (Of N = 0 there is no program, and for the two that go on for ever see `Silent`.) Assumes nothing.
use mathlib.Core.Path.{◌≡◌, refl}
use mathlib.Core.Bool.{true, false}
use mathlib.Core.List.{List, [], ◌∷◌, ◌++◌}
use Prim.Native.Nat.{ℕ}
use lib.IntN.{ℤ, pos}
use Rattle.job.specs.Syntax.{Program}
use Rattle.calculus.specs.Event.{Event, publish, call, answer}
use Rattle.calculus.specs.Meaning.{meaning}
use Rattle.calculus.proofs.Computing.{meant, rewritten}
use Rattle.calculus.proofs.Search.{misses, searching}
use Rattle.calculus.proofs.NotAllowed.{NoNext, no-next}
use Rattle.calculus.proofs.Programs.{nothing, one-signal, nothing-passed, nothing-awaited, overflow, largest-sum}
use Rattle.calculus.proofs.Programs.{every_value, first-value, first-answer}

-- every event but a move of the clock, which may come at any time
pub data NotMove : Event → Type 0 where
  publishing : {w : ℤ} → NotMove (publish w)
  calling : {k s : ℕ} {vs : List ℤ} → NotMove (call k s vs)
  answering : {k : ℕ} {w : ℤ} → NotMove (answer k w)

abbrev pub EndsAfter : Program → List Event → Type 0
EndsAfter p es = (e : Event) → NotMove e → NoNext p es e

ends-after : (n : ℕ) {p : Program} {es : List Event}
    → misses (meaning p).body true n 0 0 (meaning p).goal es ≡ false
    → ((w : ℤ) → misses (meaning p).body false n 0 0 (meaning p).goal (es ++ (publish w ∷ [])) ≡ true)
    → ((k s : ℕ) (vs : List ℤ) → misses (meaning p).body false n 0 0 (meaning p).goal (es ++ (call k s vs ∷ [])) ≡ true)
    → ((k : ℕ) (w : ℤ) → misses (meaning p).body false n 0 0 (meaning p).goal (es ++ (answer k w ∷ [])) ≡ true)
    → EndsAfter p es
ends-after n s p c a e (publishing {w = w}) = no-next n s (p w)
ends-after n s p c a e (calling {k = k} {s = r} {vs = vs}) = no-next n s (c k r vs)
ends-after n s p c a e (answering {k = k} {w = w}) = no-next n s (a k w)

-- the run that is printed; its `refused 12` gives nothing
pub printed-run-ends :
    EndsAfter first-answer (call 0 16 (pos 5 ∷ []) ∷ call 1 17 [] ∷ answer 1 (pos 42) ∷ publish (pos 42) ∷ [])
unfolding meant rewritten searching
printed-run-ends = ends-after 20 refl (λ w. refl) (λ k s vs. refl) (λ k w. refl)

-- stop
pub nothing_ends : EndsAfter nothing []
unfolding meant rewritten searching
nothing_ends = ends-after 20 refl (λ w. refl) (λ k s vs. refl) (λ k w. refl)

-- signal()
pub one-signal-ends : EndsAfter one-signal (publish (pos 0) ∷ [])
unfolding meant rewritten searching
one-signal-ends = ends-after 20 refl (λ w. refl) (λ k s vs. refl) (λ k w. refl)

-- stop >x> let(x)
pub nothing-passed-ends : EndsAfter nothing-passed []
unfolding meant rewritten searching
nothing-passed-ends = ends-after 20 refl (λ w. refl) (λ k s vs. refl) (λ k w. refl)

-- let(x) <x< stop
pub nothing-awaited-ends : EndsAfter nothing-awaited []
unfolding meant rewritten searching
nothing-awaited-ends = ends-after 20 refl (λ w. refl) (λ k s vs. refl) (λ k w. refl)

-- add(2147483647, 1)
pub overflow-ends : EndsAfter overflow []
unfolding meant rewritten searching
overflow-ends = ends-after 20 refl (λ w. refl) (λ k s vs. refl) (λ k w. refl)

-- add(2147483646, 1)
pub largest-sum-ends : EndsAfter largest-sum (publish (pos 2147483647) ∷ [])
unfolding meant rewritten searching
largest-sum-ends = ends-after 20 refl (λ w. refl) (λ k s vs. refl) (λ k w. refl)

-- (let(1) | let(2)) >x> let(x)
pub every-value-ends : EndsAfter every_value (publish (pos 1) ∷ publish (pos 2) ∷ [])
unfolding meant rewritten searching
every-value-ends = ends-after 20 refl (λ w. refl) (λ k s vs. refl) (λ k w. refl)

-- let(x) <x< (let(1) | let(2))
pub first-value-ends : EndsAfter first-value (publish (pos 1) ∷ [])
unfolding meant rewritten searching
first-value-ends = ends-after 20 refl (λ w. refl) (λ k s vs. refl) (λ k w. refl)
