-- Events that may not come next: each list is allowed as far as it goes, and is not with the one event more. What that event would break is
-- quoted. Both halves are computed (`Search`). Assumes nothing.
use mathlib.Core.Path.{◌≡◌, refl}
use mathlib.Core.Bool.{true, false}
use mathlib.Core.List.{List, [], ◌∷◌, ◌++◌}
use Prim.Native.Nat.{ℕ}
use lib.IntN.{ℤ, pos, negsuc}
use Rattle.job.specs.Syntax.{Program}
use Rattle.calculus.specs.Event.{Event, publish, call, answer, move}
use Rattle.calculus.specs.Allowed.{Allowed}
use Rattle.calculus.specs.Meaning.{meaning}
use Rattle.calculus.proofs.Computing.{meant, rewritten}
use Rattle.calculus.proofs.Search.{misses, searching, allowed, not-allowed}
use Rattle.calculus.proofs.Programs.{one_value, overflow, every_value, first-value, first-answer, pass_on, one-suspended}
use Rattle.calculus.proofs.Programs.{mail-each, mail-once, fork-join, timeout, parallel-or, metronome, not-strict, same_number}
use Rattle.calculus.proofs.Programs.{nothing, wait-five, wait-negative, wait-past-the-end, deadline}

pub record NoNext (p : Program) (es : List Event) (e : Event) : Type 0 where
  pub so_far : Allowed (meaning p) es
  pub not-then : Allowed (meaning p) (es ++ (e ∷ [])) → ⊥

-- n bounds the rewritings that are tried
pub no-next : (n : ℕ) {p : Program} {es : List Event} {e : Event}
    → misses (meaning p).body true n 0 0 (meaning p).goal es ≡ false
    → misses (meaning p).body false n 0 0 (meaning p).goal (es ++ (e ∷ [])) ≡ true
    → NoNext p es e
no-next n {p} s t = record { so_far = allowed (meaning p) n s; not-then = not-allowed (meaning p) n t }

-- let(1): a value in hand "publishes once and becomes stop"
pub no-value-twice : NoNext one_value (publish (pos 1) ∷ []) (publish (pos 1))
unfolding meant rewritten searching
no-value-twice = no-next 20 refl refl

pub no-wrong-value : NoNext one_value [] (publish (pos 2))
unfolding meant rewritten searching
no-wrong-value = no-next 20 refl refl

-- add(2147483647, 1) "is silent if it leaves signed 32 bits": neither the sum nor what 32 bits would make of it
pub no-sum-out-of-range : NoNext overflow [] (publish (pos 2147483648))
unfolding meant rewritten searching
no-sum-out-of-range = no-next 20 refl refl

pub no-wrapped-sum : NoNext overflow [] (publish (negsuc 2147483647))
unfolding meant rewritten searching
no-wrapped-sum = no-next 20 refl refl

-- (let(1) | let(2)) >x> let(x): each value once
pub no-third-value : NoNext every_value (publish (pos 2) ∷ publish (pos 1) ∷ []) (publish (pos 2))
unfolding meant rewritten searching
no-third-value = no-next 20 refl refl

-- let(x) <x< (let(1) | let(2)): "where g publishes v it silently becomes f with v for x", and g is gone
pub no-second-value : NoNext first-value (publish (pos 1) ∷ []) (publish (pos 2))
unfolding meant rewritten searching
no-second-value = no-next 20 refl refl

-- let(x) <x< (16(5) | 17()): a pruned call gets no answer, with whatever value; nor is a pruned call made
pub no-answer-to-pruned-call : (w : ℤ)
    → NoNext first-answer (call 0 16 (pos 5 ∷ []) ∷ call 1 17 [] ∷ answer 1 (pos 42) ∷ publish (pos 42) ∷ []) (answer 0 w)
unfolding meant rewritten searching
no-answer-to-pruned-call w = no-next 20 refl refl

pub no-pruned-call : NoNext first-answer (call 0 17 [] ∷ answer 0 (pos 42) ∷ publish (pos 42) ∷ []) (call 1 16 (pos 5 ∷ []))
unfolding meant rewritten searching
no-pruned-call = no-next 20 refl refl

-- "handles count calls from 0": none is left out, and none is given twice
pub no-handle-left-out : NoNext first-answer [] (call 1 16 (pos 5 ∷ []))
unfolding meant rewritten searching
no-handle-left-out = no-next 20 refl refl

pub no-handle-twice : NoNext first-answer (call 0 16 (pos 5 ∷ []) ∷ []) (call 0 17 [])
unfolding meant rewritten searching
no-handle-twice = no-next 20 refl refl

-- no answer to a call not made, none to a call answered, none that is not "signed 32-bit", and no publishing of another value
pub no-answer-before-call : NoNext first-answer (call 0 16 (pos 5 ∷ []) ∷ []) (answer 1 (pos 42))
unfolding meant rewritten searching
no-answer-before-call = no-next 20 refl refl

pub no-answer-twice : (w : ℤ) → NoNext first-answer (call 0 16 (pos 5 ∷ []) ∷ answer 0 (pos 42) ∷ []) (answer 0 w)
unfolding meant rewritten searching
no-answer-twice w = no-next 20 refl refl

pub no-answer-out-of-range : NoNext first-answer (call 0 16 (pos 5 ∷ []) ∷ []) (answer 0 (pos 2147483648))
unfolding meant rewritten searching
no-answer-out-of-range = no-next 20 refl refl

pub no-other-value : NoNext first-answer (call 0 16 (pos 5 ∷ []) ∷ answer 0 (pos 42) ∷ []) (publish (pos 5))
unfolding meant rewritten searching
no-other-value = no-next 20 refl refl

-- 17(x) <x< 16(): "an outside call with all values", so not before x has its value, and then with that
pub no-call-without-value : (w : ℤ) → NoNext pass_on [] (call 0 17 (w ∷ []))
unfolding meant rewritten searching
no-call-without-value w = no-next 20 refl refl

pub no-call-before-answer : (w : ℤ) → NoNext pass_on (call 0 16 [] ∷ []) (call 1 17 (w ∷ []))
unfolding meant rewritten searching
no-call-before-answer w = no-next 20 refl refl

pub no-call-with-other-value : NoNext pass_on (call 0 16 [] ∷ answer 0 (pos 6) ∷ []) (call 1 17 (pos 0 ∷ []))
unfolding meant rewritten searching
no-call-with-other-value = no-next 20 refl refl

-- (18() | 17(x)) <x< 16(): "site calls that need x are suspended", and the other is not
pub no-suspended-call : (w : ℤ) → NoNext one-suspended (call 0 18 [] ∷ answer 0 (pos 8) ∷ publish (pos 8) ∷ []) (call 1 17 (w ∷ []))
unfolding meant rewritten searching
no-suspended-call w = no-next 20 refl refl

-- (16() | 17()) >x> 18(7, x): publishes "only the values from g"
pub no-value-of-left : NoNext mail-each (call 0 16 [] ∷ answer 0 (pos 3) ∷ []) (publish (pos 3))
unfolding meant rewritten searching
no-value-of-left = no-next 20 refl refl

-- 18(7, x) <x< (16() | 17()): "sends at most one email"
pub no-second-mail : (w : ℤ)
    → NoNext
    mail-once
    (call 0 16 [] ∷ call 1 17 [] ∷ answer 0 (pos 3) ∷ call 2 18 (pos 7 ∷ pos 3 ∷ []) ∷ [])
    (call 3 18 (pos 7 ∷ w ∷ []))
unfolding meant rewritten searching
no-second-mail w = no-next 20 refl refl

-- (add(u, w) <u< 16()) <w< 17(): "after both respond"
pub no-join-of-one : (w : ℤ) → NoNext fork-join (call 0 16 [] ∷ call 1 17 [] ∷ answer 0 (pos 3) ∷ []) (publish w)
unfolding meant rewritten searching
no-join-of-one w = no-next 20 refl refl

-- let(x) <x< (16() | (17(10) >y> let(0))): with the 0 published the response comes too late
pub no-late-response : (w : ℤ)
    → NoNext timeout (call 0 16 [] ∷ call 1 17 (pos 10 ∷ []) ∷ answer 1 (pos 0) ∷ publish (pos 0) ∷ []) (answer 0 w)
unfolding meant rewritten searching
no-late-response w = no-next 20 refl refl

-- the truth of either of 16() and 17(): false twice is not true, and true twice is published once
pub no-truth-of-neither : NoNext parallel-or (call 0 16 [] ∷ call 1 17 [] ∷ answer 0 (pos 0) ∷ answer 1 (pos 0) ∷ []) (publish (pos 1))
unfolding meant rewritten searching
no-truth-of-neither = no-next 20 refl refl

pub no-truth-twice :
    NoNext parallel-or (call 0 16 [] ∷ call 1 17 [] ∷ answer 0 (pos 1) ∷ answer 1 (pos 1) ∷ publish (pos 1) ∷ []) (publish (pos 1))
unfolding meant rewritten searching
no-truth-twice = no-next 20 refl refl

-- Metronome() = signal | (16(1) >x> Metronome()): no tick before the answer
pub no-early-tick : NoNext metronome (publish (pos 0) ∷ call 0 16 (pos 1 ∷ []) ∷ []) (publish (pos 0))
unfolding meant rewritten searching
no-early-tick = no-next 20 refl refl

-- E(x) = let(1) | 17(x), goal E(x) <x< 16(): E is entered at once, but its site call needs the value
pub no-site-call-in-body : (w : ℤ) → NoNext not-strict (publish (pos 1) ∷ []) (call 0 17 (w ∷ []))
unfolding meant rewritten searching
no-site-call-in-body w = no-next 20 refl refl

-- E(x) = 17() >z> let(x), goal let(4) >a> (E(y) <y< 16()): "no name caught": not z's 9, and not a's 4
pub no-name-caught : NoNext same_number (call 0 17 [] ∷ answer 0 (pos 9) ∷ call 1 16 [] ∷ answer 1 (pos 6) ∷ []) (publish (pos 9))
unfolding meant rewritten searching
no-name-caught = no-next 20 refl refl

pub no-other-name : NoNext same_number (call 0 17 [] ∷ answer 0 (pos 9) ∷ call 1 16 [] ∷ answer 1 (pos 6) ∷ []) (publish (pos 4))
unfolding meant rewritten searching
no-other-name = no-next 20 refl refl

-- rwait(5): "answers it with 0 once that clock has reached it", so not at 4, not with no move, and with nothing else
pub no-answer-before-due : NoNext wait-five (move 4 ∷ []) (publish (pos 0))
unfolding meant rewritten searching
no-answer-before-due = no-next 20 refl refl

pub no-answer-without-clock : NoNext wait-five [] (publish (pos 0))
unfolding meant rewritten searching
no-answer-without-clock = no-next 20 refl refl

pub no-time-answered : NoNext wait-five (move 5 ∷ []) (publish (pos 5))
unfolding meant rewritten searching
no-time-answered = no-next 20 refl refl

-- rwait(-1): "negative t is silent"
pub no-negative-wait : (w : ℤ) → NoNext wait-negative (move 2147483647 ∷ []) (publish w)
unfolding meant rewritten searching
no-negative-wait w = no-next 20 refl refl

-- stop: the clock "takes moves to times 0 to 2147483647 and none back"
pub no-move-back : NoNext nothing (move 5 ∷ []) (move 4)
unfolding meant rewritten searching
no-move-back = no-next 20 refl refl

pub no-move-past-the-end : NoNext nothing [] (move 2147483648)
unfolding meant rewritten searching
no-move-past-the-end = no-next 20 refl refl

-- rwait(1) >x> rwait(2147483647): "With a sum above 2147483647 the call never falls due"
pub no-due-past-the-end : (w : ℤ) → NoNext wait-past-the-end (move 1 ∷ move 2147483647 ∷ []) (publish w)
unfolding meant rewritten searching
no-due-past-the-end w = no-next 20 refl refl

-- let(x) <x< (16() | (rwait(10) >y> let(7))): no 7 before the deadline, and with the 7 published the answer comes too late
pub no-early-deadline : NoNext deadline (call 0 16 [] ∷ move 9 ∷ []) (publish (pos 7))
unfolding meant rewritten searching
no-early-deadline = no-next 20 refl refl

pub no-answer-after-deadline : (w : ℤ) → NoNext deadline (call 0 16 [] ∷ move 10 ∷ publish (pos 7) ∷ []) (answer 0 w)
unfolding meant rewritten searching
no-answer-after-deadline w = no-next 20 refl refl
