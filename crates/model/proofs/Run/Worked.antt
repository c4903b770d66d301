-- Runs by computation, for rules that the marked runs do not show: a definition call does not wait, a handle is not given again, a callee
-- has only its formals bound, and what else is named below. Each is true because the checker works the run out. Assumes nothing.
use mathlib.Core.Path.{◌≡◌, refl}
use mathlib.Core.List.{List, [], ◌∷◌, ◌++◌}
use Prim.Native.Nat.{ℕ, ◌<◌}
use native.Mathlib.Omega.{arith}
use lib.ListN.{replicate}
use lib.IntN.{pos}
use Rattle.std.specs.Prelude.{Some}
use Rattle.job.specs.Number.{Signed32, fits}
use Rattle.job.specs.Syntax.{Program, stop}
use Rattle.job.specs.Construct.{construct}
use Rattle.job.specs.Notation.{◌∥◌, ◌<[◌]<◌, v, goal}
use Rattle.model.specs.Machine.Limits.{paper}
use Rattle.model.specs.Machine.Blank.{empty, token_at}
use Rattle.model.specs.Machine.Update.{queue_of}
use Rattle.calculus.specs.Event.{Event}
use Rattle.model.specs.Run.Call.{Call, Runner, runner, outcome_of, events_of, events_from, machine_after, started}
use Rattle.model.specs.Run.Follow.{queued_token}
use Rattle.model.specs.declared.token.Slot.TheVariants as slots
use Rattle.model.specs.declared.token.State.TheVariants as states
use Rattle.model.specs.declared.token.Token.{Token}
use Rattle.model.specs.declared.record.Machine.{Machine}
use Rattle.job.proofs.Test.{lt-ltb}
use Rattle.calculus.proofs.Programs.{ask, tell, mail-once, not-strict, same_number}
use Rattle.model.proofs.Run.Computing.{computing}

-- so many steps in house order
abbrev pub house : ℕ → List Call
house n = replicate n (Call.step 0)

pub in-range : (n : ℕ) → n < 2147483648 → Signed32 (pos n)
unfolding fits
in-range n l = lt-ltb n 2147483648 l

-- an answer that is not negative
abbrev pub answering : (h n : ℕ) → n < 2147483648 → Call
answering h n l = Call.answer h (pos n) (in-range n l)

-- a run of a program's table with the numbers of document 01: its events, and the machine that it ends in
abbrev pub events : Runner → Program → List Call → List Event
events R p calls = events_from R paper (construct p) (started R paper (construct p)) calls

abbrev pub after : Runner → Program → List Call → Machine
after R p calls = machine_after R paper (construct p) (started R paper (construct p)) calls

-- E(x) = let(1) | 17(x), goal E(x) <x< 16(): E is entered and publishes before x has a value; 17(x) waits for it
pub call-does-not-wait :
    events runner not-strict (house 9 ++ (answering 0 6 (omega arith) ∷ house 2))
    ≡ Event.call 0 16 [] ∷ Event.publish (pos 1) ∷ Event.answer 0 (pos 6) ∷ Event.call 1 17 (pos 6 ∷ []) ∷ []
unfolding computing outcome_of events_of events_from
call-does-not-wait = refl

-- 18(7, x) <x< (16() | 17()): the first answer prunes call 1. The next call is 2, and an answer to 1 is refused
pub handle-not-given-again :
    events runner mail-once
    (house 5 ++ (answering 0 3 (omega arith) ∷ house 2 ++ (answering 1 9 (omega arith) ∷ answering 2 5 (omega arith) ∷ house 2)))
    ≡ Event.call 0 16 []
    ∷ Event.call 1 17 []
    ∷ Event.answer 0 (pos 3)
    ∷ Event.call 2 18 (pos 7 ∷ pos 3 ∷ [])
    ∷ Event.answer 2 (pos 5)
    ∷ Event.publish (pos 5)
    ∷ []
unfolding computing outcome_of events_of events_from
handle-not-given-again = refl

-- E(x) = 17() >z> let(x), goal let(4) >a> (E(y) <y< 16()): the caller has a and y bound, the callee x alone, to y's cell
pub callee-has-its-formals :
    (queued_token (after runner same_number (house 4)) 1).binds ≡ slots.Cell 0 ∷ replicate 7 empty
unfolding computing outcome_of machine_after
callee-has-its-formals = refl

-- "waiters become ready, longest wait first". (17(x) | 18(x)) <x< 16(): 18(x), which is at the higher place, waits before 17(x) does
pub longest-wait-first :
    events runner (goal ((tell 17 (v 0) ∥ tell 18 (v 0)) <[ 0 ]< ask 16))
    (house 2 ++ (Call.step 2 ∷ Call.step 1 ∷ Call.step 0 ∷ answering 0 6 (omega arith) ∷ house 3))
    ≡ Event.call 0 16 [] ∷ Event.answer 0 (pos 6) ∷ Event.call 1 18 (pos 6 ∷ []) ∷ Event.call 2 17 (pos 6 ∷ []) ∷ []
unfolding computing outcome_of events_of events_from
longest-wait-first = refl

-- "A ready token goes to the back of the queue, left before right", at where: 17() <x< 16()
pub left-before-right :
    events runner (goal (ask 17 <[ 0 ]< ask 16)) (house 3) ≡ Event.call 0 17 [] ∷ Event.call 1 16 [] ∷ []
unfolding computing outcome_of events_of events_from
left-before-right = refl

-- "A new record takes the next place not in use before the call, after the last one given". (stop <x< stop) | (stop <x< stop): the left
-- where is given token 2 and cell 0, which are blank again before the right one acts; it is given token 3 and cell 1
abbrev pub after_two_prunes : Machine
after_two_prunes =
    after runner (goal ((stop <[ 0 ]< stop) ∥ (stop <[ 0 ]< stop)))
    (house 2 ++ (Call.step 1 ∷ Call.step 1 ∷ Call.step 0 ∷ []))

pub after-the-last-given : (queue_of after_two_prunes ≡ 1 ∷ 3 ∷ []) × ((token_at after_two_prunes.tokens 3).cell ≡ Some 1)
unfolding computing outcome_of machine_after
after-the-last-given = (refl, refl)

-- "What a line does not name is copied from the token acted on", on the run of `callee-has-its-formals`: the token at E(y) has the value 4
-- and keeps it as a frame; so does the right side at 16() when it is called out
abbrev frame_left : Token
frame_left = token_at (after runner same_number (house 4)).tokens 0

abbrev token_called_out : Token
token_called_out = token_at (after runner same_number (house 5)).tokens 1

pub frame-keeps-its-value : (frame_left.state ≡ states.Frame) × (frame_left.value ≡ Some (pos 4))
unfolding computing outcome_of machine_after
frame-keeps-its-value = (refl, refl)

pub called-out-keeps-its-value : (token_called_out.state ≡ states.Called 0) × (token_called_out.value ≡ Some (pos 4))
unfolding computing outcome_of machine_after
called-out-keeps-its-value = (refl, refl)
