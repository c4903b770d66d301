-- Runs that move the clock, by computation: which calls of rwait fall due, when, and in which order they go on. Each is true because the
-- checker works the run out. Assumes nothing.
use mathlib.Core.Path.{◌≡◌, refl}
use mathlib.Core.List.{List, [], ◌∷◌, ◌++◌}
use Prim.Native.Nat.{ℕ}
use lib.IntN.{pos}
use Rattle.job.specs.Number.{bytes}
use Rattle.job.specs.Decimal.{ascii}
use Rattle.job.specs.Syntax.{Program}
use Rattle.job.specs.Encode.{encode}
use Rattle.job.specs.Notation.{◌∥◌, ◌>[◌]>◌, ◌<[◌]<◌, v, #, let', goal}
use Rattle.model.specs.Machine.Limits.{paper}
use Rattle.model.specs.Output.Line.{text_of_all}
use Rattle.model.specs.Output.Orcrun.{input_lines}
use Rattle.calculus.specs.Event.{Event}
use Rattle.model.specs.Run.Call.{Call, runner, outcome_of, events_of, events_from}
use Rattle.calculus.proofs.Programs.{ask, rwait, no-wait, wait-five, wait-negative, wait-to-the-end, wait-past-the-end}
use Rattle.model.proofs.Run.Computing.{computing}
use Rattle.model.proofs.Run.Worked.{house, events}

-- rwait(0): "With t = 0 the token joins the back of the queue in the call's own step, with value 0"
pub no-move-needed : events runner no-wait (house 2) ≡ Event.publish (pos 0) ∷ []
unfolding computing outcome_of events_of events_from
no-move-needed = refl

-- rwait(5): at 4 no token is ready, and the step is refused; at 5 it is
pub due-at-its-time :
    events runner wait-five (house 1 ++ (Call.advance 4 ∷ Call.step 0 ∷ Call.advance 5 ∷ house 1))
    ≡ Event.move 4 ∷ Event.move 5 ∷ Event.publish (pos 0) ∷ []
unfolding computing outcome_of events_of events_from
due-at-its-time = refl

-- "by due time, then by order of call". (rwait(5) >x> 16()) | (rwait(3) >x> 17()) | (rwait(3) >x> 18()), called in this order
abbrev pub three-waits : Program
three-waits =
    goal ((rwait (pos 5) >[ 0 ]> ask 16) ∥ ((rwait (pos 3) >[ 0 ]> ask 17) ∥ (rwait (pos 3) >[ 0 ]> ask 18)))

pub by-due-time-then-by-call :
    events runner three-waits (house 5 ++ (Call.advance 5 ∷ house 6))
    ≡ Event.move 5 ∷ Event.call 0 17 [] ∷ Event.call 1 18 [] ∷ Event.call 2 16 [] ∷ []
unfolding computing outcome_of events_of events_from
by-due-time-then-by-call = refl

-- "A choke ends .. tokens" that are due later, and takes them from the order of call: let(x) <x< (let(1) | rwait(5))
abbrev pub value-before-time : Program
value-before-time = goal (let' (v 0) <[ 0 ]< (let' (# 1) ∥ rwait (pos 5)))

pub due-token-pruned :
    events runner value-before-time (house 9 ++ (Call.advance 5 ∷ [])) ≡ Event.publish (pos 1) ∷ Event.move 5 ∷ []
unfolding computing outcome_of events_of events_from
due-token-pruned = refl

-- "negative t is silent"; "With a sum above 2147483647 the call never falls due", with that sum it does
pub never-due : events runner wait-negative (house 1 ++ (Call.advance 2147483647 ∷ house 1)) ≡ Event.move 2147483647 ∷ []
unfolding computing outcome_of events_of events_from
never-due = refl

pub due-at-the-last-time :
    events runner wait-to-the-end (house 1 ++ (Call.advance 1 ∷ house 2 ++ (Call.advance 2147483647 ∷ house 2)))
    ≡ Event.move 1 ∷ Event.move 2147483647 ∷ Event.publish (pos 0) ∷ []
unfolding computing outcome_of events_of events_from
due-at-the-last-time = refl

pub due-past-the-last-time :
    events runner wait-past-the-end (house 1 ++ (Call.advance 1 ∷ house 2 ++ (Call.advance 2147483647 ∷ house 2)))
    ≡ Event.move 1 ∷ Event.move 2147483647 ∷ []
unfolding computing outcome_of events_of events_from
due-past-the-last-time = refl

-- "a record with handle 4294967295 names the time": to 3; back to 2; to a negative time; to 5. A refused move doesn't end the run
abbrev clock_record : ℕ → List ℕ
clock_record time = bytes 4 4294967295 ++ bytes 4 time

pub clock-records :
    text_of_all
    (input_lines paper 10 (encode wait-five ++ (clock_record 3 ++ (clock_record 2 ++ (clock_record 4294967295 ++ clock_record 5)))))
    ≡ ascii "refused 15\nrefused 15\npublish 0\nend 2\n"
unfolding computing
clock-records = refl
