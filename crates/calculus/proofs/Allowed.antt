-- Worked examples: lists that are allowed, each with its program. The first four are written out, rewriting by rewriting; the others'
-- rewritings are found by computation (`Search`). Assumes nothing.
use mathlib.Core.Path.{refl}
use mathlib.Core.List.{List, [], ◌∷◌}
use Prim.Native.Nat.{ℕ}
use lib.IntN.{pos}
use Rattle.calculus.specs.Event.{Event, publish, call, answer, move, silently, showing}
use Rattle.calculus.specs.Expression.{Exp}
use Rattle.calculus.specs.Rewriting.{silence, calling, answering, Rewrites, builtin-gives, outside-call, answered, published}
use Rattle.calculus.specs.Rewriting.{par-left, par-right, seq-acts, seq-publishes, prune-right, prune-publishes}
use Rattle.calculus.specs.Allowed.{Goal, next_handle, shown, CanShow, ends, then, Allowed}
use Rattle.calculus.specs.Meaning.{meaning}
use Rattle.calculus.proofs.Computing.{meant, rewritten}
use Rattle.calculus.proofs.Search.{searching, allowed}
use Rattle.calculus.proofs.Programs.{largest-sum, every_value, first-value, first-answer, pass_on, one-suspended, mail-each}
use Rattle.calculus.proofs.Programs.{mail-once, fork-join, timeout, parallel-or, metronome, not-strict, same_number}
use Rattle.calculus.proofs.Programs.{nothing, no-wait, wait-five, wait-to-the-end, deadline}

-- a silent rewriting, or one that shows an event, in front of others
quietly : {body : ℕ → Exp} {h now : ℕ} {f f' : Exp} {es : List Event}
    → Rewrites body h now f silently f'
    → CanShow body (record { exp = f'; handle = h; clock = now }) es
    → CanShow body (record { exp = f; handle = h; clock = now }) es
unfolding shown next_handle
quietly r s = then {a = silently} r s

openly : {body : ℕ → Exp} {h now : ℕ} {f f' : Exp} {e : Event} {es : List Event}
    → Rewrites body h now f (showing e) f'
    → CanShow body (record { exp = f'; handle = next_handle (showing e) h; clock = now }) es
    → CanShow body (record { exp = f; handle = h; clock = now }) (e ∷ es)
unfolding shown
openly r s = then r s

-- add(2147483646, 1)
pub largest-sum-published : Allowed (meaning largest-sum) (publish (pos 2147483647) ∷ [])
unfolding meant rewritten
largest-sum-published = quietly (builtin-gives refl refl refl) (openly published ends)

-- (let(1) | let(2)) >x> let(x), in either order: 1 is passed on, let(1) is called on the right, and so for 2
pub every-value-in-order : Allowed (meaning every_value) (publish (pos 1) ∷ publish (pos 2) ∷ [])
unfolding meant rewritten
every-value-in-order =
    quietly (seq-acts (par-left (builtin-gives refl refl refl)) silence)
    (quietly (seq-publishes (par-left published))
    (quietly (par-right (builtin-gives refl refl refl))
    (openly (par-right published)
    (quietly (par-left (seq-acts (par-right (builtin-gives refl refl refl)) silence))
    (quietly (par-left (seq-publishes (par-right published)))
    (quietly (par-left (par-right (builtin-gives refl refl refl)))
    (openly (par-left (par-right published)) ends)))))))

pub every-value-turned : Allowed (meaning every_value) (publish (pos 2) ∷ publish (pos 1) ∷ [])
unfolding meant rewritten
every-value-turned =
    quietly (seq-acts (par-right (builtin-gives refl refl refl)) silence)
    (quietly (seq-publishes (par-right published))
    (quietly (par-right (builtin-gives refl refl refl))
    (openly (par-right published)
    (quietly (par-left (seq-acts (par-left (builtin-gives refl refl refl)) silence))
    (quietly (par-left (seq-publishes (par-left published)))
    (quietly (par-left (par-right (builtin-gives refl refl refl)))
    (openly (par-left (par-right published)) ends)))))))

-- let(x) <x< (16(5) | 17()), the run that document 01 prints: `call 0 16 5`, `call 1 17`, the record (1, 42), `publish 42`
pub printed-run : Allowed (meaning first-answer) (call 0 16 (pos 5 ∷ []) ∷ call 1 17 [] ∷ answer 1 (pos 42) ∷ publish (pos 42) ∷ [])
unfolding meant rewritten
printed-run =
    openly (prune-right (par-left (outside-call refl refl)) calling)
    (openly (prune-right (par-right (outside-call refl refl)) calling)
    (openly (prune-right (par-right (answered refl)) answering)
    (quietly (prune-publishes (par-right published))
    (quietly (builtin-gives refl refl refl)
    (openly published ends)))))

-- "they may end anywhere"
pub nothing_yet : (g : Goal) → Allowed g []
nothing_yet g = ends

-- let(x) <x< (let(1) | let(2)): either value, "f <x< g acts as f or as g"
pub first-value-left : Allowed (meaning first-value) (publish (pos 1) ∷ [])
unfolding meant rewritten searching
first-value-left = allowed (meaning first-value) 20 refl

pub first-value-right : Allowed (meaning first-value) (publish (pos 2) ∷ [])
unfolding meant rewritten searching
first-value-right = allowed (meaning first-value) 20 refl

-- let(x) <x< (16(5) | 17()): a second answer is taken before the value is published, and is then lost
pub second-answer-lost :
    Allowed (meaning first-answer) (call 0 16 (pos 5 ∷ []) ∷ call 1 17 [] ∷ answer 1 (pos 42) ∷ answer 0 (pos 7) ∷ publish (pos 42) ∷ [])
unfolding meant rewritten searching
second-answer-lost = allowed (meaning first-answer) 20 refl

-- 17(x) <x< 16()
pub passed_on : Allowed (meaning pass_on)
    (call 0 16 [] ∷ answer 0 (pos 6) ∷ call 1 17 (pos 6 ∷ []) ∷ answer 1 (pos 8) ∷ publish (pos 8) ∷ [])
unfolding meant rewritten searching
passed_on = allowed (meaning pass_on) 20 refl

-- (18() | 17(x)) <x< 16(): the call that does not need x is made first, and that of 17 resumes with the answer of 16
pub one-resumed :
    Allowed (meaning one-suspended)
    (call 0 18 [] ∷ call 1 16 [] ∷ answer 1 (pos 6) ∷ call 2 17 (pos 6 ∷ []) ∷ answer 0 (pos 8) ∷ publish (pos 8) ∷ [])
unfolding meant rewritten searching
one-resumed = allowed (meaning one-suspended) 20 refl

-- (16() | 17()) >x> 18(7, x): "may call Email twice"
pub mailed-each :
    Allowed
    (meaning mail-each)
    (call 0 16 []
    ∷ call 1 17 []
    ∷ answer 0 (pos 3)
    ∷ call 2 18 (pos 7 ∷ pos 3 ∷ [])
    ∷ answer 1 (pos 4)
    ∷ call 3 18 (pos 7 ∷ pos 4 ∷ [])
    ∷ answer 3 (pos 0)
    ∷ publish (pos 0)
    ∷ [])
unfolding meant rewritten searching
mailed-each = allowed (meaning mail-each) 20 refl

-- 18(7, x) <x< (16() | 17()): the second answers first
pub mailed-once :
    Allowed
    (meaning mail-once)
    (call 0 16 [] ∷ call 1 17 [] ∷ answer 1 (pos 4) ∷ call 2 18 (pos 7 ∷ pos 4 ∷ []) ∷ answer 2 (pos 0) ∷ publish (pos 0) ∷ [])
unfolding meant rewritten searching
mailed-once = allowed (meaning mail-once) 20 refl

-- (add(u, w) <u< 16()) <w< 17(): both calls, then both answers, in any order, then the sum
pub forked-and-joined :
    Allowed (meaning fork-join) (call 0 17 [] ∷ call 1 16 [] ∷ answer 1 (pos 3) ∷ answer 0 (pos 4) ∷ publish (pos 7) ∷ [])
unfolding meant rewritten searching
forked-and-joined = allowed (meaning fork-join) 20 refl

-- let(x) <x< (16() | (17(10) >y> let(0))): the response in time, and the time out
pub in-time : Allowed (meaning timeout) (call 0 16 [] ∷ call 1 17 (pos 10 ∷ []) ∷ answer 0 (pos 5) ∷ publish (pos 5) ∷ [])
unfolding meant rewritten searching
in-time = allowed (meaning timeout) 20 refl

pub timed-out : Allowed (meaning timeout) (call 0 16 [] ∷ call 1 17 (pos 10 ∷ []) ∷ answer 1 (pos 0) ∷ publish (pos 0) ∷ [])
unfolding meant rewritten searching
timed-out = allowed (meaning timeout) 20 refl

-- the truth of either of 16() and 17(): one true answer is enough, 16 need not answer
pub one-true-enough : Allowed (meaning parallel-or) (call 0 16 [] ∷ call 1 17 [] ∷ answer 1 (pos 1) ∷ publish (pos 1) ∷ [])
unfolding meant rewritten searching
one-true-enough = allowed (meaning parallel-or) 20 refl

-- Metronome() = signal | (16(1) >x> Metronome())
pub two-ticks :
    Allowed (meaning metronome)
    (publish (pos 0) ∷ call 0 16 (pos 1 ∷ []) ∷ answer 0 (pos 0) ∷ publish (pos 0) ∷ call 1 16 (pos 1 ∷ []) ∷ [])
unfolding meant rewritten searching
two-ticks = allowed (meaning metronome) 20 refl

-- E(x) = let(1) | 17(x), goal E(x) <x< 16(): E does not wait for x; a definition call that did would show no 1 before the call of 16
pub entered-without-value :
    Allowed (meaning not-strict) (publish (pos 1) ∷ call 0 16 [] ∷ answer 0 (pos 6) ∷ call 1 17 (pos 6 ∷ []) ∷ [])
unfolding meant rewritten searching
entered-without-value = allowed (meaning not-strict) 20 refl

-- E(x) = 17() >z> let(x), goal let(4) >a> (E(y) <y< 16()): y's 6 is published, though z, with the same number, is 9
pub right-name :
    Allowed (meaning same_number) (call 0 17 [] ∷ answer 0 (pos 9) ∷ call 1 16 [] ∷ answer 1 (pos 6) ∷ publish (pos 6) ∷ [])
unfolding meant rewritten searching
right-name = allowed (meaning same_number) 20 refl

-- rwait(5): 0 at 5
pub due-at-five : Allowed (meaning wait-five) (move 5 ∷ publish (pos 0) ∷ [])
unfolding meant rewritten searching
due-at-five = allowed (meaning wait-five) 20 refl

-- "fixes rwait's due time at the call", which may come before or after a move of the clock
pub called-first : Allowed (meaning wait-five) (move 3 ∷ move 5 ∷ publish (pos 0) ∷ [])
unfolding meant rewritten searching
called-first = allowed (meaning wait-five) 20 refl

pub called-later : Allowed (meaning wait-five) (move 3 ∷ move 8 ∷ publish (pos 0) ∷ [])
unfolding meant rewritten searching
called-later = allowed (meaning wait-five) 20 refl

-- rwait(0): nobody need move the clock
pub due-at-once : Allowed (meaning no-wait) (publish (pos 0) ∷ [])
unfolding meant rewritten searching
due-at-once = allowed (meaning no-wait) 20 refl

-- stop: the clock may be moved to the time that it is, and to the last
pub same-time-again : Allowed (meaning nothing) (move 0 ∷ move 5 ∷ move 5 ∷ move 2147483647 ∷ [])
unfolding meant rewritten searching
same-time-again = allowed (meaning nothing) 20 refl

-- rwait(1) >x> rwait(2147483646): due at the last time
pub due-at-the-end : Allowed (meaning wait-to-the-end) (move 1 ∷ move 2147483647 ∷ publish (pos 0) ∷ [])
unfolding meant rewritten searching
due-at-the-end = allowed (meaning wait-to-the-end) 20 refl

-- let(x) <x< (16() | (rwait(10) >y> let(7))): the deadline passes; or the answer comes at that very time, and the wait, though over, is not
-- taken up first
pub deadline-passed : Allowed (meaning deadline) (call 0 16 [] ∷ move 10 ∷ publish (pos 7) ∷ [])
unfolding meant rewritten searching
deadline-passed = allowed (meaning deadline) 20 refl

pub just-in-time : Allowed (meaning deadline) (call 0 16 [] ∷ move 10 ∷ answer 0 (pos 3) ∷ publish (pos 3) ∷ [])
unfolding meant rewritten searching
just-in-time = allowed (meaning deadline) 20 refl
