-- The programs of the worked examples, in the notation of the marked runs: document 01's, and document 002's with outside sites for its
-- own. Assumes nothing: these are definitions.
use mathlib.Core.List.{List, [], ◌∷◌}
use Prim.Native.Nat.{ℕ}
use lib.IntN.{ℤ, pos, negsuc}
use Rattle.job.specs.Syntax.{Param, constant, Exp, stop, site, call, Program}
use Rattle.job.specs.Notation.{◌∥◌, ◌>[◌]>◌, ◌<[◌]<◌, v, #, let', signal, add, goal, calling}

-- calls of sites with no, one and two parameters
abbrev pub ask : ℕ → Exp
ask s = site s []

abbrev pub tell : ℕ → Param → Exp
tell s a = site s (a ∷ [])

abbrev pub tell-both : ℕ → Param → Param → Exp
tell-both s a b = site s (a ∷ b ∷ [])

abbrev pub ift : Param → Exp
ift a = site 1 (a ∷ [])

abbrev pub rwait : ℤ → Exp
rwait t = site 7 (constant t ∷ [])

-- one definition E, with its count of formals, and a goal
abbrev pub defining : ℕ → Exp → Exp → Program
defining n b g = record { definitions = record { formals = n; body = b } ∷ []; goal = g }

-- a call of E
abbrev pub E : List Param → Exp
E ps = call 0 ps

-- stop; signal(); stop >x> let(x); let(x) <x< stop
abbrev pub nothing : Program
nothing = goal stop

abbrev pub one-signal : Program
one-signal = goal signal

abbrev pub nothing-passed : Program
nothing-passed = goal (stop >[ 0 ]> let' (v 0))

abbrev pub nothing-awaited : Program
nothing-awaited = goal (let' (v 0) <[ 0 ]< stop)

-- let(1)
abbrev pub one_value : Program
one_value = goal (let' (# 1))

-- add(2147483646, 1); add(2147483647, 1)
abbrev pub largest-sum : Program
largest-sum = goal (add (# 2147483646) (# 1))

abbrev pub overflow : Program
overflow = goal (add (# 2147483647) (# 1))

-- (let(1) | let(2)) >x> let(x)
abbrev pub every_value : Program
every_value = goal ((let' (# 1) ∥ let' (# 2)) >[ 0 ]> let' (v 0))

-- let(x) <x< (let(1) | let(2))
abbrev pub first-value : Program
first-value = goal (let' (v 0) <[ 0 ]< (let' (# 1) ∥ let' (# 2)))

-- let(x) <x< (16(5) | 17()), the run that document 01 prints
abbrev pub first-answer : Program
first-answer = goal (let' (v 0) <[ 0 ]< (tell 16 (# 5) ∥ ask 17))

-- 17(x) <x< 16()
abbrev pub pass_on : Program
pass_on = goal (tell 17 (v 0) <[ 0 ]< ask 16)

-- "(M() | N(x)) < x < g": (18() | 17(x)) <x< 16()
abbrev pub one-suspended : Program
one-suspended = goal ((ask 18 ∥ tell 17 (v 0)) <[ 0 ]< ask 16)

-- "(CNN(d) | BBC(d)) >x> Email(address, x)": (16() | 17()) >x> 18(7, x)
abbrev pub mail-each : Program
mail-each = goal ((ask 16 ∥ ask 17) >[ 0 ]> tell-both 18 (# 7) (v 0))

-- "Email(address, x) <x< (CNN(d) | BBC(d))": 18(7, x) <x< (16() | 17())
abbrev pub mail-once : Program
mail-once = goal (tell-both 18 (# 7) (v 0) <[ 0 ]< (ask 16 ∥ ask 17))

-- "((u, v) <u< M()) <v< N()", with the sum for the pair: (add(u, w) <u< 16()) <w< 17(); w is 0 and u is 1
abbrev pub fork-join : Program
fork-join = goal ((add (v 1) (v 0) <[ 1 ]< ask 16) <[ 0 ]< ask 17)

-- "x <x< (M() | Rwait(10) ≫ 0)", with site 17 for Rwait: let(x) <x< (16() | (17(10) >y> let(0)))
abbrev pub timeout : Program
timeout = goal (let' (v 0) <[ 0 ]< (ask 16 ∥ (tell 17 (# 10) >[ 0 ]> let' (# 0))))

-- rwait(0); rwait(5); rwait(-1)
abbrev pub no-wait : Program
no-wait = goal (rwait (pos 0))

abbrev pub wait-five : Program
wait-five = goal (rwait (pos 5))

abbrev pub wait-negative : Program
wait-negative = goal (rwait (negsuc 0))

-- rwait(1) >x> rwait(2147483646), which can fall due at the last time; rwait(1) >x> rwait(2147483647), which cannot fall due
abbrev pub wait-to-the-end : Program
wait-to-the-end = goal (rwait (pos 1) >[ 0 ]> rwait (pos 2147483646))

abbrev pub wait-past-the-end : Program
wait-past-the-end = goal (rwait (pos 1) >[ 0 ]> rwait (pos 2147483647))

-- "x <x< (M() | Rwait(10) ≫ 0)", with 7 for the 0: let(x) <x< (16() | (rwait(10) >y> let(7)))
abbrev pub deadline : Program
deadline = goal (let' (v 0) <[ 0 ]< (ask 16 ∥ (rwait (pos 10) >[ 0 ]> let' (# 7))))

-- the truth of either of two answers: ((let(z) <z< ((ift(x) >s> let(1)) | (ift(y) >s> let(1)))) <x< 16()) <y< 17()
abbrev pub parallel-or : Program
parallel-or =
    goal
    (((let' (v 2) <[ 2 ]< ((ift (v 1) >[ 2 ]> let' (# 1)) ∥ (ift (v 0) >[ 2 ]> let' (# 1)))) <[ 1 ]< ask 16) <[ 0 ]< ask 17)

-- "Metronome() = signal | (Rwait(1) ≫ Metronome())", with site 16 for Rwait
abbrev pub metronome : Program
metronome = calling (signal ∥ (tell 16 (# 1) >[ 0 ]> E []))

-- "Function calls non-strict": E(x) = let(1) | 17(x), goal E(x) <x< 16()
abbrev pub not-strict : Program
not-strict = defining 1 (let' (# 1) ∥ tell 17 (v 0)) (E (v 0 ∷ []) <[ 0 ]< ask 16)

-- E(x) = 17() >z> let(x), goal let(4) >a> (E(y) <y< 16()). Formals count from 0: x is 0 and z is 1; in the goal a is 0 and y is 1, as z is.
abbrev pub same_number : Program
same_number = defining 1 (ask 17 >[ 1 ]> let' (v 0)) (let' (# 4) >[ 0 ]> (E (v 1 ∷ []) <[ 1 ]< ask 16))

-- E() = E(), goal E()
abbrev pub never_ends : Program
never_ends = calling (E [])

-- W() = stop <x< W(), goal W()
abbrev pub ever-deeper : Program
ever-deeper = calling (stop <[ 0 ]< E [])
