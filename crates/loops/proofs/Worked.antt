-- What some tables need, by computation; and tables that fork, prune or call in front of an assign are none of these. Assumes nothing.
use mathlib.Core.Path.{◌≡◌, refl}
use mathlib.Core.Bool.{true, false}
use mathlib.Core.List.{[], ◌∷◌}
use Prim.Native.Nat.{ℕ, zero, suc}
use lib.IntN.{pos}
use Rattle.job.specs.Test.{◌and◌}
use Rattle.job.specs.Syntax.{constant, Exp, stop, site, call, Program}
use Rattle.job.specs.Notation.{◌∥◌, ◌>[◌]>◌, ◌<[◌]<◌, v, let', calling}
use Rattle.loops.specs.Looping.{unbranching, bodies_loop, loops}
use Rattle.loops.specs.Needed.{tokens_toward, cells_toward, tokens_needed, cells_needed}

-- every definition call of a body in tail position
abbrev in_tail : ℕ → ℕ
in_tail d = 0

-- E() = E(), goal E(): the callee and its frame
abbrev endless : Program
endless = calling (call 0 [])

endless-needs : (loops in_tail 0 endless ≡ true) × (tokens_needed 0 endless ≡ 2) × (cells_needed endless ≡ 0)
unfolding loops bodies_loop unbranching tokens_needed tokens_toward cells_needed cells_toward ◌and◌
endless-needs = (refl, refl, refl)

-- M() = rwait(604800) >x> 16(x) >y> M(), goal M()
abbrev week : Exp
week = site 7 (constant (pos 604800) ∷ [])

abbrev metronome : Program
metronome = calling (week >[ 0 ]> site 16 (v 0 ∷ []) >[ 1 ]> call 0 [])

metronome-needs : (loops in_tail 0 metronome ≡ true) × (tokens_needed 0 metronome ≡ 2) × (cells_needed metronome ≡ 0)
unfolding loops bodies_loop unbranching tokens_needed tokens_toward cells_needed cells_toward ◌and◌
metronome-needs = (refl, refl, refl)

-- D0() = D1() >x> D0(), D1() = 16() >x> let(x), goal (D0() | D0()) >x> (let(x) <y< 17()): D0 has the higher rank, since it calls D1 in
-- front of an assign. A caller more, two loops side by side, and a prune for each of the two
abbrev first_rank : ℕ → ℕ
first_rank zero = 1
first_rank (suc d) = 0

abbrev two_loops : Program
two_loops =
    record {
      definitions =
          record { formals = 0; body = call 1 [] >[ 0 ]> call 0 [] }
          ∷ record { formals = 0; body = site 16 [] >[ 0 ]> let' (v 0) }
          ∷ [];
      goal = (call 0 [] ∥ call 0 []) >[ 0 ]> (let' (v 0) <[ 1 ]< site 17 []);
    }

two-loops-need : (loops first_rank 1 two_loops ≡ true) × (tokens_needed 1 two_loops ≡ 6) × (cells_needed two_loops ≡ 2)
unfolding loops bodies_loop unbranching tokens_needed tokens_toward cells_needed cells_toward ◌and◌
two-loops-need = (refl, refl, refl)

-- E() = E() | stop, E() = E() <x< stop, E() = E() >x> stop: each grows without end
none-loop-in-tail :
    (loops in_tail 0 (calling (call 0 [] ∥ stop)) ≡ false)
    × (loops in_tail 0 (calling (call 0 [] <[ 0 ]< stop)) ≡ false)
    × (loops in_tail 0 (calling (call 0 [] >[ 0 ]> stop)) ≡ false)
unfolding loops bodies_loop unbranching ◌and◌
none-loop-in-tail = (refl, refl, refl)
