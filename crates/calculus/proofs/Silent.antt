-- The two marked programs that go on for ever, E() = E() and W() = stop <x< W(), show nothing: their lists hold moves of the clock alone.
-- True because each silent rewriting leads to an expression of the same form, and no other rewriting is there. Assumes nothing.
use mathlib.Core.Path.{◌≡◌, refl}
use mathlib.Core.List.{List, []}
use Prim.Native.Nat.{ℕ}
use Rattle.job.specs.Test.{All, more}
use Rattle.calculus.specs.Event.{Event, move, Label, silently, showing}
use Rattle.calculus.specs.Expression.{Exp, stop, call, prune}
use Rattle.calculus.specs.Rewriting.{Rewrites, entered, prune-left, prune-right, prune-publishes}
use Rattle.calculus.specs.Allowed.{Configuration, shown, CanShow, ends, then, moves, Allowed}
use Rattle.calculus.specs.Meaning.{meaning}
use Rattle.job.proofs.Test.{never}
use Rattle.calculus.proofs.Computing.{meant, rewritten}
use Rattle.calculus.proofs.Programs.{never_ends, ever-deeper}

-- a rewriting that is silent, to an expression of the same form
record Quiet (I : Exp → Type 0) (a : Label) (f : Exp) : Type 0 where
  is-silent : a ≡ silently
  invariant-holds : I f

not-silent : {A : Type 0} {e : Event} → showing e ≡ silently → A
not-silent p = never cc

pub data IsMove : Event → Type 0 where
  moving : {t : ℕ} → IsMove (move t)

-- a form that every rewriting keeps, silently, shows nothing but moves of the clock
shows_nothing : (body : ℕ → Exp) (I : Exp → Type 0)
    → ((h now : ℕ) (f : Exp) (a : Label) (f' : Exp) → I f → Rewrites body h now f a f' → Quiet I a f')
    → (c : Configuration) (es : List Event) → I c.exp → CanShow body c es → All IsMove es
unfolding shown
shows_nothing body I keeps c es i ends = All.none
shows_nothing body I keeps c es i (then {a = silently} {f = f} {es = ds} r s) =
    shows_nothing body I keeps _ ds (keeps _ _ _ _ _ i r).invariant-holds s
shows_nothing body I keeps c es i (then {a = showing e} r s) = not-silent (keeps _ _ _ _ _ i r).is-silent
shows_nothing body I keeps c es i (moves {es = ds} l k s) = more moving (shows_nothing body I keeps _ ds i s)

-- E() = E()
data Calling : Exp → Type 0 where
  itself : Calling (call 0 [])

never-ends-keeps : (h now : ℕ) (f : Exp) (a : Label) (f' : Exp)
    → Calling f → Rewrites (meaning never_ends).body h now f a f' → Quiet Calling a f'
unfolding meant rewritten
never-ends-keeps h now f a f' itself entered = record { is-silent = refl; invariant-holds = itself }

pub never-ends-shows-nothing : (es : List Event) → Allowed (meaning never_ends) es → All IsMove es
unfolding meant
never-ends-shows-nothing es s = shows_nothing _ Calling never-ends-keeps _ es itself s

-- W() = stop <x< W()
data Deeper : Exp → Type 0 where
  bottom : Deeper (call 0 [])
  inside : {f : Exp} → Deeper f → Deeper (prune stop f)

ever-deeper-keeps : (h now : ℕ) (f : Exp) (a : Label) (f' : Exp)
    → Deeper f → Rewrites (meaning ever-deeper).body h now f a f' → Quiet Deeper a f'
unfolding meant rewritten
ever-deeper-keeps h now f a f' bottom entered = record { is-silent = refl; invariant-holds = inside bottom }
ever-deeper-keeps h now f a f' (inside d) (prune-right r passes) =
    let q = ever-deeper-keeps h now _ _ _ d r in record { is-silent = q.is-silent; invariant-holds = inside q.invariant-holds }
ever-deeper-keeps h now f a f' (inside d) (prune-publishes r) = not-silent (ever-deeper-keeps h now _ _ _ d r).is-silent
ever-deeper-keeps h now _ a _ (inside {f = f} d) (prune-left r) = elim r [ ]

pub ever-deeper-shows-nothing : (es : List Event) → Allowed (meaning ever-deeper) es → All IsMove es
unfolding meant
ever-deeper-shows-nothing es s = shows_nothing _ Deeper ever-deeper-keeps _ es bottom s
