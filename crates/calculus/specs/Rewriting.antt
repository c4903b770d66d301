-- The rewritings, each under its sentence. Assumes nothing: these are definitions.
use Rattle.std.specs.Prelude.{◌≡◌, true, List, [], ◌∷◌, ℕ, ◌≤◌, ℤ, pos}
use Rattle.std.proofs.Math.Option.{Option, some, none}
use Rattle.job.specs.Number.{Signed32}
use Rattle.job.specs.Site.{gives, silent, later, due_time, is_builtin, is_outside, builtin}
use Rattle.calculus.specs.Event.{Event, Label, silently, showing}
use Rattle.calculus.specs.Expression.{Param, value, variable, Exp, stop, site, call, par, seq, prune, pending, due, hand}
use Rattle.calculus.specs.Expression.{substitute, innermost}
use Rattle.calculus.specs.Expression.{formals}

-- every label of a rewriting but publishing. (A move of the clock is no rewriting.)
pub data NotPublishing : Label → Type 0 where
  silence : NotPublishing silently
  calling : {h s : ℕ} {vs : List ℤ} → NotPublishing (showing (Event.call h s vs))
  answering : {h : ℕ} {v : ℤ} → NotPublishing (showing (Event.answer h v))

-- all parameters' values, where they have them
unfoldable pub param_values : List Param → Option (List ℤ)
param_values [] = some []
param_values (value v ∷ ps) = elim (param_values ps) [ none ↦ none | some vs ↦ some (v ∷ vs) ]
param_values (variable i ∷ ps) = none

-- f becomes f' with this label; `body` has the definitions, h is the next handle, and `now` the time
module _ (body : ℕ → Exp) (h now : ℕ) where
  pub data Rewrites : Exp → Label → Exp → Type 0 where
    -- "A built-in call with all values silently becomes its value in hand, .."
    builtin-gives : {s : ℕ} {ps : List Param} {vs : List ℤ} {v : ℤ}
        → param_values ps ≡ some vs → is_builtin s ≡ true → builtin s vs ≡ gives v → Rewrites (site s ps) silently (hand v)
    -- ".. or stop where it is silent."
    builtin-silent : {s : ℕ} {ps : List Param} {vs : List ℤ}
        → param_values ps ≡ some vs → is_builtin s ≡ true → builtin s vs ≡ silent → Rewrites (site s ps) silently stop
    -- document 02, request 1: "It silently fixes rwait's due time at the call, .."
    builtin-later : {s d : ℕ} {ps : List Param} {vs : List ℤ} {t : ℤ}
        → param_values ps ≡ some vs → is_builtin s ≡ true → builtin s vs ≡ later t → due_time now t ≡ some d
        → Rewrites (site s ps) silently (due d)
    -- ".. answers it with 0 once that clock has reached it, .."
    fell-due : {d : ℕ} → d ≤ now → Rewrites (due d) silently (hand (pos 0))
    -- ".. and makes it stop where it is silent or never falls due."
    builtin-never : {s : ℕ} {ps : List Param} {vs : List ℤ} {t : ℤ}
        → param_values ps ≡ some vs → is_builtin s ≡ true → builtin s vs ≡ later t → due_time now t ≡ none
        → Rewrites (site s ps) silently stop
    -- "An outside call with all values becomes an open call; .."
    outside-call : {s : ℕ} {ps : List Param} {vs : List ℤ}
        → param_values ps ≡ some vs → is_outside s ≡ true → Rewrites (site s ps) (showing (Event.call h s vs)) (pending h)
    -- ".. its answer makes a value in hand; .." (docs/DECISIONS.md, "Values and answers")
    answered : {k : ℕ} {v : ℤ} → Signed32 v → Rewrites (pending k) (showing (Event.answer k v)) (hand v)
    -- ".. that publishes once and becomes stop."
    published : {v : ℤ} → Rewrites (hand v) (showing (Event.publish v)) stop
    -- "E(P) silently becomes its body with P for the formals, no name caught."
    entered : {d : ℕ} {ps : List Param} → Rewrites (call d ps) silently (substitute (formals ps) (body d))
    -- "f | g acts as either side."
    par-left : {f f' g : Exp} {a : Label} → Rewrites f a f' → Rewrites (par f g) a (par f' g)
    par-right : {f g g' : Exp} {a : Label} → Rewrites g a g' → Rewrites (par f g) a (par f g')
    -- "f >x> g acts as f, but where f publishes v it silently becomes (f' >x> g) | g with v for x."
    seq-acts : {f f' g : Exp} {a : Label} → Rewrites f a f' → NotPublishing a → Rewrites (seq f g) a (seq f' g)
    seq-publishes : {f f' g : Exp} {v : ℤ}
        → Rewrites f (showing (Event.publish v)) f' → Rewrites (seq f g) silently (par (seq f' g) (substitute (innermost v) g))
    -- "f <x< g acts as f or as g, but where g publishes v it silently becomes f with v for x."
    prune-left : {f f' g : Exp} {a : Label} → Rewrites f a f' → Rewrites (prune f g) a (prune f' g)
    prune-right : {f g g' : Exp} {a : Label} → Rewrites g a g' → NotPublishing a → Rewrites (prune f g) a (prune f g')
    prune-publishes : {f g g' : Exp} {v : ℤ}
        → Rewrites g (showing (Event.publish v)) g' → Rewrites (prune f g) silently (substitute (innermost v) f)
