-- Tables whose definitions loop in tail position alone. Assumes nothing: these are definitions.
use Rattle.std.specs.Prelude.{Bool, true, false, List, [], ◌∷◌, ℕ, suc, ltb, leb}
use Rattle.job.specs.Test.{◌and◌}
use Rattle.job.specs.Syntax.{par, seq, prune, Exp, stop, site, call, join, Definition, Program}

-- Each definition has a rank. Where all ranks are 0, every definition call of a body stands in tail position
module _ (rank : ℕ → ℕ) where
  -- an expression of a body of rank r neither forks nor prunes; in tail position it calls definitions of rank r at most, elsewhere those of
  -- a lower rank
  unfoldable pub unbranching : (r : ℕ) → (tail : Bool) → Exp → Bool
  unbranching r tail stop = true
  unbranching r tail (site s ps) = true
  unbranching r true (call d ps) = leb (rank d) r
  unbranching r false (call d ps) = ltb (rank d) r
  unbranching r tail (join par f g) = false
  unbranching r tail (join (seq x) f g) = unbranching r false f and unbranching r tail g
  unbranching r tail (join (prune x) f g) = false

  -- the definitions, numbered from i; no rank is above `top`
  unfoldable pub bodies_loop : (top i : ℕ) → List Definition → Bool
  bodies_loop top i [] = true
  bodies_loop top i (d ∷ ds) = leb (rank i) top and unbranching (rank i) true d.body and bodies_loop top (suc i) ds

  -- of the goal nothing is asked
  unfoldable pub loops : (top : ℕ) → Program → Bool
  loops top p = bodies_loop top 0 p.definitions
