-- How many tokens and cells a goal needs at most where its definitions loop in tail position: numbers read off the table. Assumes nothing:
-- these are definitions.
use Rattle.std.specs.Prelude.{ℕ, suc, ◌+◌, max}
use Rattle.job.specs.Syntax.{par, seq, prune, Exp, stop, site, call, join, Program}

-- what a token needs that enters an expression; `next` is what one needs that has passed it, `frames` how many callers a token may have
module _ (frames : ℕ) where
  unfoldable pub tokens_toward : Exp → (next : ℕ) → ℕ
  tokens_toward stop next = 1
  tokens_toward (site s ps) next = next
  tokens_toward (call d ps) next = max (suc frames) next
  tokens_toward (join par f g) next = tokens_toward f next + tokens_toward g next
  tokens_toward (join (seq x) f g) next = tokens_toward f (tokens_toward g next)
  tokens_toward (join (prune x) f g) next = tokens_toward f next + tokens_toward g 1

unfoldable pub cells_toward : Exp → (next : ℕ) → ℕ
cells_toward stop next = 0
cells_toward (site s ps) next = next
cells_toward (call d ps) next = next
cells_toward (join par f g) next = cells_toward f next + cells_toward g next
cells_toward (join (seq x) f g) next = cells_toward f (cells_toward g next)
cells_toward (join (prune x) f g) next = suc (cells_toward f next + cells_toward g 0)

-- of a program whose ranks end at `top`: a token that publishes needs its own place and nothing more
unfoldable pub tokens_needed : (top : ℕ) → Program → ℕ
tokens_needed top p = tokens_toward (suc top) p.goal 1

unfoldable pub cells_needed : Program → ℕ
cells_needed p = cells_toward p.goal 0
