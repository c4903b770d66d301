-- Which lists are allowed. Assumes nothing: these are definitions.
use Rattle.std.specs.Prelude.{List, [], ◌∷◌, ℕ, zero, suc, ◌≤◌}
use Rattle.job.specs.Site.{last_time}
use Rattle.calculus.specs.Expression.{Exp}
use Rattle.calculus.specs.Event.{Event, publish, call, answer, move, Label, silently, showing}
use Rattle.calculus.specs.Rewriting.{Rewrites}

-- a goal with definitions
pub record Goal : Type 0 where
  pub body : ℕ → Exp
  pub goal : Exp

-- where the rewritings stand: an expression, the next handle, and the time
pub record Configuration : Type 0 where
  pub exp : Exp
  pub handle : ℕ
  pub clock : ℕ

-- "handles count calls from 0"
unfoldable pub next_handle : Label → ℕ → ℕ
next_handle silently h = h
next_handle (showing (publish v)) h = h
next_handle (showing (call k s vs)) h = suc h
next_handle (showing (answer k v)) h = h
-- (no rewriting has this label)
next_handle (showing (move t)) h = h

-- the list with what a label shows in front
unfoldable pub shown : Label → List Event → List Event
shown silently es = es
shown (showing e) es = e ∷ es

-- "finitely many of these rewritings, one after another"; "they may end anywhere"
pub data CanShow (body : ℕ → Exp) : Configuration → List Event → Type 0 where
  ends : {c : Configuration} → CanShow body c []
  then : {c : Configuration} {a : Label} {f : Exp} {es : List Event}
      → Rewrites body c.handle c.clock c.exp a f
      → CanShow body (record { exp = f; handle = next_handle a c.handle; clock = c.clock }) es
      → CanShow body c (shown a es)
  -- document 02, request 1: "The calculus has a clock of its own from 0, which takes moves to times 0 to 2147483647 and none back."
  moves : {c : Configuration} {t : ℕ} {es : List Event}
      → c.clock ≤ t → t ≤ last_time
      → CanShow body (record { exp = c.exp; handle = c.handle; clock = t }) es
      → CanShow body c (move t ∷ es)

-- document 01: allowed. "A list is allowed exactly when finitely many of these rewritings .. from the table's goal, show it"
abbrev pub Allowed : Goal → List Event → Type 0
Allowed g es = CanShow g.body (record { exp = g.goal; handle = zero; clock = zero }) es
