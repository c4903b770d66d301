-- An answer to an outside call. Assumes nothing: these are definitions.
use Rattle.std.specs.Prelude.{true, false, List, [], ◌∷◌, ℕ, suc, eqb, ℤ, Some, None}
use Rattle.job.specs.Test.{for_some}
use Rattle.job.specs.Node.{Dag}
use Rattle.model.specs.Machine.Limits.{Limits}
use Rattle.model.specs.Machine.Blank.{token_at}
use Rattle.model.specs.Machine.Rules.{rules_hold}
use Rattle.model.specs.Machine.State.{handle_of}
use Rattle.model.specs.Machine.Reply.{Effect, moves, refuses, unless, outcome}
use Rattle.model.specs.Machine.Update.{with_value, with_state, put, enqueue}
use Rattle.model.specs.Machine.Held.{Place}
use Rattle.model.specs.declared.token.State.TheVariants as states
use Rattle.model.specs.declared.token.Token.{Token}
use Rattle.model.specs.declared.record.Machine.{Machine}
use Rattle.model.specs.declared.reply.Outcome.{Outcome}

-- the place of the token called out under a handle; places are counted from i
unfoldable pub holder : (handle i : ℕ) → List Token → Place
holder h i [] = None
holder h i (t ∷ ts) = elim (for_some (eqb h) (handle_of t.state)) [ true ↦ Some i | false ↦ holder h (suc i) ts ]

-- "An answer gives its token the value and makes it ready"; "12: answer to a handle that is not open"
unfoldable pub answered : Machine → ℤ → Place → Effect
answered m v None = refuses 12
answered m v (Some p) =
    moves (enqueue p (put p (with_state states.Ready (with_value (Some v) (token_at m.tokens p))) m))

-- "An answer tests 14, 12"
unfoldable pub answer : Limits → Dag → Machine → (handle : ℕ) → (value : ℤ) → Outcome
answer lim d m h v = outcome m (unless (rules_hold lim d m) 14 (answered m v (holder h 0 m.tokens)))
