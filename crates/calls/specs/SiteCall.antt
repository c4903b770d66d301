-- A site call whose values are all there. Assumes nothing: these are definitions.
use Rattle.std.specs.Prelude.{◌≡◌, List, ℕ, ℤ}
use Rattle.model.specs.Machine.Blank.{token_at}
use Rattle.model.specs.Machine.Reply.{report_values}
use Rattle.model.specs.Machine.Step as Step
use Rattle.model.specs.Machine.Step.{look}
use Rattle.model.specs.declared.record.Machine.{Machine}
use Rattle.sites.specs.Row.{params_at}
use Rattle.acts.specs.Acting.{Acting}
use Rattle.reach.specs.declared.used.Marks.{Marks}
use Rattle.writes.specs.declared.actor.Actor.{Actor}

-- the token acts at a site call, and these are the values of its parameters, zeros behind them
pub record Evaluated (ws : List ℕ) (used : Marks) (dag : List ℕ) (actor : Actor) (vs : List ℤ) (m : Machine) : Type 0 where
  pub acting : Acting ws used dag actor 1 m
  pub values : List ℤ
  pub found : look m.cells (token_at m.tokens actor.token).binds (params_at dag actor.row) ≡ Step.values values
  pub padded : vs ≡ report_values values
