-- `tokens::is_vacant` meets its contract: no order names the place, and its words are all 0. Assumes nothing.
use mathlib.Core.Bool.{◌&&◌}
use lib.Dec.{eqb}
use Rattle.job.proofs.Both.{both, three-are}
use Rattle.rules.proofs.RestBlank.{second-true}
use Rattle.rules.proofs.tokens.is_vacant.Goals as goal

pub returns : goal.returns
returns c = let args = c.args in (
  λ e. c.token_is_blank.ensures.0
      (second-true (eqb args.queue 0 && eqb args.waits 0 && eqb args.timers 0) c.token_is_blank.result e),
  λ m h. both (three-are (eqb args.queue 0) (eqb args.waits 0) (eqb args.timers 0)) (c.token_is_blank.ensures.1 m h),
)
