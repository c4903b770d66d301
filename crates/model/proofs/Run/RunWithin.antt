-- Tokens and cells in use stay within the limits after any list of calls on the start, for any limits with a token. The start is within
-- them, a refused call changes nothing, and an accepted one was tested. Assumes nothing.
use mathlib.Core.Path.{◌≡◌}
use mathlib.Core.Bool.{false}
use mathlib.Core.List.{List}
use Prim.Native.Nat.{◌≤◌}
use Rattle.job.specs.Node.{Dag}
use Rattle.model.specs.Machine.Limits.{Limits}
use Rattle.model.specs.Machine.InUse.{Within}
use Rattle.model.specs.Machine.Reply.{is_refused}
use Rattle.model.specs.Run.Call.{Call, step, answer, advance, runner, outcome_of, machine_after, started}
use Rattle.model.specs.declared.record.Machine.{Machine}
use Rattle.model.proofs.Machine.Within.{step-within, answer-within, advance-within}
use Rattle.model.proofs.Machine.StartUsed.{start-within}
use Rattle.model.proofs.Run.Passage.{calls-keep}

module _ (lim : Limits) (d : Dag) where
  call-within : (m : Machine) (c : Call) → Within lim m → is_refused (outcome_of runner lim d m c).reply ≡ false
      → Within lim (outcome_of runner lim d m c).machine
  unfolding outcome_of
  call-within m (step place) old ok = step-within lim d m place old ok
  call-within m (answer h v signed) old ok = answer-within lim d m h v old ok
  call-within m (advance time) old ok = advance-within lim d m time old ok

  pub run-within : 1 ≤ lim.tokens → (calls : List Call) → Within lim (machine_after runner lim d (started runner lim d) calls)
  run-within some calls =
      calls-keep lim d (Within lim) (λ m c ok w. call-within m c w ok) (started runner lim d) calls (start-within lim d some)
