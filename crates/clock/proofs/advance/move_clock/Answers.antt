-- All wake, then the clock shows the new time: so the definition has it. Assumes nothing.
use Rattle.model.specs.Machine.Clock.{after_advance}
use Rattle.clock.proofs.WakeOneByOne.{clock-facts}
use Rattle.clock.proofs.advance.move_clock.Goals as goal

pub returns : goal.returns
unfolding after_advance
returns c = λ d m h k. c.set_clock.ensures _ (c.wake_due.ensures m h (clock-facts d m k h))
