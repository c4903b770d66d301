-- `advance::move_to` meets its contract: the time is tested as the definition does, and then the clock moves. Assumes nothing.
use Rattle.unchecked.proofs.ClockCall.{advance-refused, advance-gives}
use mathlib.Core.Path.{refl}
use Rattle.unchecked.proofs.advance.move_to.Goals as goal

pub returns-then-not-takes_time : goal.returns-then-not-takes_time
returns-then-not-takes_time c = record {
  gives = λ m dag used a. advance-refused a _ (c.takes_time.ensures m a.holds.codes) c.if-not-takes_time.true;
  wrong_time = refl;
}

pub returns : goal.returns
returns c = record {
  gives = λ m dag used a.
      advance-gives a _ (c.takes_time.ensures m a.holds.codes) c.if-not-takes_time.false (c.move_clock.ensures _ m a.holds a.rules);
  wrong_time = tt;
}
