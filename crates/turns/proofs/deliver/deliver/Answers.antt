-- `deliver::deliver` meets its contract: the numbers handed on are those of the record, and its handle says which call it is. Assumes
-- nothing.
use mathlib.Core.Path.{◌∙◌}
use borrow.Author.Rules.{rules}
use mir.Facts.{to_z-of_z}
use mir.Val.{SFits}
use mir.Syntax.{w32}
use Rattle.turns.proofs.TurnGives.{delivers-as, delivers-time, delivers-answer, time-delivery, answer-delivery}
use Rattle.turns.proofs.deliver.deliver.Goals as goal

pub returns-then-handle : goal.returns-then-handle
returns-then-handle c = record {
  gives = delivers-as c.word_at-handle.ensures c.word_at-value.ensures (delivers-time _ _ c.move_to.ensures.gives c.if-handle.true);
  delivery = time-delivery _ c.move_to.ensures.wrong_time;
}

pub returns : goal.returns
returns c = let fits : SFits w32 c.signed.result = search rules in record {
  gives = delivers-as c.word_at-handle.ensures c.word_at-value.ensures
      (delivers-answer _ _ c.resume.ensures.gives (to_z-of_z fits ∙ c.signed.ensures) c.if-handle.false);
  delivery = answer-delivery _ c.resume.ensures.not_open;
}
