-- `answer::resume` meets its contract: a handle that no call was given is not open, and any other is where a token holds it. Assumes
-- nothing.
use mathlib.Core.Path.{refl}
use Rattle.std.proofs.lemmas.Result.{IfErr-weaker}
use Rattle.unchecked.proofs.WholeCall.{answer-unknown, answer-gives}
use native.Mathlib.Omega.{arith}
use mir.Syntax.{w32}
use mir.Val.{SFits}
use mir.Facts.{to_z-of_z}
use borrow.Author.Rules.{rules}
use Rattle.unchecked.proofs.answer.resume.Goals as goal

pub returns-then-calls_made-handle : goal.returns-then-calls_made-handle
returns-then-calls_made-handle c = record {
  gives = λ m dag used a blank.
      let e = c.calls_made.ensures m a.holds.codes in
      let l = c.if-calls_made-handle.true in
      answer-unknown a c.args.handle c.args.value (omega arith);
  not_open = refl;
}

pub returns : goal.returns
returns c =
    let f : SFits w32 c.args.value = search rules in
    let k = rw (to_z-of_z f) at c.answer.ensures in
    record {
      gives = λ m dag used a blank. answer-gives a _ _ _ _ k blank;
      not_open = IfErr-weaker c.answer.result _ _ (λ e both. both.0) k.stays;
    }
