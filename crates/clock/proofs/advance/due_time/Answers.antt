-- The token that is named is due, so the number of its state is its due time. Assumes nothing.
use mathlib.Core.Path.{◌∙◌}
use native.Mathlib.Omega.{arith}
use Rattle.clock.proofs.WakeOneByOne.{name-inside, due-read}
use Rattle.clock.proofs.advance.due_time.Goals as goal

pub returns-then-p-lt-TOKENS : goal.returns-then-p-lt-TOKENS
returns-then-p-lt-TOKENS c = λ m h f l.
    due-read m h f c.args.i l c.wide-p.result c.state_number.result
    (c.wide-p.ensures ∙ c.place_at.ensures m h.codes) (c.state_number.ensures m h.codes)

pub returns : goal.returns
returns c = λ m h f l.
    let small = name-inside m h f c.args.i l c.wide-p.result
    (c.wide-p.ensures ∙ c.place_at.ensures m h.codes) in
    absurd (omega arith)
