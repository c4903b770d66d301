-- A number that is no place names no frame.
use mathlib.Core.Logic.{inl, inr}
use Rattle.std.proofs.Common.{◌∙◌, arith}
use Rattle.job.proofs.Test.{lt-not-leb, le-not-ltb}
use Rattle.row_rules.proofs.NodeLaws.{no-caller, caller-past, caller-read}
use Rattle.row_rules.proofs.node.names_frame.Goals.{then-above-gt0, else-above-gt0}
use Rattle.row_rules.proofs.node.names_frame.Goals as goal

pub returns-then-above-le-TOKENS : goal.returns-then-above-le-TOKENS
returns-then-above-le-TOKENS c = λ m h.
    caller-read m.tokens h.shaped.tokens _ (c.wide-above.ensures ∙ c.caller.ensures m h)
    (λ z. let some = c.if-above-le-TOKENS.true.0 in absurd (omega arith)) (c.state.ensures m h)

pub returns-else-above-le-TOKENS : goal.returns-else-above-le-TOKENS
returns-else-above-le-TOKENS c = λ m h.
    let e = c.wide-above.ensures ∙ c.caller.ensures m h in
    elim c.if-above-le-TOKENS.either [
      | inl q ↦
          elim c.if-above-gt0.branch [
            | then-above-gt0 w ↦
                let f = lt-not-leb c.wide-above.result 64 q.1 in
                let g = caller-past m.tokens h.shaped.tokens _ e q.1 in cc
            | else-above-gt0 w ↦ let some = q.0 in let none = w.if-above-gt0.false in absurd (omega arith)
          ]
      | inr q ↦
          elim c.if-above-gt0.branch [
            | then-above-gt0 w ↦ let some = w.if-above-gt0.true in absurd (omega arith)
            | else-above-gt0 w ↦
                let f = le-not-ltb 0 c.wide-above.result q in
                let g = no-caller m.tokens h.shaped.tokens _ e (omega arith) in cc
          ]
    ]
