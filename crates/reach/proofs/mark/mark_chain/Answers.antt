-- `mark::mark_chain` meets its contract. The loop's invariant: the chain goes on at `q`, for the links that are left. Assumes nothing.
use mathlib.Core.Path.{◌∙◌}
use Prim.Native.Nat.{◌-◌}
use borrow.Author.Rules.{rules}
use Rattle.model.specs.Machine.Held.{Place}
use Rattle.reach.proofs.MarkChain.{chain-ends, chain-outside, chain-met, chain-on, chain-over}
use Rattle.reach.proofs.mark.mark_chain.Goals as goal

pub returns-then-q-eq0 : goal.returns-then-q-eq0
returns-then-q-eq0 g c = λ links end f.
    let l = c.loop in
    chain-ends (λ (q : Place). q) end links _ l.counter l.q l.marks _ l.auto.marks (l.invariant links end f) (search rules)

pub returns-then-marks-p : goal.returns-then-marks-p
returns-then-marks-p g c = λ links end f.
    let l = c.loop in
    chain-outside (λ (q : Place). q) end links _ l.counter l.q l.marks _ l.auto.marks (l.invariant links end f) (search rules)
    (search rules)

pub returns-then-marks-p-2 : goal.returns-then-marks-p-2
returns-then-marks-p-2 g c = λ links end f.
    let l = c.loop in
    chain-met (λ (q : Place). q) end links _ l.counter l.q l.marks _ l.auto.marks (l.invariant links end f) (search rules) (search rules)
    (search rules)

pub loop-preserved : goal.loop-preserved
loop-preserved g c = λ links end f.
    let l = c.loop in
    chain-on (λ (q : Place). q) end links _ l.counter l.q l.marks _ l.auto.marks (l.invariant links end f) _ (search rules) (search rules)
    (search rules) (search rules)
    (c.wide-q.ensures ∙ f (l.q - 1) _ (search rules) (search rules))

pub returns : goal.returns
returns g c = λ links end f.
    let l = c.loop in
    chain-over (λ (q : Place). q) end links _ l.counter l.q l.marks _ l.auto.marks (l.invariant links end f) (search rules)
