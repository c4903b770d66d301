-- `callees::return_marked` meets its contract: a frame that is not marked has no other callee. Assumes nothing.
use mathlib.Core.Path.{refl, sym, ◌∙◌}
use borrow.Author.Rules.{rules}
use native.Mathlib.Omega.{arith}
use Rattle.job.proofs.Test.{clash}
use Rattle.acts.proofs.EndRebind.{return-caller}
use Rattle.acts.proofs.Outcomes.{token-inside}
use Rattle.returns.proofs.ReturnCallees.{alone_of}
use Rattle.unchecked.proofs.CalleeMarks.{return-leaves, return-marked, return-unmarked}
use Rattle.unchecked.proofs.callees.return_marked.Goals as goal

pub caller-requires : goal.caller-requires
caller-requires c = token-inside (c.requires.is.taking)

pub overflow_sub-f : goal.overflow_sub-f
overflow_sub-f c = let k = return-caller _ _ _ (c.requires.is)
    (c.caller.ensures _ (c.requires.is.taking.lawful.holds.codes)) in
    omega (arith, k.0)

pub is_shared-requires : goal.is_shared-requires
is_shared-requires c = let k = return-caller _ _ _ (c.requires.is)
    (c.caller.ensures _
    (c.requires.is.taking.lawful.holds.codes)) in (k.1, search rules)

pub share_caller-requires : goal.share_caller-requires
share_caller-requires c = let k = return-caller _ _ _ (c.requires.is)
    (c.caller.ensures _
    (c.requires.is.taking.lawful.holds.codes)) in
    (k.1, search rules)

pub returns-then-is_shared : goal.returns-then-is_shared
returns-then-is_shared c = λ m a one.
    let k = return-caller _ _ m a
    (c.caller.ensures m
    a.taking.lawful.holds.codes) in
    return-leaves
    (c.args.shared.now) _ a one (c.return_value.ensures m a (λ e. clash refl e)) _ k.1 k.2
    (c.share_caller.ensures m a.taking.lawful.holds.codes
    ∙ return-marked m _
    (c.args.shared.now) (sym c.is_shared.ensures
    ∙ c.if-is_shared.true))

pub returns : goal.returns
returns c = λ m a one.
    let k = return-caller _ _ m a
    (c.caller.ensures m
    a.taking.lawful.holds.codes) in
    let free = sym c.is_shared.ensures ∙ c.if-is_shared.false in
    return-leaves (c.args.shared.now) _ a one
    (c.return_value-2.ensures m a
    (λ e. alone_of a _ k.1 k.2
    (c.args.shared.now) one free))
    _ k.1 k.2
    (return-unmarked m _ (c.args.shared.now)
    free)
