-- `step::step` meets its contract: each way out is how the definition's call ends there. Assumes nothing.
use mathlib.Core.Path.{refl}
use Rattle.machine.proofs.PublicCalls.{step-rule, step_gives, step-no-token}
use native.Mathlib.Omega.{arith}
use Rattle.acts.proofs.SharedFrames.{all-shared}
use Rattle.machine.proofs.step.step.Goals as goal

pub returns-in_default : goal.returns-in_default
returns-in_default c = step-rule _ _ _ _ _ c.in_default.ensures.value refl c.plain.ensures

pub returns-then-count-place : goal.returns-then-count-place
returns-then-count-place c = let a = c.in-Some.ensures.lawful in
    step-no-token _ _ a _ _ (let e = c.count.ensures _ a.holds.codes in omega arith) c.plain-then-count-place.ensures

pub step-requires : goal.step-requires
step-requires c = let a = c.in-Some.ensures.lawful in
    record {
      machine = _;
      is =
          record {
            lawful = a;
            queued = (let e = c.count.ensures _ a.holds.codes in omega arith);
          };
    }

pub returns : goal.returns
returns c = let a = c.in-Some.ensures.lawful in
    step_gives _ _ a _ _
    (c.step.ensures _
    (record {
      lawful = a;
      queued = (let e = c.count.ensures _ a.holds.codes in omega arith);
    })
    (all-shared a)).gives
