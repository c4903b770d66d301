-- A step that takes a token of the queue is refused with 10, 11, 13 or 14 if at all: by the tests of the instruction table. So where three
-- of these cannot be, it is 13. Assumes nothing.
use mathlib.Core.Path.{◌≡◌, refl}
use Prim.Native.Nat.{ℕ, ◌<◌}
use native.Mathlib.Omega.{arith}
use Rattle.job.specs.Node.{Dag}
use Rattle.model.specs.Machine.Limits.{Limits}
use Rattle.model.specs.Machine.Step as Step
use Rattle.model.specs.declared.record.Machine.{Machine}
use Rattle.model.specs.declared.reply.Refusal.{Refusal}
use Rattle.model.specs.declared.reply.Refusal.TheVariants as refusals
use Rattle.model.specs.declared.reply.Reply.TheVariants as replies
use Rattle.demand3.proofs.RefusesOnly.{StepTests, step-only}

data OfStep : Refusal → Type 0 where
  token_limit : OfStep refusals.TokenLimit
  cell_limit : OfStep refusals.CellLimit
  call_limit : OfStep refusals.CallLimit
  rule : OfStep refusals.Rule

module _ (lim : Limits) (d : Dag) (m : Machine) (place : ℕ) (queued : place < m.queued) where
  tests : StepTests OfStep lim d m place
  tests =
      record {
        rules = λ e. rule;
        queued = λ l. absurd (omega arith);
        takes =
            λ h l.
            record { token = λ full a. token_limit; cell = λ full a. cell_limit; call = λ full. call_limit; rule = λ x. rule };
      }

  -- a step that is refused, and not with 10, 11 or 14
  pub refused-with-13 : (r : Refusal) → (Step.step lim d m place).reply ≡ replies.Refused r
      → (r ≡ refusals.TokenLimit → ⊥) → (r ≡ refusals.CellLimit → ⊥) → (r ≡ refusals.Rule → ⊥) → r ≡ refusals.CallLimit
  refused-with-13 refusals.NoToken e a b c = absurd (step-only OfStep lim d m place refusals.NoToken tests (λ x. elim x [ ]) e)
  refused-with-13 refusals.TokenLimit e a b c = absurd (a refl)
  refused-with-13 refusals.CellLimit e a b c = absurd (b refl)
  refused-with-13 refusals.NotOpen e a b c = absurd (step-only OfStep lim d m place refusals.NotOpen tests (λ x. elim x [ ]) e)
  refused-with-13 refusals.CallLimit e a b c = refl
  refused-with-13 refusals.Rule e a b c = absurd (c refl)
  refused-with-13 refusals.WrongTime e a b c = absurd (step-only OfStep lim d m place refusals.WrongTime tests (λ x. elim x [ ]) e)
