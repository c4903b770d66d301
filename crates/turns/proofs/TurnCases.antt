-- A turn by whether the queue is empty. The definition makes the same tests, in the same order. Assumes nothing.
use mathlib.Core.Path.{◌≡◌, refl, sym, ◌∙◌}
use mathlib.Core.Logic.{◌⊎◌, inl, inr}
use mathlib.Core.Bool.{Bool, true, false}
use mathlib.Core.List.{List}
use Prim.Native.Nat.{ℕ, zero, suc, ◌+◌, ◌<◌, ◌≤◌}
use native.Mathlib.Numerals.{add-one}
use native.Mathlib.Omega.{arith}
use lib.ListN.{take, drop}
use lib.Dec.{eqb, ltb}
use Rattle.job.specs.Number.{number}
use Rattle.job.specs.Node.{Dag}
use Rattle.model.specs.Machine.Limits.{paper}
use Rattle.model.specs.Machine.Reply.{is_refused}
use Rattle.model.specs.Machine.Step as Step
use Rattle.model.specs.Output.Orcrun.{delivered}
use Rattle.model.specs.declared.record.Machine.{Machine}
use Rattle.model.specs.declared.reply.Reply.{Reply}
use Rattle.model.specs.declared.reply.Outcome.{Outcome}
use Rattle.job.proofs.Test.{clash, eq-eqb, ne_eqb, eqb-eq, eqb-ne, ltb-lt, not-ltb-le}
use Rattle.turns.specs.Turn.{is_last, is_limit, is_over, turn_outcome, next_at, next_steps}

module _ (queued : ℕ) where
  module _ (e : queued ≡ 0) where
    pub last_empty : (left : ℕ) (b : Bool) → b ≡ ltb left 8 → b ≡ is_last queued left
    unfolding is_last
    last_empty left b q = q ∙ rw (eq-eqb queued 0 e, is_last) refl

    pub limit-empty : (steps : ℕ) → false ≡ is_limit queued steps
    unfolding is_limit
    limit-empty steps = rw (eq-eqb queued 0 e, is_limit) refl

    pub over-empty : (r : Reply) → false ≡ is_over queued r
    unfolding is_over
    over-empty r = rw (eq-eqb queued 0 e, is_over) refl

    pub at-empty : (at : ℕ) → at + 8 ≡ next_at queued at
    unfolding next_at
    at-empty at = rw (eq-eqb queued 0 e, next_at) refl

    pub steps-empty : (steps : ℕ) → steps ≡ next_steps queued steps
    unfolding next_steps
    steps-empty steps = rw (eq-eqb queued 0 e, next_steps) refl

  module _ (e : queued ≡ 0 → ⊥) where
    pub last-ready : (left : ℕ) → false ≡ is_last queued left
    unfolding is_last
    last-ready left = rw (ne_eqb queued 0 e, is_last) refl

    pub limit-ready : (steps : ℕ) (b : Bool) → b ≡ eqb steps 100000 → b ≡ is_limit queued steps
    unfolding is_limit
    limit-ready steps b q = q ∙ rw (ne_eqb queued 0 e, is_limit) refl

    pub over-ready : (r : Reply) (b : Bool) → b ≡ is_refused r → b ≡ is_over queued r
    unfolding is_over
    over-ready r b q = q ∙ rw (ne_eqb queued 0 e, is_over) refl

    pub at_ready : (at : ℕ) → at ≡ next_at queued at
    unfolding next_at
    at_ready at = rw (ne_eqb queued 0 e, next_at) refl

    pub steps-ready : (steps : ℕ) → steps + 1 ≡ next_steps queued steps
    unfolding next_steps
    steps-ready steps = rw (ne_eqb queued 0 e, next_steps) (add-one steps)

module _ (d : Dag) (m : Machine) (rest : List ℕ) (at : ℕ) (o : Outcome) where
  pub turn-empty : m.queued ≡ 0
      → o ≡ delivered paper d m (number (take 4 (drop at rest))) (number (take 4 (drop (at + 4) rest)))
      → o ≡ turn_outcome d m rest at
  unfolding turn_outcome
  turn-empty e q = q ∙ rw (eq-eqb m.queued 0 e, turn_outcome) refl

  pub turn-ready : (m.queued ≡ 0 → ⊥) → o ≡ Step.step paper d m 0 → o ≡ turn_outcome d m rest at
  unfolding turn_outcome
  turn-ready e q = q ∙ rw (ne_eqb m.queued 0 e, turn_outcome) refl

-- and back: what the tests say
pub empty-or-ready : (queued : ℕ) → (queued ≡ 0) ⊎ (queued ≡ 0 → ⊥)
empty-or-ready zero = inl refl
empty-or-ready (suc n) = inr (λ e. absurd (omega arith))

module _ (queued : ℕ) where
  pub last-is : (left : ℕ) → is_last queued left ≡ true → (queued ≡ 0) × (left < 8)
  last-is left t = go (empty-or-ready queued)
    where
      go : (queued ≡ 0) ⊎ (queued ≡ 0 → ⊥) → (queued ≡ 0) × (left < 8)
      go (inl e) = (e, ltb-lt left 8 (last_empty queued e left _ refl ∙ t))
      go (inr f) = clash t (sym (last-ready queued f left))

  pub not_last : (left : ℕ) → is_last queued left ≡ false → queued ≡ 0 → 8 ≤ left
  not_last left t e = not-ltb-le left 8 (last_empty queued e left _ refl ∙ t)

  pub limit_is : (steps : ℕ) → is_limit queued steps ≡ true → (queued ≡ 0 → ⊥) × (steps ≡ 100000)
  limit_is steps t = go (empty-or-ready queued)
    where
      go : (queued ≡ 0) ⊎ (queued ≡ 0 → ⊥) → (queued ≡ 0 → ⊥) × (steps ≡ 100000)
      go (inl e) = clash t (sym (limit-empty queued e steps))
      go (inr f) = (f, eqb-eq steps 100000 (limit-ready queued f steps _ refl ∙ t))

  pub not-limit : (steps : ℕ) → is_limit queued steps ≡ false → (queued ≡ 0 → ⊥) → steps ≡ 100000 → ⊥
  not-limit steps t f = eqb-ne steps 100000 (limit-ready queued f steps _ refl ∙ t)

  pub over-is : (r : Reply) → is_over queued r ≡ true → (queued ≡ 0 → ⊥) × (is_refused r ≡ true)
  over-is r t = go (empty-or-ready queued)
    where
      go : (queued ≡ 0) ⊎ (queued ≡ 0 → ⊥) → (queued ≡ 0 → ⊥) × (is_refused r ≡ true)
      go (inl e) = clash t (sym (over-empty queued e r))
      go (inr f) = (f, over-ready queued f r _ refl ∙ t)

  pub not-over : (r : Reply) → is_over queued r ≡ false → (queued ≡ 0 → ⊥) → is_refused r ≡ false
  not-over r t f = over-ready queued f r _ refl ∙ t
