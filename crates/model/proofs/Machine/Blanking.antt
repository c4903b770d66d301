-- Blanking keeps what is marked and makes the rest blank, place by place, by induction over the table. Assumes nothing.
use mathlib.Core.Path.{◌≡◌, refl, sym, ap, ap₂}
use mathlib.Core.Logic.{◌⊎◌, inl, inr}
use mathlib.Core.Bool.{Bool, true, false}
use mathlib.Core.List.{List, [], ◌∷◌}
use Prim.Native.Nat.{ℕ, zero, suc}
use native.Mathlib.Omega.{arith}
use lib.ListN.{length, get_or}
use Rattle.model.specs.Machine.InUse.{rest_blanked}
use Rattle.job.proofs.Test.{clash}
use Rattle.model.proofs.Machine.Marks.{Marked, Free}
use Rattle.model.specs.Machine.State.{is_blank_state}
use Rattle.model.specs.declared.token.State.{State}
use Rattle.model.specs.declared.token.State.TheVariants as states
use Rattle.job.proofs.Test.{clash}

module _ {A : Type 0} (blank : A) where
  pub length-kept : (marks : List Bool) (xs : List A) → length (rest_blanked blank marks xs) ≡ length xs
  unfolding rest_blanked
  length-kept marks [] = refl
  length-kept [] (x ∷ xs) = ap suc (length-kept [] xs)
  length-kept (true ∷ marks) (x ∷ xs) = ap suc (length-kept marks xs)
  length-kept (false ∷ marks) (x ∷ xs) = ap suc (length-kept marks xs)

  pub kept-marked :
      (marks : List Bool) (xs : List A) (i : ℕ)
      → length marks ≡ length xs
      → Marked marks i
      → get_or (rest_blanked blank marks xs) i blank ≡ get_or xs i blank
  unfolding rest_blanked
  kept-marked marks [] i l m = refl
  kept-marked [] (x ∷ xs) i l m = absurd (omega arith)
  kept-marked (true ∷ marks) (x ∷ xs) zero l m = refl
  kept-marked (true ∷ marks) (x ∷ xs) (suc i) l m = kept-marked marks xs i (omega arith) m
  kept-marked (false ∷ marks) (x ∷ xs) zero l m = clash m refl
  kept-marked (false ∷ marks) (x ∷ xs) (suc i) l m = kept-marked marks xs i (omega arith) m

  pub kept_free : (marks : List Bool) (xs : List A) (i : ℕ) → Free marks i → get_or (rest_blanked blank marks xs) i blank ≡ blank
  unfolding rest_blanked
  kept_free marks [] i e = refl
  kept_free [] (x ∷ xs) i e = clash refl e
  kept_free (true ∷ marks) (x ∷ xs) zero e = clash refl e
  kept_free (true ∷ marks) (x ∷ xs) (suc i) e = kept_free marks xs i e
  kept_free (false ∷ marks) (x ∷ xs) zero e = refl
  kept_free (false ∷ marks) (x ∷ xs) (suc i) e = kept_free marks xs i e

  -- what stands at a place afterwards stood there before, or is blank
  pub kept-cases :
      (marks : List Bool) (xs : List A) (i : ℕ)
      → (get_or (rest_blanked blank marks xs) i blank ≡ get_or xs i blank) ⊎ (get_or (rest_blanked blank marks xs) i blank ≡ blank)
  unfolding rest_blanked
  kept-cases marks [] i = inr refl
  kept-cases [] (x ∷ xs) zero = inr refl
  kept-cases [] (x ∷ xs) (suc i) = kept-cases [] xs i
  kept-cases (true ∷ marks) (x ∷ xs) zero = inl refl
  kept-cases (true ∷ marks) (x ∷ xs) (suc i) = kept-cases marks xs i
  kept-cases (false ∷ marks) (x ∷ xs) zero = inr refl
  kept-cases (false ∷ marks) (x ∷ xs) (suc i) = kept-cases marks xs i

  -- where all that is not marked is blank, nothing changes
  pub kept_whole :
      (marks : List Bool) (xs : List A)
      → length marks ≡ length xs
      → ((i : ℕ) → Free marks i → get_or xs i blank ≡ blank)
      → rest_blanked blank marks xs ≡ xs
  unfolding rest_blanked
  kept_whole marks [] l h = refl
  kept_whole [] (x ∷ xs) l h = absurd (omega arith)
  kept_whole (true ∷ marks) (x ∷ xs) l h = ap (λ ys. x ∷ ys) (kept_whole marks xs (omega arith) (λ i e. h (suc i) e))
  kept_whole (false ∷ marks) (x ∷ xs) l h =
      ap₂ (λ y ys. y ∷ ys) (sym (h 0 refl)) (kept_whole marks xs (omega arith) (λ i e. h (suc i) e))

pub state-blank : (s : State) → is_blank_state s ≡ true → s ≡ states.Blank
unfolding is_blank_state
state-blank states.Blank e = refl
state-blank states.Ready e = clash e refl
state-blank (states.Waiting c) e = clash e refl
state-blank (states.Called h) e = clash e refl
state-blank (states.Due d) e = clash e refl
state-blank states.Frame e = clash e refl
