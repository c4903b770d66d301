-- A row's twelve words may be stored in fours, since one run of stores after another is the run of both. Assumes nothing.
use Prim.Native.Nat.{ℕ, ◌+◌}
use mathlib.Core.Path.{◌≡◌, sym, ap, ◌∙◌}
use mathlib.Core.List.{List, [], ◌∷◌, ◌++◌}
use lib.Seq.{sets}
use Rattle.job.proofs.Stores.{sets-append}

-- a row's twelve words, stored in fours
pub in-fours : (l d1 d2 d3 : List ℕ) (i a b c d e f g h p q r s : ℕ) → d1 ≡ sets l i (a ∷ b ∷ c ∷ d ∷ [])
    → d2 ≡ sets d1 (i + 4) (e ∷ f ∷ g ∷ h ∷ []) → d3 ≡ sets d2 (i + 8) (p ∷ q ∷ r ∷ s ∷ [])
    → d3 ≡ sets l i (a ∷ b ∷ c ∷ d ∷ e ∷ f ∷ g ∷ h ∷ p ∷ q ∷ r ∷ s ∷ [])
in-fours l d1 d2 d3 i a b c d e f g h p q r s e1 e2 e3 =
    let first : List ℕ = a ∷ b ∷ c ∷ d ∷ [] in
    let second : List ℕ = e ∷ f ∷ g ∷ h ∷ [] in
    let third : List ℕ = p ∷ q ∷ r ∷ s ∷ [] in
    let both : d2 ≡ sets l i (first ++ second) =
    e2 ∙ ap (λ (m : List ℕ). sets m (i + 4) second) e1 ∙ sym (sets-append l i first second) in
    e3 ∙ ap (λ (m : List ℕ). sets m (i + 8) third) both ∙ sym (sets-append l i (first ++ second) third)
