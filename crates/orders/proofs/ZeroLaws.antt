-- Words are all 0 exactly when their bits put together are 0. A number or another is 0 only if both are. Assumes nothing.
use mathlib.Core.Path.{◌≡◌, sym, ap, ◌∙◌}
use mathlib.Core.List.{List}
use Prim.Native.Nat.{ℕ, ◌+◌, ◌<◌}
use native.Mathlib.Decide.{ℕ_discrete}
use native.Mathlib.Numerals.{add-one}
use native.Mathlib.Omega.{arith}
use lib.Bits.{bit_or, or_zero_l, or_add_and, and_le_r}
use lib.Dec.{eqb}
use lib.ListN.{length, get_or, take}
use Rattle.job.specs.Test.{◌and◌, for_all}
use Rattle.job.proofs.Test.{ne_eqb}
use Rattle.job.proofs.Loop.{all_more}

or-none : (a b : ℕ) → eqb (bit_or a b) 0 ≡ (eqb a 0 and eqb 0 b)
unfolding ◌and◌
or-none a b = go (ℕ_discrete a 0) (ℕ_discrete b 0)
  where
    go : Dec (a ≡ 0) → Dec (b ≡ 0) → eqb (bit_or a b) 0 ≡ (eqb a 0 and eqb 0 b)
    go (yes e) (yes f) = rw (e, f)
    go (yes e) (no f) = rw (e, or_zero_l) (ne_eqb b 0 f ∙ sym (ne_eqb 0 b (λ z. f (sym z))))
    go (no e) g = rw (ne_eqb a 0 e) (ne_eqb (bit_or a b) 0 (λ z. e (omega (arith, or_add_and a b, and_le_r a b))))

-- one word more
pub zero-more : (words : List ℕ) (i bits : ℕ) → i < length words → eqb bits 0 ≡ for_all (eqb 0) (take i words)
    → eqb (bit_or bits (get_or words i 0)) 0 ≡ for_all (eqb 0) (take (i + 1) words)
zero-more words i bits l e =
    or-none bits (get_or words i 0)
    ∙ ap (λ b. b and eqb 0 (get_or words i 0)) e
    ∙ sym (rw add-one (all_more (eqb 0) words i 0 l))
