-- The tests of a table's length and of its two sizes hold exactly if length and sizes are as they should be. By the laws of the tests.
-- Assumes nothing.
use mathlib.Core.Path.{◌≡◌}
use mathlib.Core.Bool.{true}
use mathlib.Core.List.{List, []}
use Prim.Native.Nat.{ℕ}
use native.Mathlib.Omega.{arith}
use lib.ListN.{length}
use lib.Dec.{leb}
use Rattle.job.specs.Test.{◌and◌}
use Rattle.job.specs.Entry.{size_d, size_n, table_length}
use Rattle.job.specs.Declined.{LengthHolds, SizesHold, Declined, wrong-length, wrong-sizes}
use Rattle.job.specs.Read.{◌>>=◌, gives, need, read_sizes}
use Rattle.job.proofs.Test.{eqb-eq, eq-eqb, eqb-ne, leb-le, le-leb, not-leb-lt, and_left, and_right, and_both, clash}
use Rattle.job.proofs.Read.{Says, Yields, says-need, says-test, says_map}

module _ (b : List ℕ) where
  -- length and sizes are as they should be
  pub record LengthAndSizes : Type 0 where
    pub length-holds : LengthHolds b
    pub sizes-hold : SizesHold b

  sizes-test : SizesHold b → (leb (size_d b) 32 and leb 1 (size_n b) and leb (size_n b) 512) ≡ true
  sizes-test h =
      and_both (le-leb (size_d b) 32 h.definitions) (and_both (le-leb 1 (size_n b) h.some) (le-leb (size_n b) 512 h.entries))

  test-sizes : (leb (size_d b) 32 and leb 1 (size_n b) and leb (size_n b) 512) ≡ true → SizesHold b
  test-sizes s =
      let counts = and_right (leb (size_d b) 32) _ s in
      record {
        definitions = leb-le (size_d b) 32 (and_left _ _ s);
        some = leb-le 1 (size_n b) (and_left _ _ counts);
        entries = leb-le (size_n b) 512 (and_right (leb 1 (size_n b)) _ counts);
      }

  pub sizes-say : Says (λ _. LengthAndSizes) (Declined b) (read_sizes b)
  unfolding read_sizes
  sizes-say =
      says-need _ _ 0 _ (λ f. wrong-length (λ h. let z = not-leb-lt 4 (length b) f in let l = h.sizes in omega arith)) λ l.
      says-need _ _ 0 _ (λ f. wrong-length (λ h. eqb-ne (length b) (table_length b) f h.total)) λ t.
      let full : LengthHolds b = record { sizes = leb-le 4 (length b) l; total = eqb-eq (length b) (table_length b) t } in
      says-test _ _ 0 (λ f. wrong-sizes full (λ h. clash (sizes-test h) f)) (λ s. record { length-holds = full; sizes-hold = test-sizes s })

  pub sizes-found : Yields (λ _. LengthAndSizes) (read_sizes b)
  sizes-found = says_map (λ _ h. h) (λ _ _ _. tt) sizes-say

  pub sizes-pass : LengthAndSizes → read_sizes b ≡ gives tt 0 []
  unfolding read_sizes need ◌>>=◌
  sizes-pass h =
      rw (
        le-leb 4 (length b) h.length-holds.sizes,
        eq-eqb (length b) (table_length b) h.length-holds.total,
        sizes-test h.sizes-hold,
      )
