-- The words of a call's four places, stored by twos behind its first four words. Assumes nothing.
use Prim.Native.Nat.{ℕ, ◌+◌, ◌<◌, ◌≤◌}
use mathlib.Core.Path.{◌≡◌, ◌∙◌}
use mathlib.Core.List.{List, [], ◌∷◌}
use native.Mathlib.Numerals.{add-one}
use lib.ListN.{get_or}
use lib.Seq.{sets}
use Rattle.job.specs.Entry.{low, high, operand_at}
use Rattle.job.proofs.Test.{lt-ltb, le-not-ltb}
use Rattle.compiler.specs.CallNodeWords.{word_if, place_words, call_node_words}
use Rattle.compiler.proofs.StoreLaws.{in-fours}

module _ (ks os : List ℕ) (at : ℕ) where
  -- a place, with a parameter or without
  pub pair-there : (i n k o : ℕ) → i < n → k ≡ get_or ks (at + i) 0 → o ≡ operand_at os (at + i)
      → k ∷ o ∷ [] ≡ place_words 1 i n ks os at
  unfolding place_words word_if
  pair-there i n k o l a b = rw (a, b, lt-ltb i n l)

  pub pair-absent : (i n : ℕ) → n ≤ i → 0 ∷ 0 ∷ [] ≡ place_words 1 i n ks os at
  unfolding place_words word_if
  pair-absent i n l = rw (le-not-ltb i n l)

  pub places-stored : (i n w : ℕ) (l d : List ℕ) {p q : List ℕ} → p ≡ place_words 1 i n ks os at
      → q ≡ place_words 1 (i + 1) n ks os at
      → d ≡ sets l w (get_or p 0 0 ∷ get_or p 1 0 ∷ get_or q 0 0 ∷ get_or q 1 0 ∷ [])
      → d ≡ sets l w (place_words 2 i n ks os at)
  unfolding place_words
  places-stored i n w l d a b f = f ∙ rw (a, b, add-one)

  pub call-stored : (next o b : ℕ) (l d1 d2 d3 : List ℕ) → o ≡ operand_at os at
      → d1 ≡ sets l b (get_or ks at 0 ∷ low o ∷ next ∷ high o ∷ []) → d2 ≡ sets d1 (b + 4) (place_words 2 0 (high o) ks os (at + 1))
      → d3 ≡ sets d2 (b + 8) (place_words 2 2 (high o) ks os (at + 1)) → d3 ≡ sets l b (call_node_words ks os at next)
  unfolding call_node_words place_words
  call-stored next o b l d1 d2 d3 e e1 e2 e3 = in-fours l d1 d2 d3 b _ _ _ _ _ _ _ _ _ _ _ _ e1 e2 e3 ∙ rw e
