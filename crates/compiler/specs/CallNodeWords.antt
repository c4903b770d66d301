-- The words of a call's node, read off its entries. Assumes nothing: these are definitions.
use Rattle.std.specs.Prelude.{Bool, true, false, List, [], ◌∷◌, ℕ, zero, suc, ◌+◌, get_or, ltb}
use Rattle.job.specs.Entry.{low, high, operand_at}

-- the word of a parameter that is there, else 0
unfoldable pub word_if : Bool → ℕ → ℕ
word_if true w = w
word_if false w = 0

-- so many places for parameters, from place i on: the kinds and operands of the n entries from `at` on, then 0
unfoldable pub place_words : ℕ → (i n : ℕ) → (ks os : List ℕ) → (at : ℕ) → List ℕ
place_words zero i n ks os at = []
place_words (suc w) i n ks os at =
    word_if (ltb i n) (get_or ks (at + i) 0) ∷ word_if (ltb i n) (operand_at os (at + i)) ∷ place_words w (suc i) n ks os at

-- kind, site or definition, next, count, four places
unfoldable pub call_node_words : (ks os : List ℕ) → (at k : ℕ) → List ℕ
call_node_words ks os at k =
    let o = operand_at os at in
    get_or ks at 0 ∷ low o ∷ k ∷ high o ∷ place_words 4 0 (high o) ks os (at + 1)
