-- Where a new record goes. Assumes nothing: these are definitions.
use Rattle.std.specs.Prelude.{Bool, true, false, List, ℕ, zero, suc, length, get_or, ltb}

-- "round from the end to 0"
unfoldable pub around : ℕ → ℕ → ℕ
around n p = elim (ltb p n) as (λ b. ℕ) [ true ↦ p | false ↦ 0 ]

-- the first place from p on that is not marked; so many are looked at. (The tests for 10 and 11 leave one that is not.)
unfoldable pub free_from : List Bool → ℕ → ℕ → ℕ
free_from marks zero p = 0
free_from marks (suc n) p =
    let q = around (length marks) p in elim (get_or marks q true) [ true ↦ free_from marks n (suc q) | false ↦ q ]

-- "A new record takes the next place not in use before the call, after the last one given"
unfoldable pub next_place : List Bool → (last : ℕ) → ℕ
next_place marks last = free_from marks (length marks) (suc last)

-- ".. after the last one given, round from the end to 0": the places after p, one after the other (proofs/Machine/Places.antt says by them
-- which places are passed over)
unfoldable pub place_after : (size p i : ℕ) → ℕ
place_after size p zero = around size (suc p)
place_after size p (suc i) = place_after size (around size (suc p)) i
