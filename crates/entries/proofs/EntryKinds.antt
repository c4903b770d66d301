-- The table of kinds, case by case. Assumes nothing.
use Prim.Native.Nat.{ℕ, zero, suc}

-- what holds of 0 to 8, the known kinds, and of every number from 9 on holds of every number
pub by_kind : (P : ℕ → Type 0) → P 0 → P 1 → P 2 → P 3 → P 4 → P 5 → P 6 → P 7 → P 8
    → ((k : ℕ) → P (suc (suc (suc (suc (suc (suc (suc (suc (suc k)))))))))) → (k : ℕ) → P k
by_kind P a b c d e f g h i j zero = a
by_kind P a b c d e f g h i j (suc zero) = b
by_kind P a b c d e f g h i j (suc (suc zero)) = c
by_kind P a b c d e f g h i j (suc (suc (suc zero))) = d
by_kind P a b c d e f g h i j (suc (suc (suc (suc zero)))) = e
by_kind P a b c d e f g h i j (suc (suc (suc (suc (suc zero))))) = f
by_kind P a b c d e f g h i j (suc (suc (suc (suc (suc (suc zero)))))) = g
by_kind P a b c d e f g h i j (suc (suc (suc (suc (suc (suc (suc zero))))))) = h
by_kind P a b c d e f g h i j (suc (suc (suc (suc (suc (suc (suc (suc zero)))))))) = i
by_kind P a b c d e f g h i j (suc (suc (suc (suc (suc (suc (suc (suc (suc k))))))))) = j k
