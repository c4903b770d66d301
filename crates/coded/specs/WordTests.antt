-- Are words those of a record? Tests of a row's words, and of all. Assumes nothing: these are definitions.
use Rattle.std.specs.Prelude.{Bool, true, false, List, ℕ, zero, suc, ◌+◌, ◌*◌, get_or, take, drop, eqb}
use Rattle.job.specs.Test.{◌and◌}
use Rattle.record.specs.Layout.{cells_start}

abbrev pub state_coded : (kind number : ℕ) → Bool
state_coded zero n = eqb n 0
state_coded (suc zero) n = eqb n 0
state_coded (suc (suc zero)) n = true
state_coded (suc (suc (suc zero))) n = true
state_coded (suc (suc (suc (suc zero)))) n = true
state_coded (suc (suc (suc (suc (suc zero))))) n = eqb n 0
state_coded (suc (suc (suc (suc (suc (suc k)))))) n = false

abbrev pub held_coded : (kind number : ℕ) → Bool
held_coded zero n = eqb n 0
held_coded (suc zero) n = true
held_coded (suc (suc k)) n = false

abbrev pub slot_coded : (kind number : ℕ) → Bool
slot_coded zero n = eqb n 0
slot_coded (suc zero) n = true
slot_coded (suc (suc zero)) n = true
slot_coded (suc (suc (suc k))) n = false

unfoldable pub binds_coded : ℕ → List ℕ → Bool
binds_coded zero ws = true
binds_coded (suc n) ws = slot_coded (get_or ws 0 0) (get_or ws 1 0) and binds_coded n (drop 2 ws)

unfoldable pub row_coded : List ℕ → Bool
row_coded r =
    state_coded (get_or r 0 0) (get_or r 1 0) and (held_coded (get_or r 5 0) (get_or r 6 0) and (eqb (get_or r 7 0) 0 and binds_coded 8
    (drop 8 r)))

unfoldable pub cell_coded : List ℕ → Bool
cell_coded r = held_coded (get_or r 1 0) (get_or r 2 0) and eqb (get_or r 3 0) 0

-- the words of the token at a place, and of the cell at a place
abbrev pub token_coded : List ℕ → ℕ → Bool
token_coded ws p = row_coded (take 24 (drop (24 * p) ws))

abbrev pub cell_at_coded : List ℕ → ℕ → Bool
cell_at_coded ws c = cell_coded (take 4 (drop (cells_start + 4 * c) ws))

unfoldable pub table_coded : (List ℕ → Bool) → (w n : ℕ) → List ℕ → Bool
table_coded ok w zero ws = true
table_coded ok w (suc n) ws = ok (take w ws) and table_coded ok w n (drop w ws)

unfoldable pub record_coded : List ℕ → Bool
record_coded ws = table_coded row_coded 24 64 ws and table_coded cell_coded 4 32 (drop cells_start ws)
