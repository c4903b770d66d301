-- The tables of tokens and cells, row by row: a row that was written is what was written, the others are as before, and behind the end all
-- is blank, so a live token is inside. By the laws of lists. Assumes nothing.
use mathlib.Core.Path.{◌≡◌, ap}
use mathlib.Core.Bool.{true}
use mathlib.Core.List.{List}
use Prim.Native.Nat.{ℕ, ◌<◌, ◌≤◌}
use native.Mathlib.Decide.{dec_lt}
use native.Mathlib.Omega.{arith}
use lib.ListN.{length, set, get_or-eq_default}
use lib.Seq.{get_or-set_same, get_or-set_other}
use Rattle.model.specs.Machine.Blank.{blank_token, blank_cell, token_at, cell_at}
use Rattle.model.specs.Machine.State.{is_live}
use Rattle.model.specs.declared.token.Token.{Token}
use Rattle.model.specs.declared.cell.Cell.{Cell}
use Rattle.job.proofs.Test.{clash}

pub token-same : (ts : List Token) (p : ℕ) (u : Token) → p < length ts → token_at (set ts p u) p ≡ u
unfolding token_at
token-same ts p u l = get_or-set_same ts p u blank_token l

pub token-other : (ts : List Token) (p r : ℕ) (u : Token) → (r ≡ p → ⊥) → token_at (set ts p u) r ≡ token_at ts r
unfolding token_at
token-other ts p r u n = get_or-set_other ts p r u blank_token n

pub token-outside : (ts : List Token) (i : ℕ) → length ts ≤ i → token_at ts i ≡ blank_token
unfolding token_at
token-outside ts i l = get_or-eq_default ts blank_token l

pub live_inside : (ts : List Token) (p : ℕ) → is_live (token_at ts p).state ≡ true → p < length ts
unfolding is_live
live_inside ts p e = go (dec_lt p (length ts))
  where
    go : Dec (p < length ts) → p < length ts
    go (yes l) = l
    go (no n) = clash e (ap (λ (t : Token). is_live t.state) (token-outside ts p (omega arith)))

pub cell_same : (cs : List Cell) (c : ℕ) (k : Cell) → c < length cs → cell_at (set cs c k) c ≡ k
unfolding cell_at
cell_same cs c k l = get_or-set_same cs c k blank_cell l

pub cell_other : (cs : List Cell) (c b : ℕ) (k : Cell) → (b ≡ c → ⊥) → cell_at (set cs c k) b ≡ cell_at cs b
unfolding cell_at
cell_other cs c b k n = get_or-set_other cs c b k blank_cell n

pub cell-outside : (cs : List Cell) (c : ℕ) → length cs ≤ c → cell_at cs c ≡ blank_cell
unfolding cell_at
cell-outside cs c l = get_or-eq_default cs blank_cell l
