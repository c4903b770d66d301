-- Rows into which words are cut: the one at an index, and the first of them. By induction over the rows. Assumes nothing.
use mathlib.Core.Path.{◌≡◌, refl, sym, ap, ap₂, ◌∙◌}
use mathlib.Core.List.{List, [], ◌∷◌}
use Prim.Native.Nat.{ℕ, zero, suc, ◌+◌, ◌*◌, ◌<◌, ◌≤◌}
use native.Mathlib.Nat.{mul-zero, mul-suc}
use native.Mathlib.Omega.{arith}
use lib.ListN.{length, get_or, take, drop, length-drop}
use lib.Seq.{drop-drop, take-add, length-take-le, take_at, drop_at}
use Rattle.std.specs.Simd.{first_chunks}
use Rattle.job.proofs.Lists.{part_at}
use Rattle.job.specs.Rows.{words_in_rows}

-- words cut into rows
pub cut-rows : (w n k : ℕ) (ws xs : List ℕ) (rows : List (List ℕ)) → rows ≡ first_chunks w k xs → k ≡ n → w * n ≤ length ws
    → xs ≡ take (w * n) ws → rows ≡ words_in_rows w n ws
unfolding words_in_rows
cut-rows w n k ws xs rows e z l t =
    e ∙ ap₂ (first_chunks w) z t ∙ cut n ws l
  where
    cut : (n : ℕ) (ws : List ℕ) → w * n ≤ length ws → first_chunks w n (take (w * n) ws) ≡ first_chunks w n ws
    cut zero ws l = refl
    cut (suc n) ws l =
        let m : w * suc n ≡ w + w * n = omega (arith, mul-suc w n) in
        rw (m, take-add w (w * n) ws)
        (ap₂ ◌∷◌ (take_at (take w ws) (take (w * n) (drop w ws)) w (length-take-le w ws (omega arith)))
        (ap (first_chunks w n) (drop_at (take w ws) (take (w * n) (drop w ws)) w (length-take-le w ws (omega arith)))
        ∙ cut n (drop w ws) (omega (arith, length-drop w ws))))

pub row-at : (w n : ℕ) (ws d : List ℕ) (p : ℕ) → p < n → get_or (words_in_rows w n ws) p d ≡ take w (drop (w * p) ws)
unfolding words_in_rows
row-at w zero ws d p l = absurd (omega arith)
row-at w (suc n) ws d zero l = ap (λ k. take w (drop k ws)) (sym (mul-zero w))
row-at w (suc n) ws d (suc p) l =
    let z : w + w * p ≡ w * suc p = omega (arith, mul-suc w p) in
    row-at w n (drop w ws) d p (omega arith) ∙ ap (take w) (drop-drop (w * p) w ws ∙ ap (λ k. drop k ws) z)

pub row-word : (w n : ℕ) (ws d : List ℕ) (p j : ℕ) → p < n → j < w → get_or (get_or (words_in_rows w n ws) p d) j 0 ≡ get_or ws (w * p + j) 0
row-word w n ws d p j l m = ap (λ r. get_or r j 0) (row-at w n ws d p l) ∙ part_at ws (w * p) w j 0 m

pub rows-taken : (w n k : ℕ) (ws : List ℕ) → k ≤ n → take k (words_in_rows w n ws) ≡ words_in_rows w k ws
unfolding words_in_rows
rows-taken w n zero ws l = refl
rows-taken w zero (suc k) ws l = absurd (omega arith)
rows-taken w (suc n) (suc k) ws l = ap (◌∷◌ (take w ws)) (rows-taken w n k (drop w ws) (omega arith))
