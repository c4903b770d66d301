-- Rows of one width, one behind the other, and whether all their words are 0. By induction over the rows: one is taken away with each.
-- Assumes nothing.
use mathlib.Core.Path.{◌≡◌, sym, ◌∙◌, ap, ap₂}
use mathlib.Core.Bool.{Bool, true}
use mathlib.Core.List.{List, ◌++◌}
use Prim.Native.Nat.{ℕ, zero, suc, ◌+◌, ◌*◌, ◌<◌, ◌≤◌}
use native.Mathlib.Omega.{arith}
use native.Mathlib.Nat.{mul-zero, mul-suc}
use lib.Dec.{eqb}
use lib.ListN.{length, get_or, take, drop, drop_of_length-le}
use lib.Seq.{take-add, drop-drop, drop-cons}
use Rattle.job.specs.Test.{◌and◌, for_all}
use Rattle.job.proofs.Lists.{part_at, part-long, same-when}
use Rattle.job.proofs.Test.{eqb-eq, and_left, and_right, and_both, all-at, all_append, all-append-left, all-append-right}

-- a word of a part that is all 0
pub zero_word : (ws : List ℕ) (at n k : ℕ) → at + n ≤ length ws → for_all (eqb 0) (take n (drop at ws)) ≡ true → k < n
    → get_or ws (at + k) 0 ≡ 0
zero_word ws at n k l e b =
    sym (part_at ws at n k 0 b)
    ∙ sym (eqb-eq 0 _ (all-at (eqb 0) (take n (drop at ws)) k 0 e (omega (arith, part-long ws at n l))))

all_split : {A : Type 0} (p : A → Bool) (xs ys : List A) → for_all p (xs ++ ys) ≡ (for_all p xs and for_all p ys)
all_split p xs ys =
    same-when _ _ (λ e. and_both (all-append-left p xs ys e) (all-append-right p xs ys e))
    (λ e. all_append p xs ys (and_left (for_all p xs) _ e) (and_right (for_all p xs) _ e))

-- each row is all 0 exactly if its element passes a test
module _ {A : Type 0} (test : A → Bool) (d : A) (ws : List ℕ) (w : ℕ) (at : ℕ → ℕ) (next : (p : ℕ) → at (suc p) ≡ at p + w) (xs : List A)
    (row : (p : ℕ) → p < length xs → for_all (eqb 0) (take w (drop (at p) ws)) ≡ test (get_or xs p d)) where
  pub rows-zero : (k from : ℕ) → from + k ≡ length xs → for_all (eqb 0) (take (w * k) (drop (at from) ws)) ≡ for_all test (drop from xs)
  unfolding for_all
  rows-zero zero from e =
      ap (λ n. for_all (eqb 0) (take n (drop (at from) ws))) (mul-zero w)
      ∙ sym (ap (for_all test) (drop_of_length-le xs {i = from} (omega arith)))
  rows-zero (suc k) from e =
      let l : from < length xs = omega arith in
      let z : w * suc k ≡ w + w * k = omega (arith, mul-suc w k) in
      ap (λ n. for_all (eqb 0) (take n (drop (at from) ws))) z
      ∙ ap (for_all (eqb 0)) (take-add w (w * k) (drop (at from) ws))
      ∙ all_split (eqb 0) (take w (drop (at from) ws)) (take (w * k) (drop w (drop (at from) ws)))
      ∙ ap₂ ◌and◌ (row from l)
      (ap (λ r. for_all (eqb 0) (take (w * k) r)) (drop-drop w (at from) ws ∙ ap (λ j. drop j ws) (sym (next from)))
      ∙ rows-zero k (suc from) (omega arith))
      ∙ sym (ap (for_all test) (drop-cons xs from d l))
