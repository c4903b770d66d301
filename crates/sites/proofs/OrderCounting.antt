-- Names in an order that each stand there at most once are at most as many as there are places, and fewer where a place is not named.
-- Assumes nothing.
use mathlib.Core.Path.{◌≡◌, refl, sym, ap, ◌∙◌}
use mathlib.Core.Bool.{true}
use mathlib.Core.List.{List, [], ◌∷◌}
use Prim.Native.Nat.{ℕ, zero, suc, ◌+◌, ◌<◌, ◌≤◌}
use native.Mathlib.Decide.{ℕ_discrete, dec_lt}
use native.Mathlib.Omega.{arith}
use lib.ListN.{length}
use lib.Dec.{ltb, eqb}
use Rattle.job.specs.Test.{for_all, occurrences, once}
use Rattle.job.proofs.Test.{all_head, all_tail, eq-eqb, ne_eqb, lt-ltb, le-not-ltb}

-- how often the numbers below n stand in a list, all together
total : ℕ → List ℕ → ℕ
total zero xs = 0
total (suc n) xs = total n xs + occurrences n xs

total-none : (n : ℕ) → total n [] ≡ 0
unfolding total occurrences
total-none zero = refl
total-none (suc n) = let z = total-none n in omega arith

once-cases : (n x : ℕ) → once (ltb x n) + once (eqb n x) ≡ once (ltb x (suc n))
once-cases n x = go (ℕ_discrete n x) (dec_lt x n)
  where
    go : Dec (n ≡ x) → Dec (x < n) → once (ltb x n) + once (eqb n x) ≡ once (ltb x (suc n))
    go (yes e) d =
        let a : once (ltb x n) ≡ 0 = ap once (le-not-ltb x n (omega arith)) in
        let b : once (eqb n x) ≡ 1 = ap once (eq-eqb n x e) in
        let c : once (ltb x (suc n)) ≡ 1 = ap once (lt-ltb x (suc n) (omega arith)) in
        omega arith
    go (no f) (yes l) =
        let a : once (ltb x n) ≡ 1 = ap once (lt-ltb x n l) in
        let b : once (eqb n x) ≡ 0 = ap once (ne_eqb n x f) in
        let c : once (ltb x (suc n)) ≡ 1 = ap once (lt-ltb x (suc n) (omega arith)) in
        omega arith
    go (no f) (no g) =
        let a : once (ltb x n) ≡ 0 = ap once (le-not-ltb x n (omega arith)) in
        let b : once (eqb n x) ≡ 0 = ap once (ne_eqb n x f) in
        let c : once (ltb x (suc n)) ≡ 0 = ap once (le-not-ltb x (suc n) (omega arith)) in
        omega arith

total-cons : (n x : ℕ) (xs : List ℕ) → total n (x ∷ xs) ≡ once (ltb x n) + total n xs
unfolding total occurrences
total-cons zero x xs = let z : once (ltb x 0) ≡ 0 = ap once (le-not-ltb x 0 (omega arith)) in omega arith
total-cons (suc n) x xs = let z = total-cons n x xs in let y = once-cases n x in omega arith

total-length : (n : ℕ) (xs : List ℕ) → for_all (λ (p : ℕ). ltb p n) xs ≡ true → total n xs ≡ length xs
total-length n [] e = total-none n
total-length n (x ∷ xs) e =
    let z = total-length n xs (all_tail (λ (p : ℕ). ltb p n) x xs e) in
    let y = total-cons n x xs in
    let o : once (ltb x n) ≡ 1 = ap once (all_head (λ (p : ℕ). ltb p n) x xs e) in
    omega arith

total-few : (n : ℕ) (xs : List ℕ) → ((p : ℕ) → p < n → occurrences p xs ≤ 1) → total n xs ≤ n
unfolding total
total-few zero xs h = omega arith
total-few (suc n) xs h = let z = total-few n xs (λ p l. h p (omega arith)) in let y = h n (omega arith) in omega arith

total-fewer : (n : ℕ) (xs : List ℕ) (q : ℕ) → ((p : ℕ) → p < n → occurrences p xs ≤ 1) → q < n → occurrences q xs ≡ 0 → total n xs < n
unfolding total
total-fewer zero xs q h l e = absurd (omega arith)
total-fewer (suc n) xs q h l e = go (ℕ_discrete q n) (λ k. total-fewer n xs q (λ p l. h p (omega arith)) k e)
  where
    go : Dec (q ≡ n) → (q < n → total n xs < n) → total n xs + occurrences n xs < suc n
    go (yes s) f =
        let z = total-few n xs (λ p l. h p (omega arith)) in
        let y : occurrences n xs ≡ 0 = ap (λ p. occurrences p xs) (sym s) ∙ e in
        omega arith
    go (no g) f = let z = f (omega arith) in let y = h n (omega arith) in omega arith

module _ (n : ℕ) (xs : List ℕ) (below : for_all (λ (p : ℕ). ltb p n) xs ≡ true) (single : (p : ℕ) → p < n → occurrences p xs ≤ 1) where
  pub names-few : length xs ≤ n
  names-few = let z = total-length n xs below in let y = total-few n xs single in omega arith

  pub names-fewer : (q : ℕ) → q < n → occurrences q xs ≡ 0 → length xs < n
  names-fewer q l e = let z = total-length n xs below in let y = total-fewer n xs q single l e in omega arith
