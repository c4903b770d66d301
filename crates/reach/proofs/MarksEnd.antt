-- Where marks end. The loop that looks for one says of the places before its own what the test of a list does; eight marks are a number,
-- and where it is below a power of 256, the marks from there on are none. Assumes nothing.
use mathlib.Core.Path.{◌≡◌, refl, sym, ◌∙◌, ap, subst}
use mathlib.Core.Bool.{Bool, true, false, not, ◌&&◌, ◌||◌}
use mathlib.Core.List.{List, [], ◌∷◌}
use Prim.Native.Nat.{ℕ, zero, suc, ◌+◌, ◌-◌, ◌*◌, ◌≤◌, ◌<◌}
use native.Mathlib.Decide.{dec_lt}
use native.Mathlib.Omega.{arith}
use borrow.Author.Tests.{not-true, lt-ltb, le-ltb, eq-eqb, ne_eqb}
use mir.Val.{bool_byte}
use lib.ListN.{length, get_or, drop, length-drop}
use lib.Seq.{get_or-drop}
use Rattle.std.specs.List.{fold}
use Rattle.job.specs.Test.{for_all, ◌and◌}
use Rattle.reach.specs.Marks.{UnmarkedFrom, weight, none_from, few_or_all, end_of_eight, marked_end}
use Rattle.job.proofs.Lists.{before-and-behind}
use Rattle.job.proofs.Test.{all-at}

-- 256 to the k
abbrev power : ℕ → ℕ
power zero = 1
power (suc k) = 256 * power k

light : (n k : ℕ) (marks : List Bool) → n ≤ length marks → weight n marks < power k → (i : ℕ) → k ≤ i → i < n → get_or marks i true ≡ false
light zero k marks l h i a b = absurd (omega arith)
light (suc n) k [] l h i a b = absurd (omega arith)
light (suc n) zero (true ∷ marks) l h i a b = absurd (omega arith)
light (suc n) zero (false ∷ marks) l h zero a b = refl
light (suc n) zero (false ∷ marks) l h (suc i) a b = light n zero marks (omega arith) (omega arith) i (omega arith) (omega arith)
light (suc n) (suc k) (x ∷ marks) l h zero a b = absurd (omega arith)
light (suc n) (suc k) (true ∷ marks) l h (suc i) a b = light n k marks (omega arith) (omega arith) i (omega arith) (omega arith)
light (suc n) (suc k) (false ∷ marks) l h (suc i) a b = light n k marks (omega arith) (omega arith) i (omega arith) (omega arith)

-- the end by a power of 256
pub end-one : (n : ℕ) → n < 256 → 1 ≡ end_of_eight n
unfolding end_of_eight
end-one n h = rw (lt-ltb n 65536 (omega arith), lt-ltb n 256 h, end_of_eight) refl

pub end-two : (n : ℕ) → 256 ≤ n → n < 65536 → 2 ≡ end_of_eight n
unfolding end_of_eight
end-two n l h = rw (lt-ltb n 65536 h, le-ltb n 256 l, end_of_eight) refl

pub end-three : (n : ℕ) → 65536 ≤ n → n < 16777216 → 3 ≡ end_of_eight n
unfolding end_of_eight
end-three n l h = rw (le-ltb n 65536 l, lt-ltb n 4294967296 (omega arith), lt-ltb n 16777216 h, end_of_eight) refl

pub end-four : (n : ℕ) → 16777216 ≤ n → n < 4294967296 → 4 ≡ end_of_eight n
unfolding end_of_eight
end-four n l h = rw (le-ltb n 65536 (omega arith), lt-ltb n 4294967296 h, le-ltb n 16777216 l, end_of_eight) refl

pub end-eight : (n : ℕ) → 4294967296 ≤ n → 8 ≡ end_of_eight n
unfolding end_of_eight
end-eight n l = rw (le-ltb n 65536 (omega arith), le-ltb n 4294967296 l, end_of_eight) refl

-- from there on, of eight, there is no mark
pub eight-end : (marks : List Bool) → 8 ≤ length marks
    → (end_of_eight (weight 8 marks) ≤ 8) × UnmarkedFrom marks (end_of_eight (weight 8 marks)) 8
eight-end marks l = go (dec_lt n 256) (dec_lt n 65536) (dec_lt n 16777216) (dec_lt n 4294967296)
  where
    n : ℕ
    n = weight 8 marks

    ends : (k : ℕ) → k ≤ 8 → k ≡ end_of_eight n → n < power k → (end_of_eight n ≤ 8) × UnmarkedFrom marks (end_of_eight n) 8
    ends k few e h = subst (λ x. (x ≤ 8) × UnmarkedFrom marks x 8) e (few, λ i a b. light 8 k marks l h i a b)

    go : Dec (n < 256) → Dec (n < 65536) → Dec (n < 16777216) → Dec (n < 4294967296)
        → (end_of_eight n ≤ 8) × UnmarkedFrom marks (end_of_eight n) 8
    go (yes a) b c d = ends 1 (omega arith) (end-one n a) a
    go (no a) (yes b) c d = ends 2 (omega arith) (end-two n (omega arith) b) b
    go (no a) (no b) (yes c) d = ends 3 (omega arith) (end-three n (omega arith) c) c
    go (no a) (no b) (no c) (yes d) = ends 4 (omega arith) (end-four n (omega arith) d) d
    go (no a) (no b) (no c) (no d) =
        subst (λ x. (x ≤ 8) × UnmarkedFrom marks x 8) (end-eight n (omega arith)) (omega arith, λ i a b. absurd (omega arith))

-- a mark as a byte
pub byte_small : (b : Bool) → bool_byte b ≤ 1
byte_small true = omega arith
byte_small false = omega arith

-- where few places are in use, all are before the end of the first eight
pub unmarked-few : (marks : List Bool) (end size : ℕ) → UnmarkedFrom marks end 8 → UnmarkedFrom marks 8 size → UnmarkedFrom marks end size
unmarked-few marks end size f g i a b =
    before-and-behind {P = λ j. end ≤ j → get_or marks j true ≡ false} 8 size (λ j l e. f j e l) (λ j l m e. g j l m) i b a

-- the marks gathered from the front
pub none-gathered : (found : Bool) (marks : List Bool) → not (fold ◌||◌ found marks) ≡ (not found && for_all not marks)
unfolding for_all ◌and◌
none-gathered true [] = refl
none-gathered false [] = refl
none-gathered true (b ∷ marks) = none-gathered true marks
none-gathered false (true ∷ marks) = none-gathered true marks
none-gathered false (false ∷ marks) = none-gathered false marks

-- what the test says
pub none-unmarked : (marks : List Bool) (from size : ℕ) → length marks ≡ size → none_from marks from ≡ true → UnmarkedFrom marks from size
none-unmarked marks from size n e i a b =
    let left = length-drop from marks in
    let here : from + (i - from) ≡ i = omega arith in
    ap (λ k. get_or marks k true) (sym here) ∙ sym (get_or-drop from marks (i - from) true)
    ∙ not-true _ (all-at not (drop from marks) (i - from) true e (omega arith))

-- the end of the marks: where few places are looked at, and where all are
pub marked-few : (marks : List Bool) {r : ℕ} → few_or_all marks ≡ 8 → r ≡ end_of_eight (weight 8 marks) → r ≡ marked_end marks
unfolding marked_end
marked-few marks e f = f ∙ rw (eq-eqb (few_or_all marks) 8 e, marked_end) refl

pub marked-many : (marks : List Bool) {r : ℕ} → r ≡ few_or_all marks → (r ≡ 8 → ⊥) → r ≡ marked_end marks
unfolding marked_end
marked-many marks e n = e ∙ rw (ne_eqb (few_or_all marks) 8 (λ f. n (e ∙ f)), marked_end) refl
