-- What is sorted by time begins with the first of the earliest, and goes on with the rest, sorted. By induction over the list: an element
-- that is put into a sorted list stays behind an earlier one. Assumes nothing.
use mathlib.Core.Path.{◌≡◌, refl, sym, ap, subst, ◌∙◌}
use mathlib.Core.Bool.{Bool, true, false}
use mathlib.Core.List.{List, [], ◌∷◌}
use Prim.Native.Nat.{ℕ, zero, suc, ◌<◌, ◌≤◌}
use native.Mathlib.Omega.{arith}
use lib.Dec.{eqb, leb}
use lib.ListN.{length, get_or}
use Rattle.job.specs.Test.{All, none, more, select, occurrences, once, without}
use Rattle.model.specs.Machine.Clock.{insert_by_time, sort_by_time}
use Rattle.job.proofs.Test.{eqb-eq, eq-eqb, le-leb, lt-not-leb}

-- what holds of each element
pub all-indexed : {P : ℕ → Type 0} (l : List ℕ) → ((j : ℕ) → j < length l → P (get_or l j 0)) → All P l
all-indexed [] h = none
all-indexed (x ∷ l) h = more (h 0 (omega arith)) (all-indexed l (λ j k. h (suc j) (omega arith)))

pub all-occurring : {P : ℕ → Type 0} {l : List ℕ} → All P l → (r : ℕ) → 0 < occurrences r l → P r
unfolding occurrences
all-occurring none r k = absurd (omega arith)
all-occurring {P} (more {x = x} {xs = xs} e es) r k = go (eqb r x) refl (λ j. all-occurring es r j)
  where
    go : (b : Bool) → eqb r x ≡ b → (0 < occurrences r xs → P r) → P r
    go true f rest = subst P (sym (eqb-eq r x f)) e
    go false f rest = rest (let z : once (eqb r x) ≡ 0 = ap once f in omega arith)

pub all_apart : (p : ℕ) (l : List ℕ) → occurrences p l ≡ 0 → All (λ x. x ≡ p → ⊥) l
unfolding occurrences
all_apart p [] e = none
all_apart p (x ∷ l) e =
    more (λ z. let y : once (eqb p x) ≡ 1 = ap once (eq-eqb p x (sym z)) in omega arith) (all_apart p l (omega arith))

-- what a test keeps
module _ (f : ℕ → Bool) where
  abbrev kept_if : Bool → ℕ → List ℕ → List ℕ
  kept_if b x l = elim b [ true ↦ x ∷ l | false ↦ l ]

  pub select-none : {l : List ℕ} → All (λ x. f x ≡ false) l → select f l ≡ []
  unfolding select
  select-none none = refl
  select-none (more {x = x} {xs = xs} e es) = ap (λ b. kept_if b x (select f xs)) e ∙ select-none es

  pub select-all : {l : List ℕ} → All (λ x. f x ≡ true) l → select f l ≡ l
  unfolding select
  select-all none = refl
  select-all (more {x = x} {xs = xs} e es) = ap (λ b. kept_if b x (select f xs)) e ∙ ap (◌∷◌ x) (select-all es)

  -- without one that it does not keep
  pub select-without : (l : List ℕ) (i : ℕ) → i < length l → f (get_or l i 0) ≡ false → select f (without i l) ≡ select f l
  unfolding select without
  select-without [] i k e = absurd (omega arith)
  select-without (x ∷ l) zero k e = sym (ap (λ b. kept_if b x (select f l)) e)
  select-without (x ∷ l) (suc i) k e = ap (kept_if (f x) x) (select-without l i (omega arith) e)

  pub all-select : {P : ℕ → Type 0} {l : List ℕ} → All P l → All P (select f l)
  unfolding select
  all-select none = none
  all-select {P} (more {x = x} {xs = xs} e es) = go (f x) (all-select es)
    where
      go : (b : Bool) → All P (select f xs) → All P (kept_if b x (select f xs))
      go true rest = more e rest
      go false rest = rest

pub select-alike : (f g : ℕ → Bool) {l : List ℕ} → All (λ x. f x ≡ g x) l → select f l ≡ select g l
unfolding select
select-alike f g none = refl
select-alike f g (more {x = x} {xs = xs} e es) =
    ap (λ b. kept_if f b x (select f xs)) e ∙ ap (kept_if f (g x) x) (select-alike f g es)

-- what is sorted
module _ (time : ℕ → ℕ) where
  abbrev placed : Bool → (p q : ℕ) → (l behind : List ℕ) → List ℕ
  placed b p q l behind = elim b [ true ↦ p ∷ q ∷ l | false ↦ q ∷ behind ]

  all_inserted : {P : ℕ → Type 0} (p : ℕ) → P p → {l : List ℕ} → All P l → All P (insert_by_time time p l)
  unfolding insert_by_time
  all_inserted p h none = more h none
  all_inserted {P} p h (more {x = q} {xs = l} e es) = go (leb (time p) (time q)) (all_inserted p h es)
    where
      go : (b : Bool) → All P (insert_by_time time p l) → All P (placed b p q l (insert_by_time time p l))
      go true rest = more h (more e es)
      go false rest = more e rest

  all-sorted : {P : ℕ → Type 0} {l : List ℕ} → All P l → All P (sort_by_time time l)
  unfolding sort_by_time
  all-sorted none = none
  all-sorted (more {x = x} e es) = all_inserted x e (all-sorted es)

  -- in front of those that are due no earlier
  insert-front : (p : ℕ) {l : List ℕ} → All (λ x. time p ≤ time x) l → insert_by_time time p l ≡ p ∷ l
  unfolding insert_by_time
  insert-front p none = refl
  insert-front p (more {x = q} {xs = l} e es) = ap (λ b. placed b p q l (insert_by_time time p l)) (le-leb (time p) (time q) e)

  -- behind one that is due earlier
  insert-behind : (q p : ℕ) (l : List ℕ) → time p < time q → insert_by_time time q (p ∷ l) ≡ p ∷ insert_by_time time q l
  unfolding insert_by_time
  insert-behind q p l k = ap (λ b. placed b q p l (insert_by_time time q l)) (lt-not-leb (time q) (time p) k)

  module _ (due : ℕ → Bool) where
    pub first-sorted : (l : List ℕ) (i : ℕ) → i < length l → due (get_or l i 0) ≡ true
        → ((j : ℕ) → j < length l → time (get_or l i 0) ≤ time (get_or l j 0)) → ((j : ℕ) → j < i
        → time (get_or l i 0) < time (get_or l j 0))
        → sort_by_time time (select due l) ≡ get_or l i 0 ∷ sort_by_time time (select due (without i l))
    unfolding select sort_by_time without
    first-sorted [] i k e least first = absurd (omega arith)
    first-sorted (p ∷ l) zero k e least first =
        ap (λ b. sort_by_time time (kept_if due b p (select due l))) e
        ∙ insert-front p (all-sorted (all-select due (all-indexed l (λ j z. least (suc j) (omega arith)))))
    first-sorted (q ∷ l) (suc i) k e least first =
        go (due q) (first-sorted l i (omega arith) e (λ j z. least (suc j) (omega arith)) (λ j z. first (suc j) (omega arith)))
      where
        go : (b : Bool) → sort_by_time time (select due l) ≡ get_or l i 0 ∷ sort_by_time time (select due (without i l))
            → sort_by_time time (kept_if due b q (select due l)) ≡ get_or l i 0 ∷ sort_by_time time (kept_if due b q (select due (without
            i l)))
        go true rest =
            ap (insert_by_time time q) rest
            ∙ insert-behind q (get_or l i 0) (sort_by_time time (select due (without i l))) (first 0 (omega arith))
        go false rest = rest

pub sort-alike : (time late : ℕ → ℕ) {l : List ℕ} → All (λ x. time x ≡ late x) l → sort_by_time time l ≡ sort_by_time late l
unfolding sort_by_time insert_by_time
sort-alike time late none = refl
sort-alike time late (more {x = p} {xs = l} e es) =
    ap (insert_by_time time p) (sort-alike time late es) ∙ insert-alike (all-sorted late es)
  where
    insert-alike : {s : List ℕ} → All (λ x. time x ≡ late x) s → insert_by_time time p s ≡ insert_by_time late p s
    insert-alike none = refl
    insert-alike (more {x = q} {xs = s} f fs) =
        ap (λ n. placed time (leb n (time q)) p q s (insert_by_time time p s)) e
        ∙ ap (λ n. placed time (leb (late p) n) p q s (insert_by_time time p s)) f
        ∙ ap (placed time (leb (late p) (late q)) p q s) (insert-alike fs)
