-- One pass over a table: each element keeps its rules, and one that is not marked is blank. By induction over the table, and over the
-- places that are left where the elements behind one are tested together. Assumes nothing.
use mathlib.Core.Path.{◌≡◌, refl, sym, ◌∙◌, ap, ap₂}
use mathlib.Core.Bool.{Bool, true, false, ◌&&◌, ◌||◌}
use mathlib.Core.List.{List, [], ◌∷◌}
use Prim.Native.Nat.{ℕ, zero, suc, ◌+◌, ◌-◌, ◌<◌, ◌≤◌}
use native.Mathlib.Numerals.{add-one}
use native.Mathlib.Omega.{arith}
use lib.ListN.{length, get_or, take, drop, length-drop}
use lib.Seq.{take_all, get_or-drop}
use Rattle.job.specs.Test.{◌and◌, for_all}
use Rattle.model.specs.Machine.Rules.{rest_is_blank}
use Rattle.job.proofs.Test.{clash}
use Rattle.job.proofs.Both.{both, and-true, and-false, and_assoc, regroup}
use Rattle.job.proofs.Lists.{get_d_any}
use Rattle.job.proofs.Loop.{all_more}
use Rattle.order_rules.specs.OrderCounts.{each_from}

rest_more : {A : Type 0} (blank : A → Bool) (marks : List Bool) (xs : List A) (i : ℕ) (d : A) → i < length marks → i < length xs
    → rest_is_blank blank marks (take (suc i) xs) ≡ (rest_is_blank blank marks (take i xs) and (get_or marks i false || blank (get_or xs i
    d)))
unfolding rest_is_blank ◌and◌
rest_more blank [] xs i d m l = absurd (omega arith)
rest_more blank (b ∷ marks) [] i d m l = absurd (omega arith)
rest_more blank (true ∷ marks) (x ∷ xs) zero d m l = refl
rest_more blank (false ∷ marks) (x ∷ xs) zero d m l = and-true (blank x)
rest_more blank (true ∷ marks) (x ∷ xs) (suc i) d m l = rest_more blank marks xs i d (omega arith) (omega arith)
rest_more blank (false ∷ marks) (x ∷ xs) (suc i) d m l =
    ap (◌and◌ (blank x)) (rest_more blank marks xs i d (omega arith) (omega arith)) ∙ sym (and_assoc (blank x) _ _)

-- one test of the places from one on goes as far as a turn for each
pub rest-turns : (test passes : ℕ → Bool) (from n : ℕ)
    → ((i : ℕ) → from ≤ i → i < from + n → (passes i && test i) ≡ passes (i + 1))
    → (passes from && each_from test from n) ≡ passes (from + n)
unfolding each_from ◌and◌
rest-turns test passes from zero turn =
    and-true (passes from) ∙ ap passes (let z : from ≡ from + 0 = omega arith in z)
rest-turns test passes from (suc n) turn =
    sym (and_assoc (passes from) (each_from test from n) (test (from + n)))
    ∙ ap (λ b. b && test (from + n)) (rest-turns test passes from n (λ i l b. turn i l (omega arith)))
    ∙ turn (from + n) (omega arith) (omega arith)
    ∙ ap passes (let z : from + n + 1 ≡ from + suc n = omega arith in z)

-- two tests of each place
pub each_both : (p q : ℕ → Bool) (from n : ℕ) → each_from (λ i. p i and q i) from n ≡ (each_from p from n and each_from q from n)
unfolding each_from ◌and◌
each_both p q from zero = refl
each_both p q from (suc n) =
    ap (λ b. b and p (from + n) and q (from + n)) (each_both p q from n)
    ∙ regroup (each_from p from n) (each_from q from n) (p (from + n)) (q (from + n))

-- a test of each element from a place on
module _ {A : Type 0} (p : A → Bool) (xs : List A) (d : A) (from : ℕ) where
  each_first : (n : ℕ) → from + n ≤ length xs → each_from (λ i. p (get_or xs i d)) from n ≡ for_all p (take n (drop from xs))
  unfolding each_from for_all
  each_first zero l = refl
  each_first (suc n) l =
      ap₂ ◌and◌ (each_first n (omega arith)) (ap p (sym (get_or-drop from xs n d)))
      ∙ sym (all_more p (drop from xs) n d (omega (arith, length-drop from xs)))

  pub each-rest : (n : ℕ) → from + n ≡ length xs → each_from (λ i. p (get_or xs i d)) from n ≡ for_all p (drop from xs)
  each-rest n e = each_first n (omega arith) ∙ ap (for_all p) (take_all n (drop from xs) (omega (arith, length-drop from xs)))

-- an element that is marked is tested for the rules, any other for being blank
pub marked-one : {used : Bool} (a b : Bool) → used ≡ true → a ≡ (a and (used || b))
marked-one a b e = sym (ap (λ (u : Bool). a and (u || b)) e ∙ and-true a)

pub other-one : {used : Bool} (a b : Bool) → used ≡ false → (b ≡ true → a ≡ true) → b ≡ (a and (used || b))
unfolding ◌and◌
other-one a b e f = go b f ∙ sym (ap (λ (u : Bool). a and (u || b)) e)
  where
    go : (b : Bool) → (b ≡ true → a ≡ true) → b ≡ (a and b)
    go true f = sym (ap (λ (x : Bool). x and true) (f refl))
    go false f = sym (and-false a)

module _ {A : Type 0} (rule blank : A → Bool) (marks : List Bool) (xs : List A) where
  -- the first i pass
  abbrev pub passed : ℕ → Bool
  passed i = for_all rule (take i xs) and rest_is_blank blank marks (take i xs)

  pub pass-turn : (i : ℕ) (d : A) {ok b : Bool} → i < length marks → i < length xs → ok ≡ passed i
      → b ≡ (rule (get_or xs i d) and (get_or marks i false || blank (get_or xs i d))) → (ok && b) ≡ passed (i + 1)
  pass-turn i d m l e f =
      both e f ∙ sym (rw add-one (ap₂ ◌and◌ (all_more rule xs i d l) (rest_more blank marks xs i d m l) ∙ regroup _ _ _ _))

  pub pass-done : (i : ℕ) {ok : Bool} → length xs ≤ i → ok ≡ passed i → ok ≡ (for_all rule xs and rest_is_blank blank marks xs)
  pass-done i l e = e ∙ ap (λ ys. for_all rule ys and rest_is_blank blank marks ys) (take_all i xs l)

  -- none of those from a place on is marked: they are tested together for being blank
  pub pass-rest : (d : A) (from : ℕ) {ok rest : Bool} → length marks ≡ length xs → from ≤ length xs
      → ((i : ℕ) → from ≤ i → i < length xs → get_or marks i true ≡ false)
      → ((i : ℕ) → blank (get_or xs i d) ≡ true → rule (get_or xs i d) ≡ true)
      → ok ≡ passed from → rest ≡ for_all blank (drop from xs) → (ok && rest) ≡ (for_all rule xs and rest_is_blank blank marks xs)
  pass-rest d from same l unmarked holds e f =
      let n = length xs - from in
      ap₂ (λ a b. a && b) e (f ∙ sym (each-rest blank xs d from n (omega arith)))
      ∙ pass-done (from + n) (omega arith)
      (rest-turns (λ i. blank (get_or xs i d)) passed from n (λ i k b.
      pass-turn i d (omega arith) (omega arith) refl
      (other-one {used = get_or marks i false} (rule (get_or xs i d)) (blank (get_or xs i d))
      (get_d_any marks i false true (omega arith) ∙ unmarked i k (omega arith)) (holds i))))

-- rules that are tested together
pub all_both : {A : Type 0} (p q : A → Bool) (xs : List A) → for_all (λ x. p x and q x) xs ≡ (for_all p xs and for_all q xs)
unfolding for_all ◌and◌
all_both p q [] = refl
all_both p q (x ∷ xs) = ap (◌and◌ (p x and q x)) (all_both p q xs) ∙ regroup (p x) (q x) (for_all p xs) (for_all q xs)

-- a test that comes first: it holds where all hold, and where it holds the others decide
pub first-true : (a b : Bool) → (a && b) ≡ true → a ≡ true
first-true true b e = refl
first-true false b e = e

pub second-true : (a b : Bool) → (a && b) ≡ true → b ≡ true
second-true true b e = e
second-true false b e = clash e refl

pub grouped : (a b c : Bool) → (a && (b && c)) ≡ (a && b && c)
grouped true b c = refl
grouped false b c = refl

-- a second test that matters only where the first holds
pub where-true : (a b b' : Bool) → (a ≡ true → b ≡ b') → (a && b) ≡ (a and b')
unfolding ◌and◌
where-true true b b' f = f refl
where-true false b b' f = refl
