-- An order's rules from counts: how often each place stands in it, counted in one pass. Assumes nothing.
use mathlib.Core.Path.{◌≡◌, refl, sym, ◌∙◌, ap, ap₂}
use mathlib.Core.Bool.{Bool, true, false, ◌&&◌}
use mathlib.Core.List.{List, [], ◌∷◌}
use Prim.Native.Nat.{ℕ, zero, suc, ◌+◌, ◌-◌, ◌<◌, ◌≤◌}
use native.Mathlib.Decide.{ℕ_discrete, dec_lt}
use native.Mathlib.Nat.{add-zero, zero-add}
use native.Mathlib.Numerals.{add-one}
use native.Mathlib.Omega.{arith}
use lib.ListN.{length, get_or, take, drop, set, replicate, length-drop, length-replicate, get_or-replicate, get_or-eq_default}
use lib.Seq.{get_or-set_same, get_or-set_other, get_or-drop, length-take-le, get_or-take}
use lib.Dec.{ltb, eqb}
use mir.Val.{bool_byte}
use Rattle.job.specs.Test.{◌and◌, for_all, all_from, occurrences, once}
use Rattle.model.specs.Machine.Rules.{names_once}
use Rattle.model.specs.declared.token.State.{State}
use Rattle.model.specs.declared.token.Token.{Token}
use Rattle.job.proofs.Lists.{part-is}
use Rattle.job.proofs.Test.{all-at, all-from, false_of, ltb-lt, lt-ltb, eq-eqb, ne_eqb, le-leb, lt-not-leb}
use Rattle.record.specs.Layout.{state_kind}
use Rattle.job.proofs.Both.{both, and-true, and-false, and_assoc}
use Rattle.order_rules.specs.OrderCounts.{named_as}
use Rattle.model.specs.declared.record.Machine.{Machine}
use Rattle.record.specs.Holds.{Codes}
use Rattle.record.specs.OrderWords.{Which, first_at, state_of, in_state, array_of, count_of}
use Rattle.record.proofs.CountLaws.{words_long}
use Rattle.record.proofs.OrderLaws.{array-long, arrays-fit, kind-is, name-read}

-- counts
pub count_most : (p : ℕ) (xs : List ℕ) → occurrences p xs ≤ length xs
unfolding occurrences
count_most p [] = omega arith
count_most p (x ∷ xs) = go (eqb p x) (count_most p xs)
  where
    go : (b : Bool) → occurrences p xs ≤ length xs → once b + occurrences p xs ≤ suc (length xs)
    go true l = omega arith
    go false l = omega arith

count-more : (p : ℕ) (xs : List ℕ) (i : ℕ) → i < length xs → occurrences p (take (suc i) xs)
    ≡ occurrences p (take i xs) + once (eqb p (get_or xs i 0))
unfolding occurrences
count-more p [] i l = absurd (omega arith)
count-more p (x ∷ xs) zero l = omega arith
count-more p (x ∷ xs) (suc i) l = let e = count-more p xs i (omega arith) in omega arith

-- a truth value as a number
pub once-is : (b : Bool) → bool_byte b ≡ once b
once-is true = refl
once-is false = refl

-- one of three tests fails
pub first-fails : {a : Bool} (b c : Bool) → a ≡ false → (a and b and c) ≡ false
unfolding ◌and◌
first-fails b c e = rw e

pub second-fails : (a : Bool) {b : Bool} (c : Bool) → b ≡ false → (a and b and c) ≡ false
unfolding ◌and◌
second-fails a c e = rw e (and-false a)

pub third-fails : (a b : Bool) {c : Bool} → c ≡ false → (a and b and c) ≡ false
third-fails a b e = ap (λ c. a and b and c) e ∙ ap (◌and◌ a) (and-false b) ∙ and-false a

-- names of places
pub wild : (names : List ℕ) (i : ℕ) → i < length names → 64 ≤ get_or names i 0 → for_all (λ (p : ℕ). ltb p 64) names ≡ false
wild names i l w = false_of _ (λ e. let b = ltb-lt (get_or names i 0) 64 (all-at (λ (p : ℕ). ltb p 64) names i 0 e l) in omega arith)

pub tame : (names : List ℕ) → ((i : ℕ) → i < length names → get_or names i 0 < 64) → for_all (λ (p : ℕ). ltb p 64) names ≡ true
tame names f = all-from (λ (p : ℕ). ltb p 64) names 0 (λ i l. lt-ltb (get_or names i 0) 64 (f i l))

module _ (array counts : List ℕ) (i : ℕ) (long : length counts ≡ 64) (l : i < length array)
    (so_far : (p : ℕ) → p < 64 → get_or counts p 0 ≡ occurrences p (take i array)) where
  pub count_turn : (q : ℕ) → q < 64 → get_or array i 0 ≡ q → (p : ℕ) → p < 64
      → get_or (set counts q (get_or counts q 0 + 1)) p 0 ≡ occurrences p (take (i + 1) array)
  count_turn q b e p m = go (ℕ_discrete p q)
    where
      more : occurrences p (take (i + 1) array) ≡ occurrences p (take i array) + once (eqb p q)
      more = rw (add-one, sym e) (count-more p array i l)

      go : Dec (p ≡ q) → get_or (set counts q (get_or counts q 0 + 1)) p 0 ≡ occurrences p (take (i + 1) array)
      go (yes f) =
          ap (λ k. get_or (set counts q (get_or counts q 0 + 1)) k 0) f
          ∙ get_or-set_same counts q (get_or counts q 0 + 1) 0 (omega arith)
          ∙ ap (λ k. get_or counts k 0 + 1) (sym f)
          ∙ ap (λ k. k + 1) (so_far p m)
          ∙ sym (more ∙ rw (eq-eqb p q f))
      go (no f) =
          get_or-set_other counts q p _ 0 f ∙ so_far p m
          ∙ sym (more ∙ rw (ne_eqb p q f) (add-zero _))

-- no count is larger than the turns made
pub none-counted : (p : ℕ) → get_or (replicate 64 0) p 0 ≤ 0
none-counted p = go (dec_lt p 64)
  where
    go : Dec (p < 64) → get_or (replicate 64 0) p 0 ≤ 0
    go (yes l) = omega (arith, get_or-replicate {A = ℕ} 64 p 0 0 l)
    go (no f) = omega (arith, get_or-eq_default {A = ℕ} (replicate 64 0) 0 {n = p} (omega (arith, length-replicate {A = ℕ} 64 0)))

pub count-few : (counts : List ℕ) (i q : ℕ) → length counts ≡ 64 → q < 64 → ((p : ℕ) → get_or counts p 0 ≤ i)
    → (p : ℕ) → get_or (set counts q (get_or counts q 0 + 1)) p 0 ≤ i + 1
count-few counts i q long b f p = go (ℕ_discrete p q)
  where
    go : Dec (p ≡ q) → get_or (set counts q (get_or counts q 0 + 1)) p 0 ≤ i + 1
    go (yes e) = let g = get_or-set_same counts q (get_or counts q 0 + 1) 0 (omega arith) in let l = f q in rw e (omega arith)
    go (no n) = let g = get_or-set_other counts q p (get_or counts q 0 + 1) 0 n in let l = f p in omega arith

-- a test of each element with its index
module _ {A : Type 0} (t : ℕ → A → Bool) where
  from_more : (j : ℕ) (xs : List A) (i : ℕ) (d : A) → i < length xs
      → all_from t j (take (suc i) xs) ≡ (all_from t j (take i xs) and t (j + i) (get_or xs i d))
  unfolding all_from ◌and◌
  from_more j [] i d l = absurd (omega arith)
  from_more j (x ∷ xs) zero d l = and-true (t j x) ∙ ap (λ k. t k x) (sym (add-zero j))
  from_more j (x ∷ xs) (suc i) d l =
      let e : suc j + i ≡ j + suc i = omega arith in
      ap (◌and◌ (t j x)) (from_more (suc j) xs i d (omega arith) ∙ ap (λ k. all_from t (suc j) (take i xs) and t k (get_or xs i d)) e)
      ∙ sym (and_assoc (t j x) _ _)

  pub from-turn : (xs : List A) (i : ℕ) (d : A) {ok b : Bool}
      → i < length xs → ok ≡ all_from t 0 (take i xs) → b ≡ t i (get_or xs i d) → (ok && b) ≡ all_from t 0 (take (i + 1) xs)
  from-turn xs i d l e f =
      both e f ∙ rw add-one (sym (from_more 0 xs i d l ∙ ap (λ k. all_from t 0 (take i xs) and t k (get_or xs i d)) (zero-add i)))

-- the names among the words, and the rest behind them
module _ (ws array : List ℕ) (at : ℕ) (long : length array ≡ 64) (fit : at + 64 ≤ length ws)
    (words : (i : ℕ) → i < 64 → get_or ws (at + i) 0 ≡ get_or array i 0) (n : ℕ) (l : n ≤ 64) where
  first-names : (k : ℕ) → k ≡ n → take k (drop at ws) ≡ take n array
  first-names k e =
      ap (λ i. take i (drop at ws)) e
      ∙ part-is ws at n (take n array) 0 (length-take-le n array (omega arith)) (omega arith) (λ i b.
      words i (omega arith) ∙ sym (get_or-take n array i 0 b))

  rest-names : (k : ℕ) → k ≡ 64 - n → take k (drop (at + n) ws) ≡ drop n array
  rest-names k e =
      ap (λ i. take i (drop (at + n) ws)) e
      ∙ part-is ws (at + n) (64 - n) (drop n array) 0 (omega (arith, length-drop n array)) (omega arith) (λ i b.
      let j : at + n + i ≡ at + (n + i) = omega arith in
      ap (λ q. get_or ws q 0) j ∙ words (n + i) (omega arith) ∙ sym (get_or-drop n array i 0))

-- the whole order: within its array, in range, and by its counts
module _ (of : State → Bool) (ts : List Token) (array : List ℕ) (n : ℕ) (tokens : length ts ≡ 64) (long : length array ≡ 64) where
  pub order-long : 64 < n → false ≡ names_once of ts array n
  unfolding names_once ◌and◌
  order-long l = rw (tokens, long, lt-not-leb n 64 l)

  pub order-wild : n ≤ 64 → for_all (λ (p : ℕ). ltb p 64) (take n array) ≡ false → false ≡ names_once of ts array n
  unfolding names_once ◌and◌
  order-wild l e = rw (tokens, long, le-leb n 64 l, e)

  agree : (kind : ℕ) → ((s : State) → eqb (state_kind s) kind ≡ of s)
      → (counts : ℕ → ℕ) (j : ℕ) (us : List Token) → ((p : ℕ) → j ≤ p → p < j + length us → counts p ≡ occurrences p (take n array))
      → all_from (λ p (t : Token). eqb (counts p) (once (eqb (state_kind t.state) kind))) j us
      ≡ all_from (λ p (t : Token). eqb (occurrences p (take n array)) (once (of t.state))) j us
  unfolding all_from
  agree kind g counts j [] h = refl
  agree kind g counts j (t ∷ us) h =
      ap₂ ◌and◌ (ap₂ (λ k (b : Bool). eqb k (once b)) (h j (omega arith) (omega arith)) (g t.state))
      (agree kind g counts (suc j) us (λ p l m. h p (omega arith) (omega arith)))

  pub order-counted : (kind : ℕ) → ((s : State) → eqb (state_kind s) kind ≡ of s)
      → (counts : List ℕ) → n ≤ 64 → for_all (λ (p : ℕ). ltb p 64) (take n array) ≡ true
      → ((p : ℕ) → p < 64 → get_or counts p 0 ≡ occurrences p (take n array))
      → (all_from (named_as kind counts) 0 ts and for_all (eqb 0) (drop n array)) ≡ names_once of ts array n
  unfolding names_once ◌and◌
  order-counted kind g counts l e h =
      rw (tokens, long, le-leb n 64 l, e)
      (ap (λ b. b and for_all (eqb 0) (drop n array)) (agree kind g (λ p. get_or counts p 0) 0 ts (λ p z m. h p (omega arith))))

-- .. of any order of a record's words
module _ {ws : List ℕ} {m : Machine} (h : Codes ws m) (k : Which) (n : ℕ) (size : n ≡ count_of k m) where
  abbrev rule : ℕ → Bool
  rule i = names_once (in_state k) m.tokens (array_of k m) i

  pub too-many : 64 < n → rule (count_of k m) ≡ false
  too-many l = ap rule (sym size) ∙ sym (order-long (in_state k) m.tokens (array_of k m) n h.shaped.tokens (array-long h k) l)

  module _ {at : ℕ} (e : at ≡ first_at k) (l : n ≤ 64) (i : ℕ) (all : i ≡ n) where
    abbrev names : List ℕ
    names = take i (drop at ws)

    inside : at + 64 ≤ length ws
    inside = let a = arrays-fit k in omega (arith, words_long h)

    names-are : names ≡ take n (array_of k m)
    names-are = first-names ws (array_of k m) at (array-long h k) inside (name-read h k e) n l i all

    pub wild-name : for_all (λ (p : ℕ). ltb p 64) names ≡ false → rule (count_of k m) ≡ false
    wild-name f =
        ap rule (sym size)
        ∙ sym (order-wild (in_state k) m.tokens (array_of k m) n h.shaped.tokens (array-long h k) l
        (ap (for_all (λ (p : ℕ). ltb p 64)) (sym names-are) ∙ f))

    module _ (counts : List ℕ) (f : for_all (λ (p : ℕ). ltb p 64) names ≡ true)
        (g : (p : ℕ) → p < 64 → get_or counts p 0 ≡ occurrences p names)
        {zeros : Bool} (j : ℕ) (rest : j ≡ 64 - n) (z : zeros ≡ for_all (eqb 0) (take j (drop (at + n) ws))) where
      both-say : (all_from (named_as (state_of k) counts) 0 m.tokens and zeros) ≡ rule (count_of k m)
      both-say =
          ap (◌and◌ (all_from (named_as (state_of k) counts) 0 m.tokens))
          (z ∙ ap (for_all (eqb 0)) (rest-names ws (array_of k m) at (array-long h k) inside (name-read h k e) n l j rest))
          ∙ order-counted (in_state k) m.tokens (array_of k m) n h.shaped.tokens (array-long h k) (state_of k) (kind-is k) counts l
          (ap (for_all (λ (p : ℕ). ltb p 64)) (sym names-are) ∙ f)
          (λ p b. g p b ∙ ap (occurrences p) names-are)
          ∙ ap rule size

      pub something-behind : zeros ≡ false → rule (count_of k m) ≡ false
      something-behind b = sym both-say ∙ ap (◌and◌ _) b ∙ and-false _

      pub counts-say : zeros ≡ true → all_from (named_as (state_of k) counts) 0 m.tokens ≡ rule (count_of k m)
      counts-say b = sym (and-true _) ∙ ap (◌and◌ _) (sym b) ∙ both-say
