-- An order that keeps the marked ones of its names: a pass over the array takes each name out and puts it behind those kept so far if it is
-- marked, so that the array is always the kept names, zeros, and the names not yet seen. Assumes nothing.
use mathlib.Core.Path.{◌≡◌, refl, sym, ap, ap₂, ◌∙◌}
use mathlib.Core.Bool.{Bool, true, false}
use mathlib.Core.List.{List, [], ◌∷◌, ◌++◌, append_assoc, append-nil}
use Prim.Native.Nat.{ℕ, zero, suc, ◌+◌, ◌-◌, ◌<◌, ◌≤◌}
use native.Mathlib.Numerals.{add-one}
use native.Mathlib.Omega.{arith}
use lib.ListN.{length, get_or, set, take, drop, replicate, length-append, length-set}
use Rattle.std.proofs.lemmas.List.{take_all, drop_all}
use lib.Seq.{take-suc, drop-cons, length-take-le, get_or_at, set_at, set-append_left}
use Rattle.job.specs.Test.{select, padded}
use Rattle.orders.specs.NamesRetained.{marked_of, Retained}
use Rattle.orders.proofs.NamesPadded.{put-behind}
use Rattle.orders.proofs.NamesPadded.{padded-long}

-- a filter takes the elements one by one
module _ {A : Type 0} (f : A → Bool) where
  pub select-append : (xs ys : List A) → select f (xs ++ ys) ≡ select f xs ++ select f ys
  unfolding select
  select-append [] ys = refl
  select-append (x ∷ xs) ys = go (f x) (select-append xs ys)
    where
      go :
          (b : Bool)
          → select f (xs ++ ys) ≡ select f xs ++ select f ys
          → elim b [ true ↦ x ∷ select f (xs ++ ys) | false ↦ select f (xs ++ ys) ]
          ≡ elim b [ true ↦ x ∷ select f xs | false ↦ select f xs ] ++ select f ys
      go true e = ap (◌∷◌ x) e
      go false e = e

  pub select_short : (xs : List A) → length (select f xs) ≤ length xs
  unfolding select
  select_short [] = omega arith
  select_short (x ∷ xs) = go (f x) (select_short xs)
    where
      go : (b : Bool) → length (select f xs) ≤ length xs
          → length {A = A} (elim b [ true ↦ x ∷ select f xs | false ↦ select f xs ]) ≤ suc (length xs)
      go true l = omega arith
      go false l = omega arith

  pub select-one : (x : A) (b : Bool) → f x ≡ b → select f (x ∷ []) ≡ elim b [ true ↦ x ∷ [] | false ↦ [] ]
  unfolding select
  select-one x b e = rw (e, select)

  -- one element more
  pub filter-keeps : (xs : List A) (i : ℕ) (d : A) → i < length xs → f (get_or xs i d) ≡ true
      → select f (take (i + 1) xs) ≡ select f (take i xs) ++ (get_or xs i d ∷ [])
  filter-keeps xs i d l e =
      ap (λ n. select f (take n xs)) (add-one i)
      ∙ ap (select f) (take-suc xs i d l)
      ∙ select-append (take i xs) (get_or xs i d ∷ [])
      ∙ ap (◌++◌ (select f (take i xs))) (select-one (get_or xs i d) true e)

  pub filter-drops : (xs : List A) (i : ℕ) (d : A) → i < length xs → f (get_or xs i d) ≡ false
      → select f (take (i + 1) xs) ≡ select f (take i xs)
  filter-drops xs i d l e =
      ap (λ n. select f (take n xs)) (add-one i)
      ∙ ap (select f) (take-suc xs i d l)
      ∙ select-append (take i xs) (get_or xs i d ∷ [])
      ∙ ap (◌++◌ (select f (take i xs))) (select-one (get_or xs i d) false e)
      ∙ append-nil (select f (take i xs))

pub select-same : {A : Type 0} (f g : A → Bool) (xs : List A) → ((x : A) → f x ≡ g x) → select f xs ≡ select g xs
unfolding select
select-same f g [] e = refl
select-same {A} f g (x ∷ xs) e = ap₂ (λ (b : Bool) (ys : List A). elim b as (λ b. List A) [ true ↦ x ∷ ys | false ↦ ys ]) (e x)
    (select-same f g xs e)

zero-behind : (n : ℕ) (rest : List ℕ) → replicate n 0 ++ (0 ∷ rest) ≡ 0 ∷ (replicate n 0 ++ rest)
zero-behind zero rest = refl
zero-behind (suc n) rest = ap (◌∷◌ 0) (zero-behind n rest)

module _ (names : List ℕ) (marks : List Bool) where
  abbrev pub front : ℕ → List ℕ
  front i = marked_of marks (take i names)

  -- the array after so many turns
  abbrev pub turned : ℕ → List ℕ
  turned i = padded 0 i (front i) ++ drop i names

  pub front-short : (i : ℕ) → i ≤ length names → length (front i) ≤ i
  front-short i l =
      let a = select_short (λ (p : ℕ). get_or marks p false) (take i names) in let b = length-take-le i names l in omega arith

  module _ (i : ℕ) (l : i < length names) where
    kept : List ℕ
    kept = padded 0 i (front i)

    kept-long : length kept ≡ i
    unfolding kept
    kept-long = padded-long (front i) i (front-short i (omega arith))

    split : turned i ≡ kept ++ (get_or names i 0 ∷ drop (suc i) names)
    unfolding kept
    split = ap (◌++◌ (padded 0 i (front i))) (drop-cons names i 0 l)

    pub turn-name : get_or (turned i) i 0 ≡ get_or names i 0
    turn-name = ap (λ r. get_or r i 0) split ∙ get_or_at kept (get_or names i 0) (drop (suc i) names) 0 i kept-long

    zero_more : (rest : List ℕ) → kept ++ (0 ∷ rest) ≡ padded 0 (i + 1) (front i) ++ rest
    unfolding padded kept
    zero_more rest =
        let short = front-short i (omega arith) in
        let more : suc (i - length (front i)) ≡ i + 1 - length (front i) = omega arith in
        append_assoc (front i) (replicate (i - length (front i)) 0) (0 ∷ rest)
        ∙ ap (◌++◌ (front i)) (zero-behind (i - length (front i)) rest ∙ ap (λ n. replicate n 0 ++ rest) more)
        ∙ sym (append_assoc (front i) (replicate (i + 1 - length (front i)) 0) rest)

    cleared : set (turned i) i 0 ≡ padded 0 (i + 1) (front i) ++ drop (i + 1) names
    cleared =
        ap (λ r. set r i 0) split
        ∙ set_at kept (get_or names i 0) (drop (suc i) names) 0 i kept-long
        ∙ zero_more (drop (suc i) names)
        ∙ ap (λ n. padded 0 (i + 1) (front i) ++ drop n names) (sym (add-one i))

    pub turn-drops : get_or marks (get_or names i 0) false ≡ false → set (turned i) i 0 ≡ turned (i + 1)
    turn-drops e = cleared ∙ ap (λ xs. padded 0 (i + 1) xs ++ drop (i + 1) names)
        (sym (filter-drops (λ (p : ℕ). get_or marks p false) names i 0 l e))

    pub turn-keeps : (n : ℕ) → n ≡ length (front i) → get_or marks (get_or names i 0) false ≡ true
        → set (set (turned i) i 0) n (get_or names i 0) ≡ turned (i + 1)
    turn-keeps n s e =
        let short = front-short i (omega arith) in
        let long = padded-long (front i) (i + 1) (omega arith) in
        ap₂ (λ r k. set r k (get_or names i 0)) cleared s
        ∙ set-append_left (padded 0 (i + 1) (front i)) (drop (i + 1) names) (length (front i)) (get_or names i 0) (omega arith)
        ∙ ap (λ xs. xs ++ drop (i + 1) names) (put-behind (front i) (i + 1) (get_or names i 0) (omega arith))
        ∙ ap (λ xs. padded 0 (i + 1) xs ++ drop (i + 1) names) (sym (filter-keeps (λ (p : ℕ). get_or marks p false) names i 0 l e))

    pub count-drops : (n : ℕ) → n ≡ length (front i) → get_or marks (get_or names i 0) false ≡ false → n ≡ length (front (i + 1))
    count-drops n s e = s ∙ ap length (sym (filter-drops (λ (p : ℕ). get_or marks p false) names i 0 l e))

    pub count-keeps : (n : ℕ) → n ≡ length (front i) → get_or marks (get_or names i 0) false ≡ true → n + 1 ≡ length (front (i + 1))
    count-keeps n s e =
        let a = length-append (front i) (get_or names i 0 ∷ []) in
        let b : length (front (i + 1)) ≡ length (front i ++ (get_or names i 0 ∷ [])) =
        ap length (filter-keeps (λ (p : ℕ). get_or marks p false) names i 0 l e) in
        omega arith

-- where the pass is after i turns, and a turn more
pub record TurnLeaves (names : List ℕ) (marks : List Bool) (i : ℕ) (after : List ℕ) (n : ℕ) : Type 0 where
  pub few : n ≤ i
  pub size : length after ≡ length names
  pub number : n ≡ length (front names marks i)
  pub array : after ≡ turned names marks i

pub turned-first : (names : List ℕ) (marks : List Bool) → TurnLeaves names marks 0 names 0
unfolding select padded
turned-first names marks = record { few = omega arith; size = refl; number = refl; array = refl }

module _ {names after : List ℕ} {i n : ℕ} {marks : List Bool} (t : TurnLeaves names marks i after n) where
  module _ (b : Bool) (l : i < length names) (e : b ≡ get_or marks (get_or after i 0) false) where
    name : get_or after i 0 ≡ get_or names i 0
    name = ap (λ r. get_or r i 0) t.array ∙ turn-name names marks i l

    mark : get_or marks (get_or names i 0) false ≡ b
    mark = ap (λ p. get_or marks p false) (sym name) ∙ sym e

    pub turned-drops : (xs : List ℕ) (k : ℕ) → b ≡ false → xs ≡ set after i 0 → k ≡ n → TurnLeaves names marks (i + 1) xs k
    turned-drops xs k f ex ek =
        record {
          few = omega (arith, t.few);
          size = ap length ex ∙ length-set after i 0 ∙ t.size;
          number = count-drops names marks i l k (ek ∙ t.number) (mark ∙ f);
          array = ex ∙ ap (λ r. set r i 0) t.array ∙ turn-drops names marks i l (mark ∙ f);
        }

    pub turned-keeps : (xs : List ℕ) (k : ℕ) → b ≡ true → xs ≡ set (set after i 0) n (get_or after i 0) → k ≡ n + 1
        → TurnLeaves names marks (i + 1) xs k
    turned-keeps xs k f ex ek =
        record {
          few = omega (arith, t.few);
          size = ap length ex ∙ length-set (set after i 0) n (get_or after i 0) ∙ length-set after i 0 ∙ t.size;
          number = ek ∙ count-keeps names marks i l n t.number (mark ∙ f);
          array = ex ∙ ap₂ (λ r p. set (set r i 0) n p) t.array name ∙ turn-keeps names marks i l n t.number (mark ∙ f);
        }

  -- all names are seen
  pub retained-all : i ≡ length names → Retained names marks after n
  retained-all all =
      let whole : take i names ≡ names = take_all i names (omega arith) in
      let rest : drop i names ≡ [] = drop_all i names (omega arith) in
      record {
        array = t.array
            ∙ ap₂ (λ xs ys. padded 0 i (marked_of marks xs) ++ ys) whole rest
            ∙ append-nil (padded 0 i (marked_of marks names))
            ∙ ap (λ k. padded 0 k (marked_of marks names)) all;
        few = omega (arith, t.few);
        number = t.number ∙ ap (λ xs. length (marked_of marks xs)) whole;
      }
