-- Rows of one width, one behind the other: what is read and written in one of them. By induction over the rows: one row of so many words is
-- taken away with each. Assumes nothing.
use mathlib.Core.Path.{◌≡◌, sym, ap, ap₂, ◌∙◌}
use mathlib.Core.List.{List, [], ◌∷◌, ◌++◌, append_assoc}
use Prim.Native.Nat.{ℕ, zero, suc, ◌+◌, ◌-◌, ◌*◌, ◌<◌}
use native.Mathlib.Omega.{arith}
use native.Mathlib.Nat.{mul-zero, mul-suc}
use lib.ListN.{length, get_or, set, take, drop, length-append, length-set, get_or-append}
use lib.Seq.{take_all, drop_at, get_or-append-add, set-append_left, take-append-add, drop-append-add}
use Rattle.record.specs.Layout.{table_words}

pub set-append-add : {A : Type 0} (xs ys : List A) (i : ℕ) (a : A) → set (xs ++ ys) (length xs + i) a ≡ xs ++ set ys i a
set-append-add [] ys i a = ap (λ k. set ys k a) (omega arith)
set-append-add (x ∷ xs) ys i a =
    let e : suc (length xs) + i ≡ suc (length xs + i) = omega arith in
    ap (λ k. set (x ∷ (xs ++ ys)) k a) e ∙ ap (◌∷◌ x) (set-append-add xs ys i a)

-- the same with the front's length under a name
module _ {A : Type 0} (xs ys : List A) (n : ℕ) (long : length xs ≡ n) (i : ℕ) where
  pub get-behind : (d : A) → get_or (xs ++ ys) (n + i) d ≡ get_or ys i d
  get-behind d = ap (λ k. get_or (xs ++ ys) (k + i) d) (sym long) ∙ get_or-append-add xs ys i d

  pub set-behind : (a : A) → set (xs ++ ys) (n + i) a ≡ xs ++ set ys i a
  set-behind a = ap (λ k. set (xs ++ ys) (k + i) a) (sym long) ∙ set-append-add xs ys i a

  pub drop-behind : drop (n + i) (xs ++ ys) ≡ drop i ys
  drop-behind = ap (λ k. drop (k + i) (xs ++ ys)) (sym long) ∙ drop-append-add xs ys i

  pub take_behind : take (n + i) (xs ++ ys) ≡ xs ++ take i ys
  take_behind = ap (λ k. take (k + i) (xs ++ ys)) (sym long) ∙ take-append-add xs ys i

module _ {A : Type 0} (f : A → List ℕ) (w : ℕ) (wide : (x : A) → length (f x) ≡ w) where
  start : (j : ℕ) → w * 0 + j ≡ j
  start j = let e = mul-zero w in omega (arith, e)

  next : (p j : ℕ) → w * suc p + j ≡ w + (w * p + j)
  next p j = let e = mul-suc w p in omega (arith, e)

  pub rows-length : (xs : List A) → length (table_words f xs) ≡ w * length xs
  unfolding table_words
  rows-length [] = sym (mul-zero w)
  rows-length (x ∷ xs) =
      let e = length-append (f x) (table_words f xs) in
      let r = rows-length xs in
      let m = mul-suc w (length xs) in
      let h = wide x in
      omega (arith, e, r, m, h)

  pub rows_get : (d : A) (xs : List A) (p j : ℕ) → p < length xs → j < w → get_or (table_words f xs) (w * p + j) 0 ≡ get_or (f (get_or xs
      p d)) j 0
  unfolding table_words
  rows_get d [] p j l h = absurd (omega arith)
  rows_get d (x ∷ xs) zero j l h =
      ap (λ k. get_or (f x ++ table_words f xs) k 0) (start j) ∙ get_or-append (f x) (table_words f xs) 0 j (omega (arith, wide x))
  rows_get d (x ∷ xs) (suc p) j l h =
      ap (λ k. get_or (f x ++ table_words f xs) k 0) (next p j)
      ∙ get-behind (f x) (table_words f xs) w (wide x) (w * p + j) 0
      ∙ rows_get d xs p j (omega arith) h

  -- a word of a row is written
  pub rows-set :
      (d : A) (xs : List A) (p j v : ℕ) (y : A)
      → p < length xs
      → j < w
      → set (f (get_or xs p d)) j v ≡ f y
      → set (table_words f xs) (w * p + j) v ≡ table_words f (set xs p y)
  unfolding table_words
  rows-set d [] p j v y l h e = absurd (omega arith)
  rows-set d (x ∷ xs) zero j v y l h e =
      ap (λ k. set (f x ++ table_words f xs) k v) (start j)
      ∙ set-append_left (f x) (table_words f xs) j v (omega (arith, wide x))
      ∙ ap (λ r. r ++ table_words f xs) e
  rows-set d (x ∷ xs) (suc p) j v y l h e =
      ap (λ k. set (f x ++ table_words f xs) k v) (next p j)
      ∙ set-behind (f x) (table_words f xs) w (wide x) (w * p + j) v
      ∙ ap (λ r. f x ++ r) (rows-set d xs p j v y (omega arith) h e)

  -- a whole row is written
  pub rows-paste :
      (xs : List A) (p : ℕ) (y : A) → p < length xs
      → (take (w * p) (table_words f xs) ++ take w (f y)) ++ drop (w * p + w) (table_words f xs) ≡ table_words f (set xs p y)
  unfolding table_words
  rows-paste [] p y l = absurd (omega arith)
  rows-paste (x ∷ xs) zero y l =
      let z : w * 0 ≡ 0 = mul-zero w in
      let o : w * 0 + w ≡ w = start w in
      ap₂ (λ a b. (take a (f x ++ table_words f xs) ++ take w (f y)) ++ drop b (f x ++ table_words f xs)) z o
      ∙ ap₂ (λ a b. a ++ b) (take_all w (f y) (omega (arith, wide y))) (drop_at (f x) (table_words f xs) w (wide x))
  rows-paste (x ∷ xs) (suc p) y l =
      let a : w * suc p ≡ w + w * p = omega (arith, mul-suc w p) in
      let b : w * suc p + w ≡ w + (w * p + w) = next p w in
      ap₂ (λ a b. (take a (f x ++ table_words f xs) ++ take w (f y)) ++ drop b (f x ++ table_words f xs)) a b
      ∙ ap₂ (λ a b. (a ++ take w (f y)) ++ b) (take_behind (f x) (table_words f xs) w (wide x) (w * p))
      (drop-behind (f x) (table_words f xs) w (wide x) (w * p + w))
      ∙ ap (λ r. r ++ drop (w * p + w) (table_words f xs)) (append_assoc (f x) (take (w * p) (table_words f xs)) (take w (f y)))
      ∙ append_assoc (f x) (take (w * p) (table_words f xs) ++ take w (f y)) (drop (w * p + w) (table_words f xs))
      ∙ ap (λ r. f x ++ r) (rows-paste xs p y (omega arith))

  -- two words of a row are written
  pub rows-set2 :
      (d : A) (xs : List A) (p j k u v : ℕ) (y : A)
      → p < length xs
      → j < w
      → k < w
      → set (set (f (get_or xs p d)) j u) k v ≡ f y
      → set (set (table_words f xs) (w * p + j) u) (w * p + k) v ≡ table_words f (set xs p y)
  unfolding table_words
  rows-set2 d [] p j k u v y l h i e = absurd (omega arith)
  rows-set2 d (x ∷ xs) zero j k u v y l h i e =
      ap₂ (λ a b. set (set (f x ++ table_words f xs) a u) b v) (start j) (start k)
      ∙ ap (λ r. set r k v) (set-append_left (f x) (table_words f xs) j u (omega (arith, wide x)))
      ∙ set-append_left (set (f x) j u) (table_words f xs) k v (omega (arith, wide x, length-set (f x) j u))
      ∙ ap (λ r. r ++ table_words f xs) e
  rows-set2 d (x ∷ xs) (suc p) j k u v y l h i e =
      ap₂ (λ a b. set (set (f x ++ table_words f xs) a u) b v) (next p j) (next p k)
      ∙ ap (λ r. set r (w + (w * p + k)) v) (set-behind (f x) (table_words f xs) w (wide x) (w * p + j) u)
      ∙ set-behind (f x) (set (table_words f xs) (w * p + j) u) w (wide x) (w * p + k) v
      ∙ ap (λ r. f x ++ r) (rows-set2 d xs p j k u v y (omega arith) h i e)
