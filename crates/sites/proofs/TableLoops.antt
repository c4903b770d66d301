-- Reading and writing tables: within a table the default is never read, and a loop that writes f of each element comes to `map f`; so does
-- one that writes f of each token of a record. Assumes nothing.
use mathlib.Core.Path.{◌≡◌, refl, sym, ap, ap₂, ◌∙◌}
use mathlib.Core.List.{List, [], ◌∷◌, ◌++◌, map, append-nil, map-append}
use Prim.Native.Nat.{ℕ, suc, ◌+◌, ◌<◌, ◌≤◌}
use native.Mathlib.Numerals.{add-one}
use native.Mathlib.Omega.{arith}
use lib.ListN.{length, get_or, set, take, drop, length-map, drop_of_length-le}
use lib.Seq.{take-suc, drop-cons, set_at, get_or_at, append_snoc, length-take-le, take_all}
use Rattle.model.specs.Machine.Blank.{blank_token, token_at}
use Rattle.model.specs.Machine.Update.{with_tables, put}
use Rattle.model.specs.declared.token.Token.{Token}
use Rattle.model.specs.declared.record.Machine.{Machine}
use Rattle.sites.specs.Rows.{rows_mapped}

-- a loop that has written f of the first i elements of a list over those of another
pub record Mapping {A B : Type 0} (f : A → B) (xs : List A) (old : List B) (i : ℕ) (out : List B) : Type 0 where
  pub so_far : out ≡ map f (take i xs) ++ drop i old
  pub size : length old ≡ length xs

module _ {A B : Type 0} (f : A → B) (xs : List A) (old : List B) where
  front_long : (i : ℕ) → i ≤ length xs → length (map f (take i xs)) ≡ i
  front_long i l = length-map (take i xs) f ∙ length-take-le i xs l

  pub mapping-none : length old ≡ length xs → Mapping f xs old 0 old
  mapping-none s = record { so_far = refl; size = s }

  pub mapping-more :
      (i : ℕ) (out : List B) (v : B) (d : A)
      → Mapping f xs old i out
      → i < length xs
      → v ≡ f (get_or xs i d)
      → Mapping f xs old (i + 1) (set out i v)
  mapping-more i out v d o l e =
      let s : length old ≡ length xs = o.size in
      let front = map f (take i xs) in
      let one : suc i ≡ i + 1 = sym (add-one i) in
      let more : map f (take (suc i) xs) ≡ front ++ (v ∷ []) =
      ap (map f) (take-suc xs i d l) ∙ map-append f (take i xs) (get_or xs i d ∷ []) ∙ ap (λ x. front ++ (x ∷ [])) (sym e) in
      let put : set out i v ≡ front ++ v ∷ drop (suc i) old =
      ap (λ ys. set ys i v) (o.so_far ∙ ap (◌++◌ front) (drop-cons old i (get_or old i v) (omega arith)))
      ∙ set_at front _ (drop (suc i) old) v i (front_long i (omega arith)) in
      record {
        so_far =
            put ∙ sym (append_snoc front v (drop (suc i) old)) ∙ ap (λ ys. ys ++ drop (suc i) old) (sym more)
            ∙ ap (λ n. map f (take n xs) ++ drop n old) one;
        size = s;
      }

  pub mapping-end : (i : ℕ) (out : List B) → Mapping f xs old i out → length xs ≤ i → out ≡ map f xs
  mapping-end i out o l =
      let s : length old ≡ length xs = o.size in
      o.so_far
      ∙ ap₂ (λ ys zs. map f ys ++ zs) (take_all i xs l) (drop_of_length-le old {i = i} (omega arith))
      ∙ append-nil (map f xs)

-- written in place, what stands at i is still as it was
pub mapping-at :
    {A : Type 0} (f : A → A) (xs : List A) (i : ℕ) (out : List A) (d : A)
    → Mapping f xs xs i out
    → i < length xs
    → get_or out i d ≡ get_or xs i d
mapping-at f xs i out d o l =
    ap (λ ys. get_or ys i d) (o.so_far ∙ ap (◌++◌ (map f (take i xs))) (drop-cons xs i d l))
    ∙ get_or_at (map f (take i xs)) (get_or xs i d) (drop (suc i) xs) d i (front_long f xs xs i (omega arith))

-- the rows of a record's tokens, one more at each turn
module _ (f : Token → Token) (m : Machine) where
  abbrev rows : ℕ → List Token
  rows p = map f (take p m.tokens) ++ drop p m.tokens

  so-far-rows : (p : ℕ) → Mapping f m.tokens m.tokens p (rows p)
  so-far-rows p = record { so_far = refl; size = refl }

  pub rows_none : rows_mapped f 0 m ≡ m
  unfolding with_tables
  rows_none = refl

  pub rows_more : (p : ℕ) → p < length m.tokens
      → put p (f (token_at (rows_mapped f p m).tokens p)) (rows_mapped f p m) ≡ rows_mapped f (p + 1) m
  unfolding with_tables put token_at
  rows_more p l =
      let same : get_or (rows p) p blank_token ≡ get_or m.tokens p blank_token =
      mapping-at f m.tokens p (rows p) blank_token (so-far-rows p) l in
      ap (λ ts. with_tables ts m.cells m)
      (mapping-more f m.tokens m.tokens p (rows p) (f (get_or (rows p) p blank_token)) blank_token (so-far-rows p) l (ap f same)).so_far

  pub rows_all : (p : ℕ) → length m.tokens ≤ p → rows p ≡ map f m.tokens
  rows_all p l = mapping-end f m.tokens m.tokens p (rows p) (so-far-rows p) l
