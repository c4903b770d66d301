-- A property of each element, over the parts of a list and over joined lists. By induction over the list. Assumes nothing.
use mathlib.Core.Path.{sym, subst}
use mathlib.Core.List.{List, ◌++◌, map, Memᴰ}
use Prim.Native.Nat.{ℕ, zero, suc, ◌<◌}
use native.Mathlib.Omega.{arith}
use lib.ListN.{length, get_or, take, drop}
use Rattle.job.specs.Test.{All, none, more}

module _ {A : Type 0} {P : A → Type 0} where
  pub All-append : {xs ys : List A} → All P xs → All P ys → All P (xs ++ ys)
  All-append none bs = bs
  All-append (more a rest) bs = more a (All-append rest bs)

  pub All-take : (n : ℕ) {xs : List A} → All P xs → All P (take n xs)
  All-take zero all = none
  All-take (suc n) none = none
  All-take (suc n) (more a rest) = more a (All-take n rest)

  pub All-drop : (n : ℕ) {xs : List A} → All P xs → All P (drop n xs)
  All-drop zero all = all
  All-drop (suc n) none = none
  All-drop (suc n) (more a rest) = All-drop n rest

  pub All-member : {x : A} {xs : List A} → All P xs → Memᴰ x xs → P x
  All-member (more p ps) (Memᴰ.head e) = subst P (sym e) p
  All-member (more p ps) (Memᴰ.tail m) = All-member ps m
  All-member none m = elim m [ ]

  pub All-at : {xs : List A} → All P xs → (i : ℕ) (d : A) → i < length xs → P (get_or xs i d)
  All-at none i d l = absurd (omega arith)
  All-at (more p ps) zero d l = p
  All-at (more p ps) (suc i) d l = All-at ps i d (omega arith)

pub All-image : {A B : Type 0} {P : B → Type 0} (f : A → B) {xs : List A} → All (λ x. P (f x)) xs → All P (map f xs)
All-image f none = none
All-image f (more p ps) = more p (All-image f ps)
