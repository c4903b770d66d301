-- Splits and shuffles of lists: an element of a shuffle comes from one of the two lists, and whatever is put in its place keeps the
-- shuffle. By recursion on the shuffle. Assumes nothing.
use mathlib.Core.Path.{◌≡◌, refl, ap}
use mathlib.Core.Bool.{Bool, true, false}
use mathlib.Core.List.{List, [], ◌∷◌, ◌++◌, map}
use Rattle.job.specs.Test.{select, All, none, more}

-- the list is L, then x, then R
pub data Split {A : Type 0} (x : A) : List A → List A → List A → Type 0 where
  first : {R : List A} → Split x (x ∷ R) [] R
  later : {y : A} {S L R : List A} → Split x S L R → Split x (y ∷ S) (y ∷ L) R

-- the third list is the first two, shuffled
pub data Mix {A : Type 0} : List A → List A → List A → Type 0 where
  empty : Mix [] [] []
  left : {x : A} {S T Q : List A} → Mix S T Q → Mix (x ∷ S) T (x ∷ Q)
  right : {x : A} {S T Q : List A} → Mix S T Q → Mix S (x ∷ T) (x ∷ Q)

-- L₁ and R₁, with anything between them, shuffled with Z are L and R, with the same between them
pub record Gap {A : Type 0} (L₁ R₁ Z L R : List A) : Type 0 where
  pub filled : (N : List A) → Mix (L₁ ++ (N ++ R₁)) Z (L ++ (N ++ R))

module _ {A : Type 0} where
  pub mix-swap : {S T Q : List A} → Mix S T Q → Mix T S Q
  mix-swap empty = empty
  mix-swap (left m) = right (mix-swap m)
  mix-swap (right m) = left (mix-swap m)

  mix-behind : {S T Q : List A} (N : List A) → Mix S T Q → Mix (N ++ S) T (N ++ Q)
  mix-behind [] m = m
  mix-behind (x ∷ N) m = left (mix-behind N m)

  pub mix-nothing : (S : List A) → Mix S [] S
  mix-nothing [] = empty
  mix-nothing (x ∷ S) = left (mix-nothing S)

  pub pair : {x y : A} → Mix (x ∷ []) (y ∷ []) (x ∷ y ∷ [])
  pair = left (right empty)

  pub mix-unit : {S Q : List A} → Mix S [] Q → S ≡ Q
  mix-unit empty = refl
  mix-unit (left {x = x} m) = ap (◌∷◌ x) (mix-unit m)

  -- N put into the middle
  pub mix-middle : (L N R : List A) → Mix (L ++ R) N (L ++ (N ++ R))
  mix-middle [] [] R = mix-nothing R
  mix-middle [] (x ∷ N) R = right (mix-middle [] N R)
  mix-middle (x ∷ L) N R = left (mix-middle L N R)

  mix-if : {S T Q : List A} (b : Bool) (x : A) → Mix S T Q
      → Mix (elim b [ true ↦ x ∷ S | false ↦ S ]) T (elim b [ true ↦ x ∷ Q | false ↦ Q ])
  mix-if true x m = left m
  mix-if false x m = m

  pub mix-filter : (p : A → Bool) {S T Q : List A} → Mix S T Q → Mix (select p S) (select p T) (select p Q)
  unfolding select
  mix-filter p empty = empty
  mix-filter p (left {x = x} m) = mix-if (p x) x (mix-filter p m)
  mix-filter p (right {x = x} m) = mix-swap (mix-if (p x) x (mix-swap (mix-filter p m)))

  pub mix_all : {P : A → Type 0} {S T Q : List A} → Mix S T Q → All P S → All P T → All P Q
  mix_all empty a b = none
  mix_all (left m) (more p a) b = more p (mix_all m a b)
  mix_all (right m) a (more p b) = more p (mix_all m a b)

  pub mix-map : {B : Type 0} (f : A → B) {S T Q : List A} → Mix S T Q → Mix (map f S) (map f T) (map f Q)
  mix-map f empty = empty
  mix-map f (left m) = left (mix-map f m)
  mix-map f (right m) = right (mix-map f m)

  pub split-none : {x : A} {L R : List A} {B : Type 0} → Split x [] L R → B
  split-none s = elim s [ ]

  -- nothing else is there
  pub gap-alone : {L R : List A} → Gap L R [] L R
  gap-alone {L} {R} = record { filled = λ N. mix-nothing (L ++ (N ++ R)) }

  gap_here : {S T Q : List A} → Mix S T Q → Gap [] S T [] Q
  gap_here m = record { filled = λ N. mix-behind N m }

  gap-left : {x : A} {L₁ R₁ Z L R : List A} → Gap L₁ R₁ Z L R → Gap (x ∷ L₁) R₁ Z (x ∷ L) R
  gap-left g = record { filled = λ N. left (g.filled N) }

  gap-right : {x : A} {L₁ R₁ Z L R : List A} → Gap L₁ R₁ Z L R → Gap L₁ R₁ (x ∷ Z) (x ∷ L) R
  gap-right g = record { filled = λ N. right (g.filled N) }

-- x of a shuffle is in the one list or in the other
pub data Found {A : Type 0} (x : A) (S T L R : List A) : Type 0 where
  in_left : {L₁ R₁ : List A} → Split x S L₁ R₁ → Gap L₁ R₁ T L R → Found x S T L R
  in_right : {L₁ R₁ : List A} → Split x T L₁ R₁ → Gap L₁ R₁ S L R → Found x S T L R

pub either_side : {A B : Type 0} {x : A} {S T L R : List A}
    → ((L₁ R₁ : List A) → Split x S L₁ R₁ → Gap L₁ R₁ T L R → B)
    → ((L₁ R₁ : List A) → Split x T L₁ R₁ → Gap L₁ R₁ S L R → B)
    → Found x S T L R → B
either_side f g (in_left s gap) = f _ _ s gap
either_side f g (in_right s gap) = g _ _ s gap

-- x of a list is in its shuffle Q with Z
pub data Kept {A : Type 0} (x : A) (L₁ R₁ Z Q : List A) : Type 0 where
  kept : {L R : List A} → Split x Q L R → Gap L₁ R₁ Z L R → Kept x L₁ R₁ Z Q

module _ {A : Type 0} where
  found_left : {x y : A} {S T L R : List A} → Found x S T L R → Found x (y ∷ S) T (y ∷ L) R
  found_left (in_left s g) = in_left (later s) (gap-left g)
  found_left (in_right s g) = in_right s (gap-right g)

  found_right : {x y : A} {S T L R : List A} → Found x S T L R → Found x S (y ∷ T) (y ∷ L) R
  found_right (in_left s g) = in_left s (gap-right g)
  found_right (in_right s g) = in_right (later s) (gap-left g)

  pub found : {x : A} {S T Q L R : List A} → Mix S T Q → Split x Q L R → Found x S T L R
  found (left m) first = in_left first (gap_here m)
  found (left m) (later s) = found_left (found m s)
  found (right m) first = in_right first (gap_here (mix-swap m))
  found (right m) (later s) = found_right (found m s)
  found empty s = elim s [ ]

  kept-left : {x y : A} {L₁ R₁ Z Q : List A} → Kept x L₁ R₁ Z Q → Kept x (y ∷ L₁) R₁ Z (y ∷ Q)
  kept-left (kept s g) = kept (later s) (gap-left g)

  kept-right : {x y : A} {L₁ R₁ Z Q : List A} → Kept x L₁ R₁ Z Q → Kept x L₁ R₁ (y ∷ Z) (y ∷ Q)
  kept-right (kept s g) = kept (later s) (gap-right g)

  pub keeps : {x : A} {S L₁ R₁ Z Q : List A} → Split x S L₁ R₁ → Mix S Z Q → Kept x L₁ R₁ Z Q
  keeps first (left m) = kept first (gap_here m)
  keeps (later s) (left m) = kept-left (keeps s m)
  keeps s (right m) = kept-right (keeps s m)
  keeps s empty = elim s [ ]
