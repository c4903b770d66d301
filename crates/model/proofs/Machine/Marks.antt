-- Marks are a Bool for each place; a place out of range counts as marked. Marking a place marks it, keeps the others and adds one at most
-- to the count, so a list of marks inside another has no more of them; marks that agree at each place are equal. Each is an induction over
-- the list. Assumes nothing.
use mathlib.Core.Path.{◌≡◌, refl, sym, ◌∙◌, ap, subst}
use mathlib.Core.Logic.{◌⊎◌, inl, inr}
use mathlib.Core.Bool.{Bool, true, false}
use mathlib.Core.List.{List, [], ◌∷◌}
use Prim.Native.Nat.{ℕ, zero, suc, ◌<◌, ◌≤◌}
use native.Mathlib.Decide.{ℕ_discrete}
use native.Mathlib.Omega.{arith}
use lib.ListN.{length, get_or, set, replicate, length-set, get_or-eq_default}
use lib.Seq.{get_or-set_same, get_or-set_other, ext_get_or}
use Rattle.model.specs.Machine.InUse.{marked}
use Rattle.job.proofs.Test.{clash, false_of}
use Rattle.job.proofs.Lists.{same-when}

abbrev pub Marked : List Bool → ℕ → Type 0
Marked marks i = get_or marks i true ≡ true

abbrev pub Free : List Bool → ℕ → Type 0
Free marks i = get_or marks i true ≡ false

pub marked-outside : (marks : List Bool) (i : ℕ) → length marks ≤ i → Marked marks i
marked-outside marks i l = get_or-eq_default marks true l

pub free-inside : (marks : List Bool) (i : ℕ) → Free marks i → i < length marks
free-inside [] i e = clash refl e
free-inside (b ∷ marks) zero e = omega arith
free-inside (b ∷ marks) (suc i) e = let z = free-inside marks i e in omega arith

-- in a list without marks only what is out of range counts as marked
pub marked-none : (n i : ℕ) → Marked (replicate n false) i → n ≤ i
marked-none zero i m = omega arith
marked-none (suc n) zero m = clash m refl
marked-none (suc n) (suc i) m = let z = marked-none n i m in omega arith

-- marking
pub mark-same : (marks : List Bool) (i : ℕ) → Marked (set marks i true) i
mark-same [] i = refl
mark-same (b ∷ marks) zero = refl
mark-same (b ∷ marks) (suc i) = mark-same marks i

pub mark-mono : (marks : List Bool) (i j : ℕ) → Marked marks j → Marked (set marks i true) j
mark-mono marks i j h = go (ℕ_discrete j i)
  where
    go : Dec (j ≡ i) → Marked (set marks i true) j
    go (yes e) = rw e (mark-same marks i)
    go (no n) = get_or-set_other marks i j true true n ∙ h

pub mark-inverse : (marks : List Bool) (i j : ℕ) → Marked (set marks i true) j → (j ≡ i) ⊎ Marked marks j
mark-inverse marks i j h = go (ℕ_discrete j i)
  where
    go : Dec (j ≡ i) → (j ≡ i) ⊎ Marked marks j
    go (yes e) = inl e
    go (no n) = inr (sym (get_or-set_other marks i j true true n) ∙ h)

-- the count
pub marked-le-length : (marks : List Bool) → marked marks ≤ length marks
unfolding marked
marked-le-length [] = omega arith
marked-le-length (true ∷ marks) = let z = marked-le-length marks in omega arith
marked-le-length (false ∷ marks) = let z = marked-le-length marks in omega arith

pub marked_all : (marks : List Bool) → length marks ≤ marked marks → (i : ℕ) → Marked marks i
unfolding marked
marked_all [] l i = refl
marked_all (true ∷ marks) l zero = refl
marked_all (true ∷ marks) l (suc i) = marked_all marks (omega arith) i
marked_all (false ∷ marks) l i = let z = marked-le-length marks in absurd (omega arith)

pub some-free : (marks : List Bool) → marked marks < length marks → (i : ℕ) × Free marks i
unfolding marked
some-free [] l = absurd (omega arith)
some-free (true ∷ marks) l = let x = some-free marks (omega arith) in (suc x.0, x.1)
some-free (false ∷ marks) l = (0, refl)

-- marking a free place adds one; marking any place adds one at most
pub marked-set-free : (marks : List Bool) (i : ℕ) → Free marks i → marked (set marks i true) ≡ suc (marked marks)
unfolding marked
marked-set-free [] i e = clash refl e
marked-set-free (true ∷ marks) zero e = clash refl e
marked-set-free (false ∷ marks) zero e = refl
marked-set-free (true ∷ marks) (suc i) e = ap suc (marked-set-free marks i e)
marked-set-free (false ∷ marks) (suc i) e = marked-set-free marks i e

pub marked-set : (marks : List Bool) (i : ℕ) → marked (set marks i true) ≤ suc (marked marks)
unfolding marked
marked-set [] i = omega arith
marked-set (true ∷ marks) zero = omega arith
marked-set (false ∷ marks) zero = omega arith
marked-set (true ∷ marks) (suc i) = let z = marked-set marks i in omega arith
marked-set (false ∷ marks) (suc i) = let z = marked-set marks i in omega arith

-- marks inside other marks
pub marked-inside :
    (fewer more : List Bool)
    → length fewer ≡ length more
    → ((i : ℕ) → i < length fewer → Marked fewer i → Marked more i)
    → marked fewer ≤ marked more
unfolding marked
marked-inside [] more l h = omega arith
marked-inside (a ∷ fewer) [] l h = absurd (omega arith)
marked-inside (true ∷ fewer) (true ∷ more) l h =
    let z = marked-inside fewer more (omega arith) (λ i k m. h (suc i) (omega arith) m) in omega arith
marked-inside (true ∷ fewer) (false ∷ more) l h = clash (h 0 (omega arith) refl) refl
marked-inside (false ∷ fewer) (true ∷ more) l h =
    let z = marked-inside fewer more (omega arith) (λ i k m. h (suc i) (omega arith) m) in omega arith
marked-inside (false ∷ fewer) (false ∷ more) l h = marked-inside fewer more (omega arith) (λ i k m. h (suc i) (omega arith) m)

pub marked-inside-one :
    (fewer more : List Bool) (q : ℕ)
    → length fewer ≡ length more
    → ((i : ℕ) → i < length fewer → Marked fewer i → Marked more i ⊎ (i ≡ q))
    → marked fewer ≤ suc (marked more)
marked-inside-one fewer more q l h =
    let x = length-set more q true in
    let y = marked-inside fewer (set more q true) (omega arith) (λ i k m. go i (h i k m)) in
    let z = marked-set more q in
    omega arith
  where
    go : (i : ℕ) → Marked more i ⊎ (i ≡ q) → Marked (set more q true) i
    go i (inl m) = mark-mono more q i m
    go i (inr e) = subst (λ x. Marked (set more q true) x) (sym e) (mark-same more q)

-- none
pub marked-replicate : (n : ℕ) → marked (replicate n false) ≡ 0
unfolding marked
marked-replicate zero = refl
marked-replicate (suc n) = marked-replicate n

pub marked-no-place : (marks : List Bool) → ((i : ℕ) → i < length marks → Marked marks i → ⊥) → marked marks ≡ 0
unfolding marked
marked-no-place [] h = refl
marked-no-place (true ∷ marks) h = absurd (h 0 (omega arith) refl)
marked-no-place (false ∷ marks) h = marked-no-place marks (λ i l m. h (suc i) (omega arith) m)

module _ (new old : List Bool) (size : length new ≡ length old) where
  pub marks-same : ((i : ℕ) → i < length new → Marked new i → Marked old i) → ((i : ℕ) → i < length old → Marked old i → Marked new i)
      → new ≡ old
  marks-same f g = ext_get_or true new old size (λ i l. same-when _ _ (f i l) (g i (omega arith)))

  pub marks-added : (q : ℕ) → ((i : ℕ) → i < length new → Marked new i → Marked old i ⊎ (i ≡ q))
      → ((i : ℕ) → i < length old → Marked old i → Marked new i) → Marked new q → new ≡ set old q true
  marks-added q f g here =
      ext_get_or true new (set old q true) (size ∙ sym (length-set old q true))
      (λ i l. same-when _ _ (λ m. into i (f i l m)) (λ m. back i l (mark-inverse old q i m)))
    where
      into : (i : ℕ) → Marked old i ⊎ (i ≡ q) → Marked (set old q true) i
      into i (inl m) = mark-mono old q i m
      into i (inr e) = rw e (mark-same old q)

      back : (i : ℕ) → i < length new → (i ≡ q) ⊎ Marked old i → Marked new i
      back i l (inl e) = rw e here
      back i l (inr m) = g i (omega arith) m

  pub marks-removed : (p : ℕ) → ((i : ℕ) → i < length new → Marked new i → Marked old i × (i ≡ p → ⊥))
      → ((i : ℕ) → i < length old → Marked old i → (i ≡ p → ⊥) → Marked new i) → new ≡ set old p false
  marks-removed p f g = ext_get_or true new (set old p false) (size ∙ sym (length-set old p false)) (λ i l. at i l (ℕ_discrete i p))
    where
      at : (i : ℕ) → i < length new → Dec (i ≡ p) → get_or new i true ≡ get_or (set old p false) i true
      at i l (yes e) =
          false_of _ (λ m. (f i l m).1 e)
          ∙ sym (ap (λ j. get_or (set old p false) j true) e ∙ get_or-set_same old p false true (let z : i ≡ p = e in omega arith))
      at i l (no n) =
          same-when _ _ (λ m. (f i l m).0) (λ m. g i (omega arith) m n) ∙ sym (get_or-set_other old p i false true n)
