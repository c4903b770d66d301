-- How often a place stands in a line of which a test keeps some: as often as before if the test keeps it, else never; and one test after
-- another. By recursion on the line. Assumes nothing.
use mathlib.Core.Path.{◌≡◌, refl, sym, ◌∙◌, ap}
use mathlib.Core.Bool.{Bool, true, false, not}
use mathlib.Core.List.{List, [], ◌∷◌}
use Prim.Native.Nat.{ℕ, ◌+◌, ◌<◌}
use native.Mathlib.Omega.{arith}
use lib.Dec.{eqb}
use Rattle.job.specs.Test.{select, occurrences, once}
use Rattle.job.proofs.Test.{clash, ne_eqb, occurrences-more}
use Rattle.model.proofs.Machine.Rules.{occurrences-here}

pub occurrences-kept : (test : ℕ → Bool) (r : ℕ) (l : List ℕ) → test r ≡ true → occurrences r (select test l) ≡ occurrences r l
unfolding select occurrences
occurrences-kept test r [] e = refl
occurrences-kept test r (x ∷ l) e = go (test x) refl (occurrences-kept test r l e)
  where
    go : (b : Bool) → test x ≡ b → occurrences r (select test l) ≡ occurrences r l
        → occurrences r (elim b as (λ b. List ℕ) [ true ↦ x ∷ select test l | false ↦ select test l ]) ≡ once (eqb r x) + occurrences r l
    go true q h = omega arith
    go false q h = let y : once (eqb r x) ≡ 0 = ap once (ne_eqb r x (λ z. clash (ap test (sym z) ∙ e) q)) in omega arith

pub occurrences-dropped : (test : ℕ → Bool) (r : ℕ) (l : List ℕ) → test r ≡ false → occurrences r (select test l) ≡ 0
unfolding select occurrences
occurrences-dropped test r [] e = refl
occurrences-dropped test r (x ∷ l) e = go (test x) refl (occurrences-dropped test r l e)
  where
    go : (b : Bool) → test x ≡ b → occurrences r (select test l) ≡ 0
        → occurrences r (elim b as (λ b. List ℕ) [ true ↦ x ∷ select test l | false ↦ select test l ]) ≡ 0
    go true q h = let y : once (eqb r x) ≡ 0 = ap once (ne_eqb r x (λ z. clash (ap test z ∙ q) e)) in omega arith
    go false q h = h

pub occurrences-select : (test : ℕ → Bool) (r : ℕ) (l : List ℕ) → (test r ≡ true → occurrences r l ≡ 1)
    → occurrences r (select test l) ≡ once (test r)
occurrences-select test r l h = go (test r) refl
  where
    go : (b : Bool) → test r ≡ b → occurrences r (select test l) ≡ once b
    go true e = occurrences-kept test r l e ∙ h e
    go false e = occurrences-dropped test r l e

-- a test and its opposite part a line
pub occurrences-parted : (test : ℕ → Bool) (r : ℕ) (l : List ℕ)
    → occurrences r (select test l) + occurrences r (select (λ x. not (test x)) l) ≡ occurrences r l
occurrences-parted test r l = go (test r) refl
  where
    go : (b : Bool) → test r ≡ b → occurrences r (select test l) + occurrences r (select (λ x. not (test x)) l) ≡ occurrences r l
    go true e =
        let a = occurrences-kept test r l e in let b = occurrences-dropped (λ x. not (test x)) r l (ap not e) in omega arith
    go false e =
        let a = occurrences-dropped test r l e in let b = occurrences-kept (λ x. not (test x)) r l (ap not e) in omega arith

-- a test after another one that keeps all that it keeps
pub select-twice : (f g : ℕ → Bool) (l : List ℕ) → ((r : ℕ) → 0 < occurrences r l → f r ≡ true → g r ≡ true)
    → select f (select g l) ≡ select f l
unfolding select
select-twice f g [] h = refl
select-twice f g (x ∷ l) h =
    go (g x) (f x) refl refl (select-twice f g l (λ r k. h r (let z = occurrences-more r x l in omega arith)))
  where
    kept_if : Bool → List ℕ → List ℕ
    kept_if b xs = elim b [ true ↦ x ∷ xs | false ↦ xs ]

    go : (a b : Bool) → g x ≡ a → f x ≡ b → select f (select g l) ≡ select f l
        → select f (elim a as (λ a. List ℕ) [ true ↦ x ∷ select g l | false ↦ select g l ])
        ≡ elim b as (λ b. List ℕ) [ true ↦ x ∷ select f l | false ↦ select f l ]
    go true b p q e = ap (λ b. kept_if b (select f (select g l))) q ∙ ap (kept_if b) e
    go false true p q e = clash (h x (let z = occurrences-here x l in omega arith) q) p
    go false false p q e = e
