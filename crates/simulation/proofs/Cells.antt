-- Which cells are told apart: two parts of a list, what a list grows to, and the invariant of the cells around an expression.
-- Cell names are given in order, so a new one is in no list of old ones. Assumes nothing.
use mathlib.Core.Path.{◌≡◌, ◌∙◌, subst}
use mathlib.Core.Logic.{◌⊎◌, inl, inr}
use mathlib.Core.List.Memᴰ
use mathlib.Core.List.{List, [], ◌∷◌, ◌++◌}
use mathlib.Core.Option.{none}
use Prim.Native.Nat.{ℕ, suc, ◌<◌, ◌≤◌}
use native.Mathlib.Omega.{arith}
use lib.IntN.{ℤ}
use Rattle.simulation.proofs.AbstractMachine.{Store, with_set}
use Rattle.simulation.proofs.Store.{◌is-in◌, ◌not-in◌, set_other}

abbrev pub Within : List ℕ → List ℕ → Type 0
Within C D = (c : ℕ) → c is-in C → c is-in D

abbrev pub Apart : List ℕ → List ℕ → Type 0
Apart C D = (c : ℕ) → c is-in C → c is-in D → ⊥

pub apart_none : {C : List ℕ} → Apart C []
apart_none c m = Memᴰ.not-nil

pub not-in-cons : {c b : ℕ} {C : List ℕ} → (c ≡ b → ⊥) → c not-in C → c not-in (b ∷ C)
not-in-cons p n (Memᴰ.head e) = p e
not-in-cons p n (Memᴰ.tail m) = n m

pub not-in-append : {c : ℕ} {C D : List ℕ} → c not-in C → c not-in D → c not-in (C ++ D)
not-in-append {c} {C} {D} n k m = go (Memᴰ.append_cases C m)
  where
    go : (c is-in C) ⊎ (c is-in D) → ⊥
    go (inl x) = n x
    go (inr x) = k x

-- C and D, apart from each other, are both in E
pub record Parts (C D E : List ℕ) : Type 0 where
  pub apart : Apart C D
  pub in_left : Within C E
  pub in_right : Within D E

pub parts-swap : {C D E : List ℕ} → Parts C D E → Parts D C E
parts-swap p = record { apart = λ c m k. p.apart c k m; in_left = p.in_right; in_right = p.in_left }

pub parts_within : {C D E F : List ℕ} → Within E F → Parts C D E → Parts C D F
parts_within w p = record { apart = p.apart; in_left = λ c m. w c (p.in_left c m); in_right = λ c m. w c (p.in_right c m) }

pub parts-alone : {C : List ℕ} → Parts C [] C
parts-alone = record { apart = apart_none; in_left = λ c m. m; in_right = λ c m. absurd (Memᴰ.not-nil m) }

pub parts-own : {C : List ℕ} → Parts [] C C
parts-own = parts-swap parts-alone

pub parts_none : {C : List ℕ} → Parts [] [] C
parts_none =
    record { apart = apart_none; in_left = λ c m. absurd (Memᴰ.not-nil m); in_right = λ c m. absurd (Memᴰ.not-nil m) }

parts-append : {C D : List ℕ} → Apart C D → Parts C D (C ++ D)
parts-append {C} {D} a = record { apart = a; in_left = λ c m. Memᴰ.append_left D m; in_right = λ c m. Memᴰ.append_right C m }

-- the cell b changes sides
pub parts-move : {b : ℕ} {C D E : List ℕ} → b not-in D → Parts C (b ∷ D) E → Parts D (b ∷ C) E
parts-move {b} {C} {D} {E} n p = record { apart = other; in_left = λ c m. p.in_right c (Memᴰ.tail m); in_right = inside }
  where
    other : Apart D (b ∷ C)
    other c m (Memᴰ.head q) = n (subst (λ x. x is-in D) q m)
    other c m (Memᴰ.tail k) = p.apart c k (Memᴰ.tail m)

    inside : Within (b ∷ C) E
    inside c (Memᴰ.head q) = p.in_right c (Memᴰ.head q)
    inside c (Memᴰ.tail m) = p.in_left c m

-- all cells of C₁ are in C, or were made between two moments
abbrev pub Grows : (new new₁ : ℕ) → List ℕ → List ℕ → Type 0
Grows new new₁ C C₁ = (c : ℕ) → c is-in C₁ → (c is-in C) ⊎ ((new ≤ c) × (c < new₁))

pub grows-within : {new new₁ : ℕ} {C C₁ : List ℕ} → Within C₁ C → Grows new new₁ C C₁
grows-within w c m = inl (w c m)

pub grows_from : {new new₁ : ℕ} {C C₁ D : List ℕ} → Within C D → Grows new new₁ C C₁ → Grows new new₁ D C₁
grows_from {new} {new₁} {C} {D = D} w g c m = go (g c m)
  where
    go : (c is-in C) ⊎ ((new ≤ c) × (c < new₁)) → (c is-in D) ⊎ ((new ≤ c) × (c < new₁))
    go (inl x) = inl (w c x)
    go (inr x) = inr x

pub grows_all : {new new₁ : ℕ} {C : List ℕ} → Grows new new₁ C C
grows_all c m = inl m

-- one more cell
pub grows-new : {new : ℕ} {C : List ℕ} → Grows new (suc new) C (new ∷ [])
grows-new c (Memᴰ.head p) = inr (omega arith, omega arith)
grows-new c (Memᴰ.tail m) = absurd (Memᴰ.not-nil m)

pub grows_then : {new new₁ new₂ : ℕ} {C C₁ C₂ : List ℕ}
    → new ≤ new₁ → new₁ ≤ new₂ → Grows new new₁ C C₁ → Grows new₁ new₂ C₁ C₂ → Grows new new₂ C C₂
grows_then {new} {new₁} {new₂} {C} {C₁} {C₂} l k f g c m = go (g c m)
  where
    go₁ : (c is-in C) ⊎ ((new ≤ c) × (c < new₁)) → (c is-in C) ⊎ ((new ≤ c) × (c < new₂))
    go₁ (inl x) = inl x
    go₁ (inr x) = inr (x.0, omega arith)

    go : (c is-in C₁) ⊎ ((new₁ ≤ c) × (c < new₂)) → (c is-in C) ⊎ ((new ≤ c) × (c < new₂))
    go (inl x) = go₁ (f c x)
    go (inr x) = inr (omega arith, x.1)

-- a part grows beside another one that is old
module _ {new new₁ : ℕ} {C C₁ D E : List ℕ} (p : Parts C D E) (g : Grows new new₁ C C₁) where
  grown-parts : ((c : ℕ) → c is-in D → c < new) → Parts C₁ D (C₁ ++ D)
  grown-parts old = parts-append (λ c m k. go c k (g c m))
    where
      go : (c : ℕ) → c is-in D → (c is-in C) ⊎ ((new ≤ c) × (c < new₁)) → ⊥
      go c k (inl x) = p.apart c x k
      go c k (inr x) = let l : c < new = old c k in omega arith

  pub whole-grows : Grows new new₁ E (C₁ ++ D)
  whole-grows c m = go (Memᴰ.append_cases C₁ m)
    where
      go₁ : (c is-in C) ⊎ ((new ≤ c) × (c < new₁)) → (c is-in E) ⊎ ((new ≤ c) × (c < new₁))
      go₁ (inl x) = inl (p.in_left c x)
      go₁ (inr x) = inr x

      go : (c is-in C₁) ⊎ (c is-in D) → (c is-in E) ⊎ ((new ≤ c) × (c < new₁))
      go (inl x) = go₁ (g c x)
      go (inr x) = inl (p.in_right c x)

-- made already, and not set
pub record Open (σ : Store) (new c : ℕ) : Type 0 where
  pub unset : σ c ≡ none
  pub old : c < new

open-later : {σ : Store} {new new₁ c : ℕ} → new ≤ new₁ → Open σ new c → Open σ new₁ c
open-later l o = record { unset = o.unset; old = omega arith }

-- Γ: the cells of the prunes on whose left side an expression stands; U: those that it is under; C: those of its own prunes
pub record Tidy (σ : Store) (new : ℕ) (Γ U C : List ℕ) : Type 0 where
  pub left : (c : ℕ) → c is-in Γ → Open σ new c
  pub over : (c : ℕ) → c is-in U → Open σ new c
  pub own : (c : ℕ) → c is-in C → Open σ new c
  pub not_left : Apart C Γ
  pub not-over : Apart C U
  pub clean : (c : ℕ) → new ≤ c → σ c ≡ none

module _ {σ : Store} {new : ℕ} {Γ U C : List ℕ} (t : Tidy σ new Γ U C) where
  pub tidy-part : {D : List ℕ} → Within D C → Tidy σ new Γ U D
  tidy-part w =
      record {
        left = t.left;
        over = t.over;
        own = λ c m. t.own c (w c m);
        not_left = λ c m. t.not_left c (w c m);
        not-over = λ c m. t.not-over c (w c m);
        clean = t.clean;
      }

  pub tidy-under : {U₁ : List ℕ} → U ≡ U₁ → Tidy σ new Γ U₁ C
  tidy-under p = subst (λ x. Tidy σ new Γ x C) p t

  pub tidy-grown : {new₁ : ℕ} {C₁ : List ℕ} → new ≤ new₁ → Grows new new₁ C C₁ → Tidy σ new₁ Γ U C₁
  tidy-grown {new₁} {C₁} l g =
      record {
        left = λ c m. open-later l (t.left c m);
        over = λ c m. open-later l (t.over c m);
        own = λ c m. own₁ c (g c m);
        not_left = λ c m k. not c (t.left c k) (λ x. t.not_left c x k) (g c m);
        not-over = λ c m k. not c (t.over c k) (λ x. t.not-over c x k) (g c m);
        clean = λ c k. t.clean c (omega arith);
      }
    where
      own₁ : (c : ℕ) → (c is-in C) ⊎ ((new ≤ c) × (c < new₁)) → Open σ new₁ c
      own₁ c (inl m) = open-later l (t.own c m)
      own₁ c (inr x) = record { unset = t.clean c x.0; old = x.1 }

      not : (c : ℕ) → Open σ new c → c not-in C → (c is-in C) ⊎ ((new ≤ c) × (c < new₁)) → ⊥
      not c o n (inl m) = n m
      not c o n (inr x) = omega arith

-- a part that grows stays apart from the other
pub grown : {σ : Store} {new new₁ : ℕ} {Γ U C C₁ D E : List ℕ}
    → Parts C D E → Tidy σ new Γ U E → Grows new new₁ C C₁ → Parts C₁ D (C₁ ++ D)
grown p t g = grown-parts p g (λ c m. (t.own c (p.in_right c m)).old)

module _ {σ : Store} {new b : ℕ} {Γ U C D E : List ℕ} (p : Parts C (b ∷ D) E) (t : Tidy σ new Γ U E) where
  open-here : (c : ℕ) → c ≡ b → Open σ new c
  open-here c q = t.own c (p.in_right c (Memᴰ.head q))

  not-here : (c : ℕ) → c is-in C → c ≡ b → ⊥
  not-here c m q = p.apart c m (Memᴰ.head q)

  -- to the left of the cell b
  pub tidy-left : Tidy σ new (b ∷ Γ) U C
  tidy-left =
      record {
        left = left₁;
        over = t.over;
        own = λ c m. t.own c (p.in_left c m);
        not_left = λ c m. not-in-cons (not-here c m) (t.not_left c (p.in_left c m));
        not-over = λ c m. t.not-over c (p.in_left c m);
        clean = t.clean;
      }
    where
      left₁ : (c : ℕ) → c is-in (b ∷ Γ) → Open σ new c
      left₁ c (Memᴰ.head q) = open-here c q
      left₁ c (Memᴰ.tail m) = t.left c m

  -- under the cell b
  pub tidy-right : Tidy σ new Γ (b ∷ U) C
  tidy-right =
      record {
        left = t.left;
        over = over₁;
        own = λ c m. t.own c (p.in_left c m);
        not_left = λ c m. t.not_left c (p.in_left c m);
        not-over = λ c m. not-in-cons (not-here c m) (t.not-over c (p.in_left c m));
        clean = t.clean;
      }
    where
      over₁ : (c : ℕ) → c is-in (b ∷ U) → Open σ new c
      over₁ c (Memᴰ.head q) = open-here c q
      over₁ c (Memᴰ.tail m) = t.over c m

-- an own cell is set
pub tidy-set : {σ : Store} {new b : ℕ} {C C₁ : List ℕ} (v : ℤ)
    → Tidy σ new [] [] C → b is-in C → b not-in C₁ → Grows new (suc new) C C₁ → Tidy (with_set σ b v) (suc new) [] [] C₁
tidy-set {σ} {new} {b} {C} {C₁} v t m n g =
    record {
      left = λ c k. absurd (Memᴰ.not-nil k);
      over = λ c k. absurd (Memᴰ.not-nil k);
      own = λ c k. own₁ c (λ q. n (subst (λ x. x is-in C₁) q k)) ((tidy-grown t (omega arith) g).own c k);
      not_left = apart_none;
      not-over = apart_none;
      clean = λ c l. let o : b < new = (t.own b m).old in set_other σ b c v (λ q. omega arith) ∙ t.clean c (omega arith);
    }
  where
    own₁ : (c : ℕ) → (c ≡ b → ⊥) → Open σ (suc new) c → Open (with_set σ b v) (suc new) c
    own₁ c q o = record { unset = set_other σ b c v q ∙ o.unset; old = o.old }
