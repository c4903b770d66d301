-- Laws of the abstract machine's cells and of its clock: what a set cell holds, which tokens its setting ends, and which tokens wake. By
-- the tests that decide it. Assumes nothing.
use mathlib.Core.Path.{◌≡◌, refl, ◌∙◌, ap}
use mathlib.Core.Bool.{Bool, true, false, not}
use mathlib.Core.List.{List, [], ◌∷◌, Memᴰ}
use mathlib.Core.Option.{Option, some, none}
use Prim.Native.Nat.{ℕ, ◌<◌, ◌≤◌}
use lib.Dec.{eqb}
use lib.IntN.{ℤ, pos}
use Rattle.job.specs.Test.{◌or◌, for_some, select, All, more}
use Rattle.job.proofs.WellFormed.{member-some}
use Rattle.job.proofs.Test.{never, eqb_same, ne_eqb, le-leb, lt-not-leb}
use Rattle.simulation.proofs.AbstractMachine.{Place, Token, running, due_later, Store, chosen, with_set, cells_of, is_out_of}
use Rattle.simulation.proofs.AbstractMachine.{out_of, woken_if, wake}

abbrev pub ◌is-in◌ : ℕ → List ℕ → Type 0
c is-in C = Memᴰ c C

abbrev pub ◌not-in◌ : ℕ → List ℕ → Type 0
c not-in C = c is-in C → ⊥

infix 20 ◌is-in◌
infix 20 ◌not-in◌
pub set_same : (σ : Store) (c : ℕ) (v : ℤ) → with_set σ c v c ≡ some v
set_same σ c v = ap (λ b. chosen b v (σ c)) (eqb_same c)

pub set_other : (σ : Store) (c b : ℕ) (v : ℤ) → (b ≡ c → ⊥) → with_set σ c v b ≡ σ b
set_other σ c b v n = ap (λ x. chosen x v (σ b)) (ne_eqb b c n)

not-both : {o : Option ℤ} {v : ℤ} → o ≡ none → o ≡ some v → ⊥
not-both p q = never cc

-- a cell that was set keeps its value
pub set_keeps : (σ : Store) (c b : ℕ) (v : ℤ) {w : ℤ} → σ c ≡ none → σ b ≡ some w → with_set σ c v b ≡ some w
set_keeps σ c b v n s = set_other σ c b v (λ p. not-both (ap σ p ∙ n) s) ∙ s

some-none : (c : ℕ) (l : List ℕ) → c not-in l → for_some (eqb c) l ≡ false
unfolding for_some ◌or◌
some-none c [] n = refl
some-none c (b ∷ l) n = rw (ne_eqb c b (λ p. n (Memᴰ.head p))) (some-none c l (λ m. n (Memᴰ.tail m)))

module _ {A : Type 0} (p : A → Bool) where
  select_yes : (x : A) (xs : List A) → p x ≡ true → select p (x ∷ xs) ≡ x ∷ select p xs
  unfolding select
  select_yes x xs e = rw (e, select)

  select_no : (x : A) (xs : List A) → p x ≡ false → select p (x ∷ xs) ≡ select p xs
  unfolding select
  select_no x xs e = rw (e, select)

-- tokens that are not under the cell stay, those under it end
pub all_stay : {c : ℕ} {S : List Token} → All (λ t. c not-in cells_of t) S → out_of c S ≡ S
unfolding select
all_stay All.none = refl
all_stay {c} (more {x = t} {xs = S} n a) =
    select_yes (is_out_of c) t S (ap not (some-none c (cells_of t) n)) ∙ ap (◌∷◌ t) (all_stay a)

pub all_end : {c : ℕ} {S : List Token} → All (λ t. c is-in cells_of t) S → out_of c S ≡ []
unfolding select
all_end All.none = refl
all_end {c} (more {x = t} {xs = S} m a) = select_no (is_out_of c) t S (ap not (member-some m)) ∙ all_end a

-- a token whose time has come wakes; another stays
pub wakes-due : {now d : ℕ} (K : Place) → d ≤ now → wake now (due_later d K) ≡ running K (pos 0)
wakes-due {now} {d} K l = ap (λ b. woken_if b d K) (le-leb d now l)

pub stays-due : {now d : ℕ} (K : Place) → now < d → wake now (due_later d K) ≡ due_later d K
stays-due {now} {d} K l = ap (λ b. woken_if b d K) (lt-not-leb d now l)
