-- What a filter leaves of a list stands where the count of what it leaves before says, so the survivors of a step are counted by the
-- test that the step filters its queue with. Each is an induction over the list. Assumes nothing.
use mathlib.Core.Path.{◌≡◌, refl, sym, ◌∙◌, ap, subst, subst₂}
use mathlib.Core.Logic.{◌⊎◌, inl, inr}
use mathlib.Core.Bool.{Bool, true, false, not}
use mathlib.Core.List.{List, [], ◌∷◌}
use Prim.Native.Nat.{ℕ, zero, suc, ◌+◌, ◌≤◌, ◌<◌}
use native.Mathlib.Omega.{arith}
use lib.ListN.{length, get_or, take}
use Rattle.std.specs.Prelude.{None}
use Rattle.job.specs.Test.{select}
use Rattle.job.specs.Node.{Node, Dag}
use Rattle.model.specs.Run.Follow.{cell_set, front_ends, survivors, Fate, falls, stays, fate}
use Rattle.model.specs.declared.token.Token.{Token}
use Rattle.model.specs.declared.record.Machine.{Machine}
use Rattle.job.proofs.Test.{never, holds-or-fails}

-- only at choke does a token's step set a cell
pub sets-only : (N : Node) (t : Token) → (N ≡ Node.choke) ⊎ (cell_set N t ≡ None)
unfolding cell_set
sets-only Node.choke t = inl refl
sets-only Node.stop t = inr refl
sets-only (Node.site s ps k) t = inr refl
sets-only (Node.call e ps k) t = inr refl
sets-only (Node.fork l r) t = inr refl
sets-only (Node.assign x k) t = inr refl
sets-only (Node.remove x k) t = inr refl
sets-only (Node.where' x l r) t = inr refl
sets-only Node.return t = inr refl
sets-only Node.publish t = inr refl
sets-only Node.unknown t = inr refl

-- what a filter leaves of a list, and where
select_yes : {A : Type 0} (f : A → Bool) (x : A) (xs : List A) → f x ≡ true → select f (x ∷ xs) ≡ x ∷ select f xs
unfolding select
select_yes f x xs e = rw (e, select)

select_no : {A : Type 0} (f : A → Bool) (x : A) (xs : List A) → f x ≡ false → select f (x ∷ xs) ≡ select f xs
unfolding select
select_no f x xs e = rw (e, select)

-- the position that the k-th of a list has among those that pass
abbrev pub among : (ℕ → Bool) → List ℕ → ℕ → ℕ
among f xs k = length (select f (take k xs))

-- behind the numbers of ys, zs has x
pub record Behind (ys zs : List ℕ) (x : ℕ) : Type 0 where
  pub inside : length ys < length zs
  pub found : get_or zs (length ys) 0 ≡ x

select-nil : (f : ℕ → Bool) → select f [] ≡ []
unfolding select
select-nil f = refl

pub select-finds :
    (f : ℕ → Bool) (xs : List ℕ) (k : ℕ)
    → k < length xs
    → f (get_or xs k 0) ≡ true
    → Behind (select f (take k xs)) (select f xs) (get_or xs k 0)
select-finds f [] k l e = absurd (omega arith)
select-finds f (x ∷ xs) zero l e =
    subst₂ (λ ys zs. Behind ys zs x) (sym (select-nil f)) (sym (select_yes f x xs e)) (record { inside = omega arith; found = refl })
select-finds f (x ∷ xs) (suc k) l e = go (holds-or-fails (f x)) (select-finds f xs k (omega arith) e)
  where
    go :
        (f x ≡ true) ⊎ (f x ≡ false)
        → Behind (select f (take k xs)) (select f xs) (get_or xs k 0)
        → Behind (select f (x ∷ take k xs)) (select f (x ∷ xs)) (get_or xs k 0)
    go (inl p) r =
        subst₂ (λ ys zs. Behind ys zs (get_or xs k 0)) (sym (select_yes f x (take k xs) p)) (sym (select_yes f x xs p))
        (record { inside = omega (arith, r.inside); found = r.found })
    go (inr p) r =
        subst₂ (λ ys zs. Behind ys zs (get_or xs k 0)) (sym (select_no f x (take k xs) p)) (sym (select_no f x xs p)) r

-- survivors: at most as many as were counted; all of them if none is ended; those that pass a test, if it tells who is ended
module _ (d : Dag) (m : Machine) where
  ended-one : (i n : ℕ) → front_ends d m i ≡ true → survivors d m i (suc n) ≡ survivors d m (suc i) n
  unfolding survivors
  ended-one i n e = rw (e, survivors)

  spared-one : (i n : ℕ) → front_ends d m i ≡ false → survivors d m i (suc n) ≡ suc (survivors d m (suc i) n)
  unfolding survivors
  spared-one i n e = rw (e, survivors)

  survivors-none : (i : ℕ) → survivors d m i 0 ≡ 0
  unfolding survivors
  survivors-none i = refl

  pub survivors-bound : (i n : ℕ) → survivors d m i n ≤ n
  survivors-bound i zero = let z = survivors-none i in omega arith
  survivors-bound i (suc n) = go (holds-or-fails (front_ends d m i)) (survivors-bound (suc i) n)
    where
      go : (front_ends d m i ≡ true) ⊎ (front_ends d m i ≡ false) → survivors d m (suc i) n ≤ n → survivors d m i (suc n) ≤ suc n
      go (inl e) l = let z = ended-one i n e in omega arith
      go (inr e) l = let z = spared-one i n e in omega arith

  pub survivors-all : ((i : ℕ) → front_ends d m i ≡ false) → (i n : ℕ) → survivors d m i n ≡ n
  survivors-all h i zero = survivors-none i
  survivors-all h i (suc n) = spared-one i n (h i) ∙ ap suc (survivors-all h (suc i) n)

  pub survivors-pass :
      (f : ℕ → Bool) (i : ℕ) (xs : List ℕ) (n : ℕ) → n ≤ length xs
      → ((j : ℕ) → j < n → front_ends d m (i + j) ≡ not (f (get_or xs j 0)))
      → survivors d m i n ≡ among f xs n
  survivors-pass f i xs zero l h = survivors-none i ∙ ap length (sym (select-nil f))
  survivors-pass f i [] (suc n) l h = absurd (omega arith)
  survivors-pass f i (x ∷ xs) (suc n) l h = go (f x) refl (survivors-pass f (suc i) xs n (omega arith) later)
    where
      front : front_ends d m i ≡ not (f x)
      front = subst (λ k. front_ends d m k ≡ not (f x)) (omega arith) (h 0 (omega arith))

      later : (j : ℕ) → j < n → front_ends d m (suc i + j) ≡ not (f (get_or xs j 0))
      later j k = subst (λ k. front_ends d m k ≡ not (f (get_or xs j 0))) (omega arith) (h (suc j) (omega arith))

      go : (b : Bool) → f x ≡ b → survivors d m (suc i) n ≡ among f xs n → survivors d m i (suc n) ≡ length (select f (x ∷ take n xs))
      go true e r = spared-one i n (front ∙ ap not e) ∙ (ap suc r ∙ ap length (sym (select_yes f x (take n xs) e)))
      go false e r = ended-one i n (front ∙ ap not e) ∙ (r ∙ ap length (sym (select_no f x (take n xs) e)))

  -- what it says of a token that it stays
  pub fate-stays : (k k' : ℕ) → fate d m (suc k) ≡ stays k' → (front_ends d m (suc k) ≡ false) × (survivors d m 1 k ≡ k')
  unfolding fate
  fate-stays k k' e = go (front_ends d m (suc k)) e
    where
      go :
          (b : Bool) → elim b as (λ b. Fate) [ true ↦ falls | false ↦ stays (survivors d m 1 k) ] ≡ stays k'
          → (b ≡ false) × (survivors d m 1 k ≡ k')
      go true x = never cc
      go false x = (refl, cc)
