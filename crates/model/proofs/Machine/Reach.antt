-- What is reached from some places by a link: those places and what they link to are marked, and nothing else is. No chain has to end: each
-- link followed marks a place that was not marked, so as many links as there are places are enough. Assumes nothing.
use mathlib.Core.Path.{◌≡◌, refl, sym, ◌∙◌, ap, subst}
use mathlib.Core.Logic.{◌⊎◌, inl, inr}
use mathlib.Core.Bool.{Bool, true, false}
use mathlib.Core.List.Memᴰ
use mathlib.Core.List.{List, [], ◌∷◌, Memᴰ}
use Prim.Native.Nat.{ℕ, zero, suc, ◌+◌, ◌<◌, ◌≤◌}
use native.Mathlib.Omega.{arith}
use lib.ListN.{length, get_or, set, replicate, length-set, length-replicate}
use Rattle.std.specs.Prelude.{Some, None}
use Rattle.model.specs.Machine.InUse.{mark_chain, mark_from_each, reached, marked}
use Rattle.model.specs.Machine.Held.{Place}
use Rattle.job.proofs.Test.{never}
use Rattle.model.proofs.Machine.Marks.{Marked, marked-none, free-inside, mark-same, mark-mono, mark-inverse, marked_all}
use Rattle.model.proofs.Machine.Marks.{marked-set-free}

-- the places that a place names: one or none
abbrev pub Names : (ℕ → Type 0) → Place → Type 0
Names Q q = (i : ℕ) → q ≡ Some i → Q i

pub names-nowhere : (Q : ℕ → Type 0) → Names Q None
names-nowhere Q i e = never cc

pub names_at : (Q : ℕ → Type 0) (i : ℕ) → Q i → Names Q (Some i)
names_at Q i h j e = subst Q (let z : i ≡ j = cc in z) h

-- r has the marks, and what is new in it has its link in it
record Grows (along : ℕ → Place) (marks r : List Bool) : Type 0 where
  size : length r ≡ length marks
  mono : (i : ℕ) → Marked marks i → Marked r i
  next : (i : ℕ) → Marked r i → Marked marks i ⊎ Names (Marked r) (along i)

grows_none : {along : ℕ → Place} {marks : List Bool} → Grows along marks marks
grows_none = record { size = refl; mono = λ i h. h; next = λ i h. inl h }

grows_then : {along : ℕ → Place} {first mid end : List Bool} → Grows along first mid → Grows along mid end → Grows along first end
grows_then {along} {first} {mid} {end} f g =
    record { size = g.size ∙ f.size; mono = λ i h. g.mono i (f.mono i h); next = λ i h. later i (g.next i h) }
  where
    earlier : (i : ℕ) → Marked first i ⊎ Names (Marked mid) (along i) → Marked first i ⊎ Names (Marked end) (along i)
    earlier i (inl h) = inl h
    earlier i (inr n) = inr (λ j e. g.mono j (n j e))

    later : (i : ℕ) → Marked mid i ⊎ Names (Marked end) (along i) → Marked first i ⊎ Names (Marked end) (along i)
    later i (inl h) = earlier i (f.next i h)
    later i (inr n) = inr n

-- one place marked, and then the rest of its chain
grows-link :
    {along : ℕ → Place} {marks r : List Bool} (i : ℕ)
    → Grows along (set marks i true) r
    → Names (Marked r) (along i)
    → Grows along marks r
grows-link {along} {marks} {r} i g n =
    record {
      size = g.size ∙ length-set marks i true;
      mono = λ j h. g.mono j (mark-mono marks i j h);
      next = λ j h. later j (g.next j h);
    }
  where
    earlier : (j : ℕ) → (j ≡ i) ⊎ Marked marks j → Marked marks j ⊎ Names (Marked r) (along j)
    earlier j (inl e) = inr (λ k x. n k (ap along (sym e) ∙ x))
    earlier j (inr h) = inl h

    later : (j : ℕ) → Marked (set marks i true) j ⊎ Names (Marked r) (along j) → Marked marks j ⊎ Names (Marked r) (along j)
    later j (inl h) = earlier j (mark-inverse marks i j h)
    later j (inr x) = inr x

module _ {A : Type 0} (link : A → Place) (blank : A) (xs : List A) where
  abbrev pub link_at : ℕ → Place
  link_at i = link (get_or xs i blank)

  -- as many links as there are free places are enough
  chain-grows :
      (n : ℕ) (q : Place) (marks : List Bool)
      → length marks ≤ marked marks + n
      → Grows link_at marks (mark_chain link blank xs n q marks) × Names (Marked (mark_chain link blank xs n q marks)) q
  unfolding mark_chain
  chain-grows zero q marks l = (grows_none, λ i e. marked_all marks (omega arith) i)
  chain-grows (suc n) None marks l = (grows_none, names-nowhere (Marked marks))
  chain-grows (suc n) (Some i) marks l =
      go (get_or marks i true) refl (λ k. chain-grows n (link_at i) (set marks i true) k)
    where
      r : List Bool
      r = mark_chain link blank xs n (link_at i) (set marks i true)

      R : Bool → List Bool
      R b = elim b [ true ↦ marks | false ↦ r ]

      go :
          (b : Bool)
          → get_or marks i true ≡ b
          → (length (set marks i true) ≤ marked (set marks i true) + n → Grows link_at (set marks i true) r × Names (Marked r) (link_at i))
          → Grows link_at marks (R b) × Names (Marked (R b)) (Some i)
      go true h g = (grows_none, names_at (Marked marks) i h)
      go false h g =
          let x = length-set marks i true in
          let y = marked-set-free marks i h in
          let z = g (omega arith) in
          (grows-link i z.0 z.1, names_at (Marked r) i (z.0.mono i (mark-same marks i)))

  chains-grow :
      (qs : List Place) (marks : List Bool)
      → length marks ≡ length xs
      → Grows link_at marks (mark_from_each link blank xs qs marks)
      × ((i : ℕ) → Memᴰ (Some i) qs → Marked (mark_from_each link blank xs qs marks) i)
  unfolding mark_from_each
  chains-grow [] marks l = (grows_none, λ i m. absurd (Memᴰ.not-nil m))
  chains-grow (q ∷ qs) marks l =
      let f = chain-grows (length xs) q marks (omega arith) in
      let g = chains-grow qs (mark_chain link blank xs (length xs) q marks) (f.0.size ∙ l) in
      (grows_then f.0 g.0, λ i m. go f.0 f.1 g.0 g.1 i m)
    where
      go :
          {bs cs : List Bool}
          → Grows link_at marks bs
          → Names (Marked bs) q
          → Grows link_at bs cs
          → ((i : ℕ) → Memᴰ (Some i) qs → Marked cs i)
          → (i : ℕ)
          → Memᴰ (Some i) (q ∷ qs)
          → Marked cs i
      go f n g h i (Memᴰ.head e) = g.mono i (n i (sym e))
      go f n g h i (Memᴰ.tail m) = h i m

  -- nothing else is marked
  module _ (Q : ℕ → Type 0) (closed : (i : ℕ) → i < length xs → Q i → Names Q (link_at i)) where
    abbrev Only : List Bool → List Bool → Type 0
    Only marks r = (i : ℕ) → Marked r i → Marked marks i ⊎ Q i

    chain-least : (n : ℕ) (q : Place) (marks : List Bool) → length marks ≡ length xs → Names Q q
        → Only marks (mark_chain link blank xs n q marks)
    unfolding mark_chain
    chain-least zero q marks l h i m = inl m
    chain-least (suc n) None marks l h i m = inl m
    chain-least (suc n) (Some p) marks l h i m =
        go
        (get_or marks p true)
        refl
        (λ k x. chain-least n (link_at p) (set marks p true) (length-set marks p true ∙ l) (closed p k (h p refl)) i x)
        m
      where
        r : List Bool
        r = mark_chain link blank xs n (link_at p) (set marks p true)

        before : (i ≡ p) ⊎ Marked marks i → Marked marks i ⊎ Q i
        before (inl e) = inr (subst Q (sym e) (h p refl))
        before (inr x) = inl x

        after : Marked (set marks p true) i ⊎ Q i → Marked marks i ⊎ Q i
        after (inl x) = before (mark-inverse marks p i x)
        after (inr x) = inr x

        go :
            (b : Bool)
            → get_or marks p true ≡ b
            → (p < length xs → Marked r i → Marked (set marks p true) i ⊎ Q i)
            → Marked (elim b as (λ b. List Bool) [ true ↦ marks | false ↦ r ]) i
            → Marked marks i ⊎ Q i
        go true e f x = inl x
        go false e f x = let z = free-inside marks p e in after (f (omega arith) x)

    chains-least :
        (qs : List Place) (marks : List Bool)
        → length marks ≡ length xs
        → ((i : ℕ) → Memᴰ (Some i) qs → Q i)
        → Only marks (mark_from_each link blank xs qs marks)
    unfolding mark_from_each
    chains-least [] marks l h i m = inl m
    chains-least (q ∷ qs) marks l h i m =
        go
        (chains-least
        qs
        (mark_chain link blank xs (length xs) q marks)
        ((chain-grows (length xs) q marks (omega arith)).0.size ∙ l)
        (λ j x. h j (Memᴰ.tail x))
        i
        m)
      where
        go : Marked (mark_chain link blank xs (length xs) q marks) i ⊎ Q i → Marked marks i ⊎ Q i
        go (inl x) = chain-least (length xs) q marks l (λ j e. h j (Memᴰ.head (sym e))) i x
        go (inr x) = inr x

  -- what is reached from some places
  pub record Reached (from : List Place) (r : List Bool) : Type 1 where
    pub size : length r ≡ length xs
    pub given : (i : ℕ) → Memᴰ (Some i) from → Marked r i
    pub closed : (i : ℕ) → i < length xs → Marked r i → Names (Marked r) (link_at i)
    pub least :
        (Q : ℕ → Type 0)
        → ((i : ℕ) → Memᴰ (Some i) from → Q i)
        → ((i : ℕ) → i < length xs → Q i → Names Q (link_at i))
        → (i : ℕ)
        → i < length xs
        → Marked r i
        → Q i

  pub reached-law : (from : List Place) → Reached from (reached link blank xs from)
  unfolding reached
  reached-law from = record { size = g.0.size ∙ none; given = g.1; closed = λ i l m. next i l (g.0.next i m); least = only }
    where
      none : length (replicate (length xs) false) ≡ length xs
      none = length-replicate (length xs) false

      r : List Bool
      r = mark_from_each link blank xs from (replicate (length xs) false)

      g : Grows link_at (replicate (length xs) false) r × ((i : ℕ) → Memᴰ (Some i) from → Marked r i)
      g = chains-grow from (replicate (length xs) false) none

      next : (i : ℕ) → i < length xs → Marked (replicate (length xs) false) i ⊎ Names (Marked r) (link_at i) → Names (Marked r) (link_at i)
      next i l (inl m) = let z = marked-none (length xs) i m in absurd (omega arith)
      next i l (inr n) = n

      last : (Q : ℕ → Type 0) (i : ℕ) → i < length xs → Marked (replicate (length xs) false) i ⊎ Q i → Q i
      last Q i l (inl m) = let z = marked-none (length xs) i m in absurd (omega arith)
      last Q i l (inr x) = x

      only :
          (Q : ℕ → Type 0)
          → ((i : ℕ) → Memᴰ (Some i) from → Q i)
          → ((i : ℕ) → i < length xs → Q i → Names Q (link_at i))
          → (i : ℕ)
          → i < length xs
          → Marked r i
          → Q i
      only Q h c i l m = last Q i l (chains-least Q c from (replicate (length xs) false) none h i m)
