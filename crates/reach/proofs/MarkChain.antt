-- The loop that marks along a chain of links: what is left to do, at each way out and after each turn. The definition goes one link further
-- in each of them. Assumes nothing.
use mathlib.Core.Path.{◌≡◌, refl, sym, ◌∙◌, ap, ap₂}
use mathlib.Core.Bool.{Bool, true, false}
use mathlib.Core.Logic.{◌≢◌}
use mathlib.Core.List.{List, [], ◌∷◌, ◌++◌, map}
use Prim.Native.Nat.{ℕ, zero, suc, ◌+◌, ◌-◌, ◌≤◌, ◌<◌}
use native.Mathlib.Omega.{arith}
use lib.ListN.{length, get_or, get_or-map, set, replicate}
use Rattle.std.specs.Prelude.{Some, None}
use Rattle.model.specs.Machine.InUse.{mark_chain, mark_from_each}
use Rattle.model.specs.Machine.Held.{Place}
use Rattle.model.proofs.Machine.Marks.{Marked, Free, marked-outside}
use Rattle.record.specs.LayoutDecoded.{place_from}
use Rattle.record.specs.Layout.{place_number}
use Rattle.record.proofs.PlaceNumber.{place-from, place_at, place_none}
use Rattle.job.proofs.Lists.{get_d_any}

module _ {A : Type 0} (link : A → Place) (blank : A) (xs : List A) where
  abbrev pub walk : ℕ → Place → List Bool → List Bool
  walk n q marks = mark_chain link blank xs n q marks

  walk-nowhere : (n : ℕ) (marks : List Bool) → walk n None marks ≡ marks
  unfolding mark_chain
  walk-nowhere zero marks = refl
  walk-nowhere (suc n) marks = refl

  walk-met : (n i : ℕ) (marks : List Bool) → Marked marks i → walk n (Some i) marks ≡ marks
  unfolding mark_chain
  walk-met zero i marks e = refl
  walk-met (suc n) i marks e = rw (e, mark_chain)

  walk-goes : (n i : ℕ) (marks : List Bool) → Free marks i
      → walk (suc n) (Some i) marks ≡ walk n (link (get_or xs i blank)) (set marks i true)
  unfolding mark_chain
  walk-goes n i marks e = rw (e, mark_chain)

  -- k links are followed, and the chain goes on at the place with the number q
  module _ (size k q : ℕ) (marks end : List Bool) (long : length marks ≡ size) (left : end ≡ walk (size - k) (place_from q) marks) where
    pub chain-ends : q ≡ 0 → marks ≡ end
    chain-ends z = sym (left ∙ ap (λ p. walk (size - k) p marks) (place_none q z) ∙ walk-nowhere (size - k) marks)

    chain-stops : q ≢ 0 → Marked marks (q - 1) → marks ≡ end
    chain-stops f e = sym (left ∙ ap (λ p. walk (size - k) p marks) (place_at q f) ∙ walk-met (size - k) (q - 1) marks e)

    pub chain-outside : q ≢ 0 → size ≤ q - 1 → marks ≡ end
    chain-outside f h = chain-stops f (marked-outside marks (q - 1) (omega arith))

    pub chain-met : q ≢ 0 → q - 1 < size → get_or marks (q - 1) false ≡ true → marks ≡ end
    chain-met f h e = chain-stops f (get_d_any marks (q - 1) true false (omega arith) ∙ e)

    pub chain-over : size ≤ k → marks ≡ end
    unfolding mark_chain
    chain-over h = let z : size - k ≡ 0 = omega arith in sym (left ∙ ap (λ n. walk n (place_from q) marks) z)

    pub chain-on :
        (r : ℕ)
        → k < size
        → q ≢ 0
        → q - 1 < size
        → get_or marks (q - 1) false ≡ false
        → r ≡ place_number (link (get_or xs (q - 1) blank))
        → end ≡ walk (size - (k + 1)) (place_from r) (set marks (q - 1) true)
    chain-on r h f i e g =
        let z : size - k ≡ suc (size - (k + 1)) = omega arith in
        left
        ∙ ap₂ (λ n p. walk n p marks) z (place_at q f)
        ∙ walk-goes (size - (k + 1)) (q - 1) marks (get_d_any marks (q - 1) true false (omega arith) ∙ e)
        ∙ ap (λ p. walk (size - (k + 1)) p (set marks (q - 1) true)) (sym (place-from r _ g))

  -- the same over a list of the links alone
  pub walk-linked : (n : ℕ) (q : Place) (marks : List Bool)
      → mark_chain (λ (q : Place). q) (link blank) (map link xs) n q marks ≡ walk n q marks
  unfolding mark_chain
  walk-linked zero q marks = refl
  walk-linked (suc n) None marks = refl
  walk-linked (suc n) (Some i) marks =
      go (get_or marks i true)
      (ap (λ q. mark_chain (λ (q : Place). q) (link blank) (map link xs) n q (set marks i true)) (get_or-map link xs i blank)
      ∙ walk-linked n (link (get_or xs i blank)) (set marks i true))
    where
      on : List Bool
      on = mark_chain (λ (q : Place). q) (link blank) (map link xs) n (get_or (map link xs) i (link blank)) (set marks i true)

      go : (b : Bool) → on ≡ walk n (link (get_or xs i blank)) (set marks i true)
          → ◌≡◌ {A = List Bool} (elim b [ true ↦ marks | false ↦ on ])
          (elim b [ true ↦ marks | false ↦ walk n (link (get_or xs i blank)) (set marks i true) ])
      go true e = refl
      go false e = e

  -- marking from one list of places and then from another
  pub chains-append : (qs rs : List Place) (marks : List Bool)
      → mark_from_each link blank xs (qs ++ rs) marks ≡ mark_from_each link blank xs rs (mark_from_each link blank xs qs marks)
  unfolding mark_from_each
  chains-append [] rs marks = refl
  chains-append (q ∷ qs) rs marks = chains-append qs rs (walk (length xs) q marks)

  -- chains that begin nowhere
  pub chains-nowhere : (n : ℕ) (marks : List Bool) → mark_from_each link blank xs (replicate n None) marks ≡ marks
  unfolding mark_from_each
  chains-nowhere zero marks = refl
  chains-nowhere (suc n) marks =
      ap (mark_from_each link blank xs (replicate n None)) (walk-nowhere (length xs) marks) ∙ chains-nowhere n marks
