-- The next place not in use is the nearest of all, by the distance from the first place to be looked at, round from the end to 0.
-- Assumes nothing.
use mathlib.Core.Path.{◌≡◌, refl, sym, ◌∙◌, ap, subst}
use mathlib.Core.Bool.{Bool, true, false}
use mathlib.Core.List.{List}
use Rattle.std.specs.Prelude.{None, Some}
use Prim.Native.Nat.{ℕ, zero, suc, ◌+◌, ◌-◌, ◌%◌, ◌≤◌, ◌<◌}
use native.Mathlib.Decide.{dec_lt, ℕ_discrete}
use native.Mathlib.Omega.{arith}
use mir.Val.{bool_byte}
use lib.ListN.{length, get_or}
use Rattle.model.specs.Machine.FreePlace.{around}
use Rattle.model.proofs.Machine.Marks.{Marked, Free, free-inside}
use Rattle.reach.specs.Marks.{next_free}
use Rattle.places.proofs.PlaceSearch.{around-inside, around-outside, seek, seek-free, seek-used, seek-all, place-first}
use Rattle.places.proofs.PlaceSearch.{next_or, next-some, next-none}
use Rattle.job.proofs.Lists.{get_d_any}

abbrev pub distance : ℕ → ℕ → ℕ
distance first i = (i + 64 - first) % 64

-- whether a place is in use, as a number
pub mark-true : (b : Bool) → b ≡ true → bool_byte b ≡ 1
mark-true b e = rw e refl

pub mark-false : (b : Bool) → b ≡ false → bool_byte b ≡ 0
mark-false b e = rw e refl

-- of the places below i, `best` is the least distance of one not in use, or 64
pub record Nearest (marks : List Bool) (first i best : ℕ) : Type 0 where
  pub most : best ≤ 64
  pub least : (j : ℕ) → j < i → Free marks j → best ≤ distance first j
  pub free : best < 64 → Free marks ((first + best) % 64)

pub nearest-none : (marks : List Bool) (first : ℕ) → Nearest marks first 0 64
nearest-none marks first = record { most = omega arith; least = λ j l. absurd (omega arith); free = λ l. absurd (omega arith) }

at_first : (p : ℕ) → p < 64 → (p + 0) % 64 ≡ p
at_first p l = omega arith

around-next : (p : ℕ) → p < 64 → (p + 1) % 64 ≡ around 64 (suc p)
around-next p l = go (dec_lt (suc p) 64)
  where
    go : Dec (suc p < 64) → (p + 1) % 64 ≡ around 64 (suc p)
    go (yes x) = let z : (p + 1) % 64 ≡ suc p = omega arith in z ∙ around-inside 64 (suc p) x
    go (no x) = let z : (p + 1) % 64 ≡ 0 = omega arith in z ∙ around-outside 64 (suc p) (omega arith)

module _ (marks : List Bool) (long : length marks ≡ 64) where
  at_length : (p q : ℕ) → q ≡ around 64 p → q ≡ around (length marks) p
  at_length p q e = e ∙ ap (λ n. around n p) (sym long)

  -- the search passes what is in use
  seek-at :
      (d n p first : ℕ) →
      d < n →
      first < 64 →
      first ≡ around 64 p →
      ((e : ℕ) → e < d → Marked marks ((first + e) % 64)) →
      Free marks ((first + d) % 64) →
      seek 64 marks n p ≡ (first + d) % 64
  seek-at d zero p first l b e used free = absurd (omega arith)
  seek-at zero (suc n) p first l b e used free =
      seek-free marks 64 n p first (at_length p first e) (subst (Free marks) (at_first first b) free) ∙ sym (at_first first b)
  seek-at (suc d) (suc n) p first l b e used free =
      let next = (first + 1) % 64 in
      let on : (e : ℕ) → (next + e) % 64 ≡ (first + suc e) % 64 = λ e. omega arith in
      seek-used marks 64 n p first (at_length p first e) (subst (Marked marks) (at_first first b) (used 0 (omega arith)))
      ∙ seek-at
      d
      n
      (suc first)
      next
      (omega arith)
      (omega arith)
      (around-next first b)
      (λ e l. subst (Marked marks) (sym (on e)) (used (suc e) (omega arith)))
      (subst (Free marks) (sym (on d)) free)
      ∙ on d

  marked-unless : (i : ℕ) → (Free marks i → ⊥) → Marked marks i
  marked-unless i f = go (get_or marks i true) refl
    where
      go : (b : Bool) → get_or marks i true ≡ b → Marked marks i
      go true e = e
      go false e = absurd (f e)

  module _ (first i best : ℕ) (b : first < 64) (n : Nearest marks first i best) where
    -- one place more
    module _
        (l : i < 64) (d next : ℕ)
        (used : get_or marks i false ≡ true → d ≡ 64 + distance first i)
        (free : get_or marks i false ≡ false → d ≡ distance first i) where
      same-mark : get_or marks i true ≡ get_or marks i false
      same-mark = get_d_any marks i true false (omega arith)

      least-of : next ≤ best → next ≤ d → (j : ℕ) → j < i + 1 → Free marks j → next ≤ distance first j
      least-of h g j k f = go (ℕ_discrete j i)
        where
          go : Dec (j ≡ i) → next ≤ distance first j
          go (yes e) = let z = free (sym same-mark ∙ subst (Free marks) e f) in omega arith
          go (no e) = let z = n.least j (omega arith) f in omega arith

      free-at : d < 64 → Free marks ((first + d) % 64)
      free-at k = go (get_or marks i false) refl
        where
          go : (m : Bool) → get_or marks i false ≡ m → Free marks ((first + d) % 64)
          go true e = let z = used e in absurd (omega arith)
          go false e =
              let z = free e in
              let y : i ≡ (first + d) % 64 = omega arith in
              subst (Free marks) y (same-mark ∙ e)

      pub nearest-taken : d < best → next ≡ d → Nearest marks first (i + 1) next
      nearest-taken h e =
          let z = n.most in
          record { most = omega arith; least = least-of (omega arith) (omega arith); free = λ k. rw e (free-at (omega arith)) }

      pub nearest-passed : best ≤ d → next ≡ best → Nearest marks first (i + 1) next
      nearest-passed h e =
          let z = n.most in
          record { most = omega arith; least = least-of (omega arith) (omega arith); free = λ k. rw e (n.free (omega arith)) }

    -- all places
    module _ (l : 64 ≤ i) (last : ℕ) (e : first ≡ around 64 (last + 1)) where
      searched : next_or 64 marks last ≡ seek 64 marks 64 (last + 1)
      searched = place-first marks 64 long last last refl

      pub nearest-full : best ≡ 64 → None ≡ next_free 64 marks last
      nearest-full f = next-none marks 64 long last (sym (searched ∙ seek-all marks (λ j. marked-unless j (none j)) 64 64 (last + 1)))
        where
          none : (j : ℕ) → Free marks j → ⊥
          none j g = let x = free-inside marks j g in let z = n.least j (omega arith) g in omega arith

      pub nearest-place : (best ≡ 64 → ⊥) → Some ((first + best) % 64) ≡ next_free 64 marks last
      nearest-place f =
          let z = n.most in
          next-some marks 64 long last (omega arith)
          (sym (searched ∙ seek-at best 64 (last + 1) first (omega arith) b e nearer (n.free (omega arith))))
        where
          nearer : (d : ℕ) → d < best → Marked marks ((first + d) % 64)
          nearer d k =
              marked-unless _ (λ g. let z = n.most in let y = n.least ((first + d) % 64) (omega arith) g in omega arith)
