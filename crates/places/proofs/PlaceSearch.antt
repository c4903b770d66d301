-- The search for a free place: it comes by every place, so it finds one where not all are marked. A last place out of range counts as the
-- last there is. Assumes nothing.
use mathlib.Core.Path.{◌≡◌, refl, sym, ◌∙◌, ap, ap₂, subst}
use mathlib.Core.Bool.{Bool, true, false, not}
use mathlib.Core.List.{List}
use Rattle.std.specs.Prelude.{Some, None}
use Prim.Native.Nat.{ℕ, zero, suc, ◌+◌, ◌-◌, ◌≤◌, ◌<◌}
use native.Mathlib.Decide.{dec_lt}
use native.Mathlib.Numerals.{add-one}
use native.Mathlib.Omega.{arith}
use borrow.Author.Tests.{lt-ltb, le-ltb, ltb-false, not-true, not-false}
use lib.Dec.{ltb}
use lib.ListN.{length, get_or}
use Rattle.model.specs.Machine.InUse.{marked}
use Rattle.model.specs.Machine.FreePlace.{around, free_from, next_place}
use Rattle.job.proofs.Test.{clash, ltb-lt}
use Rattle.model.proofs.Machine.Marks.{Marked, Free, free-inside, marked_all, some-free}
use Rattle.reach.specs.Marks.{next_free}
use Rattle.job.proofs.Lists.{get_d_any}

pub around-inside : (n p : ℕ) → p < n → p ≡ around n p
unfolding around
around-inside n p l = sym (rw (lt-ltb p n l, around) refl)

pub around-outside : (n p : ℕ) → n ≤ p → 0 ≡ around n p
unfolding around
around-outside n p l = sym (rw (le-ltb p n l, around) refl)

-- the next place, or the size where all places are marked
unfoldable pub next_or : (n : ℕ) → List Bool → (last : ℕ) → ℕ
next_or n marks last = elim (ltb (marked marks) n) as (λ b. ℕ) [ true ↦ next_place marks last | false ↦ n ]

-- the first place from p on that is not marked, of the next n, or what the code answers at the end
unfoldable pub seek : ℕ → List Bool → ℕ → ℕ → ℕ
seek end marks zero p = end
seek end marks (suc n) p = let q = around (length marks) p in elim (get_or marks q true) [ true ↦ seek end marks n (suc q) | false ↦ q ]

from-seek : (marks : List Bool) (n p : ℕ) → free_from marks n p ≡ seek 0 marks n p
unfolding free_from seek
from-seek marks zero p = refl
from-seek marks (suc n) p =
    let q = around (length marks) p in
    ap (λ (r : ℕ). elim (get_or marks q true) as (λ b. ℕ) [ true ↦ r | false ↦ q ]) (from-seek marks n (suc q))

module _ (marks : List Bool) where
  -- the search at the place q, with n places after it
  look : ℕ → ℕ → ℕ → ℕ
  look end n q = elim (get_or marks q true) [ true ↦ seek end marks n (suc q) | false ↦ q ]

  looks : (end n p q : ℕ) → q ≡ around (length marks) p → seek end marks (suc n) p ≡ look end n q
  unfolding seek look
  looks end n p q e = sym (ap (look end n) e)

  pub seek-free : (end n p q : ℕ) → q ≡ around (length marks) p → Free marks q → seek end marks (suc n) p ≡ q
  unfolding look
  seek-free end n p q e f = looks end n p q e ∙ rw (f, look)

  pub seek-used : (end n p q : ℕ) → q ≡ around (length marks) p → Marked marks q → seek end marks (suc n) p ≡ seek end marks n (suc q)
  unfolding look
  seek-used end n p q e f = looks end n p q e ∙ rw (f, look)

  -- a search that finds a place, so that its end is all the same
  record Found (n p : ℕ) : Type 0 where
    place : Free marks (seek 0 marks n p)
    same : (end : ℕ) → seek end marks n p ≡ seek 0 marks n p

  found-on : (n p q : ℕ) → q ≡ around (length marks) p → (Marked marks q → Found n (suc q)) → Found (suc n) p
  found-on n p q e h = go (get_or marks q true) refl
    where
      go : (b : Bool) → get_or marks q true ≡ b → Found (suc n) p
      go true m =
          let s : (end : ℕ) → seek end marks (suc n) p ≡ seek end marks n (suc q) = λ end. seek-used end n p q e m in
          record { place = subst (Free marks) (sym (s 0)) (h m).place; same = λ end. s end ∙ (h m).same end ∙ sym (s 0) }
      go false f =
          let s : (end : ℕ) → seek end marks (suc n) p ≡ q = λ end. seek-free end n p q e f in
          record { place = subst (Free marks) (sym (s 0)) f; same = λ end. s end ∙ sym (s 0) }

  later : (q j : ℕ) → Marked marks q → Free marks j → q ≤ j → q < j
  later q j m f l = let n : q ≡ j → ⊥ = λ e. clash m (ap (λ x. get_or marks x true) e ∙ f) in omega arith

  -- the free place j lies ahead
  ahead : (n q j : ℕ) → Free marks j → j < length marks → q ≤ j → j < q + n → Found n q
  ahead zero q j f l k h = absurd (omega arith)
  ahead (suc n) q j f l k h =
      found-on n q q (around-inside (length marks) q (omega arith)) (λ m. ahead n (suc q) j f l (later q j m f k) (omega arith))

  -- the search turns at the end
  turned : (n q j : ℕ) → Free marks j → j < length marks → length marks ≤ q → j ≤ n → Found (suc n) q
  turned n q j f l k h =
      found-on n q 0 (around-outside (length marks) q k) (λ m. ahead n 1 j f l (later 0 j m f (omega arith)) (omega arith))

  -- the free place j comes after the turn
  behind : (n q j : ℕ) → Free marks j → j < length marks → q ≤ length marks → length marks + j < q + n → Found n q
  behind zero q j f l k h = absurd (omega arith)
  behind (suc n) q j f l k h = go (dec_lt q (length marks)) (λ x. behind n (suc q) j f l (omega arith) (omega arith))
    where
      go : Dec (q < length marks) → (q < length marks → Found n (suc q)) → Found (suc n) q
      go (yes x) next = found-on n q q (around-inside (length marks) q x) (λ m. next x)
      go (no x) next = turned n q j f l (omega arith) (omega arith)

  finds : (last : ℕ) → marked marks < length marks → Found (length marks) (suc last)
  finds last h = let x = some-free marks h in
      go x.0 x.1 (free-inside marks x.0 x.1) (dec_lt last x.0) (dec_lt last (length marks))
    where
      go : (j : ℕ) → Free marks j → j < length marks → Dec (last < j) → Dec (last < length marks) → Found (length marks) (suc last)
      go j f k (yes x) d = ahead (length marks) (suc last) j f k (omega arith) (omega arith)
      go j f k (no x) (yes y) = behind (length marks) (suc last) j f k (omega arith) (omega arith)
      go j f k (no x) (no y) =
          let z : suc (length marks - 1) ≡ length marks = omega arith in
          subst (λ n. Found n (suc last)) z (turned (length marks - 1) (suc last) j f k (omega arith) (omega arith))

  -- where there is a place, the next one is free
  pub next-free : (last : ℕ) → marked marks < length marks → Free marks (next_place marks last)
  unfolding next_place
  next-free last h = subst (Free marks) (sym (from-seek marks (length marks) (suc last))) (finds last h).place

  -- where there is none, the search comes to its end
  pub seek-all : ((i : ℕ) → Marked marks i) → (end n p : ℕ) → seek end marks n p ≡ end
  unfolding seek
  seek-all h end zero p = refl
  seek-all h end (suc n) p =
      let q = around (length marks) p in seek-used end n p q refl (h q) ∙ seek-all h end n (suc q)

  module _ (size : ℕ) (long : length marks ≡ size) where
    next-room : (last : ℕ) → ltb (marked marks) size ≡ true → next_or size marks last ≡ next_place marks last
    unfolding next_or
    next-room last e = rw (e, next_or)

    next-full : (last : ℕ) → ltb (marked marks) size ≡ false → next_or size marks last ≡ size
    unfolding next_or
    next-full last e = rw (e, next_or)

    inside : ltb (marked marks) size ≡ true → marked marks < length marks
    inside e = let z = ltb-lt (marked marks) size e in omega arith

    -- an answer below the size is a place, and there was one
    room : (last : ℕ) → next_or size marks last < size → ltb (marked marks) size ≡ true
    room last h = go (ltb (marked marks) size) refl
      where
        go : (b : Bool) → ltb (marked marks) size ≡ b → ltb (marked marks) size ≡ true
        go true e = e
        go false e = let z = next-full last e in absurd (omega arith)

    -- the size itself says that there is none
    full : (last : ℕ) → next_or size marks last ≡ size → ltb (marked marks) size ≡ false
    full last h = go (ltb (marked marks) size) refl
      where
        go : (b : Bool) → ltb (marked marks) size ≡ b → ltb (marked marks) size ≡ false
        go false e = e
        go true e =
            let l = free-inside marks (next_place marks last) (next-free last (inside e)) in
            let z = next-room last e in
            absurd (omega arith)

    -- the answer of a search
    pub next-some : {q : ℕ} (last : ℕ) → q < size → q ≡ next_or size marks last → Some q ≡ next_free size marks last
    unfolding next_free
    next-some last l e =
        let r = room last (subst (λ p. p < size) e l) in
        ap Some (e ∙ next-room last r) ∙ sym (rw (r, next_free) refl)

    pub next-none : (last : ℕ) → size ≡ next_or size marks last → None ≡ next_free size marks last
    unfolding next_free
    next-none last e = sym (rw (full last (sym e), next_free) refl)

    -- the search begins after the last place given
    pub place-first : (last p : ℕ) → p ≡ last → next_or size marks last ≡ seek size marks (size - 0) (p + 1)
    unfolding next_place
    place-first last p e =
        let z : length marks ≡ size - 0 = omega arith in
        go (ltb (marked marks) size) refl ∙ ap₂ (λ n q. seek size marks n q) z (sym (add-one last) ∙ ap (λ n. n + 1) (sym e))
      where
        go : (b : Bool) → ltb (marked marks) size ≡ b → next_or size marks last ≡ seek size marks (length marks) (suc last)
        go true f =
            next-room last f ∙ from-seek marks (length marks) (suc last) ∙ sym ((finds last (inside f)).same size)
        go false f =
            let l = ltb-false (marked marks) size f in
            next-full last f ∙ sym (seek-all (marked_all marks (omega arith)) size (length marks) (suc last))

    -- k places are looked at, and the search goes on at p, which is q in the table
    module _ (k p end : ℕ) (left : end ≡ seek size marks (size - k) p) where
      pub place_none : size ≤ k → size ≡ end
      unfolding seek
      place_none h = let z : size - k ≡ 0 = omega arith in sym (left ∙ ap (λ n. seek size marks n p) z)

      module _ (q : ℕ) (place : q ≡ around size p) (h : k < size) (below : q < size) where
        here : end ≡ seek size marks (suc (size - (k + 1))) p
        here = let z : size - k ≡ suc (size - (k + 1)) = omega arith in left ∙ ap (λ n. seek size marks n p) z

        turn : q ≡ around (length marks) p
        turn = place ∙ ap (λ n. around n p) (sym long)

        mark-at : (b : Bool) → get_or marks q false ≡ b → get_or marks q true ≡ b
        mark-at b e = get_d_any marks q true false (omega arith) ∙ e

        pub place_found : not (get_or marks q false) ≡ true → q ≡ end
        place_found e = sym (here ∙ seek-free size (size - (k + 1)) p q turn (mark-at false (not-true _ e)))

        pub place-next : not (get_or marks q false) ≡ false → end ≡ seek size marks (size - (k + 1)) (q + 1)
        place-next e =
            here
            ∙ seek-used size (size - (k + 1)) p q turn (mark-at true (not-false _ e))
            ∙ ap (seek size marks (size - (k + 1))) (sym (add-one q))

    -- one of the first two places
    module _ (last after first : ℕ) (e : after ≡ last) (f : first ≡ around size (after + 1)) (b : first < size) where
      pub place-one : not (get_or marks first false) ≡ true → first ≡ next_or size marks last
      place-one = place_found 0 _ _ (place-first last after e) first f (omega arith) b

      pub place-two : not (get_or marks first false) ≡ false → (second : ℕ) → second ≡ around size (first + 1) → 1 < size → second < size
          → not (get_or marks second false) ≡ true → second ≡ next_or size marks last
      place-two used second g l below =
          place_found 1 _ _ (place-next 0 _ _ (place-first last after e) first f (omega arith) b used) second g l below
