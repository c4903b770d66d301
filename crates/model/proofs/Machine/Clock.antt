-- What a clock move does to each token, and the order in which those now due join the queue: "by due time, then by order of call", and none
-- twice. Each place of the order of call joins or stays, as often as it stands there; what is sorted is ascending, and of equal times as
-- before. Assumes nothing.
use mathlib.Core.Path.{◌≡◌, refl, sym, ◌∙◌, ap}
use mathlib.Core.Bool.{Bool, true, false, not}
use mathlib.Core.List.{List, [], ◌∷◌, map}
use Prim.Native.Nat.{ℕ, ◌+◌, ◌<◌, ◌≤◌}
use native.Mathlib.Omega.{arith}
use lib.ListN.{get_or, get_or-map}
use lib.Dec.{leb, eqb}
use Rattle.job.specs.Test.{select, occurrences, once}
use Rattle.model.specs.Machine.Blank.{blank_token, token_at}
use Rattle.model.specs.Machine.Update.{timers_of}
use Rattle.model.specs.Machine.Clock.{woken_by, insert_by_time, sort_by_time, place_due_by, joining, staying}
use Rattle.model.specs.Machine.WakingOrder.{Ascending, none, single, next, due_at, due_then}
use Rattle.model.specs.declared.token.Token.{Token}
use Rattle.model.specs.declared.record.Machine.{Machine}
use Rattle.job.proofs.Test.{eqb-eq, leb-le, not-leb-lt}
use Rattle.model.proofs.Machine.Selected.{occurrences-kept, occurrences-dropped, occurrences-parted}
use Rattle.model.proofs.Machine.WrittenTokens.{woken-blank}

pub woken-at : (time : ℕ) (ts : List Token) (r : ℕ) → token_at (map (woken_by time) ts) r ≡ woken_by time (token_at ts r)
unfolding token_at
woken-at time ts r = ap (get_or (map (woken_by time) ts) r) (sym (woken-blank time)) ∙ get_or-map (woken_by time) ts r blank_token

module _ (time : ℕ → ℕ) where
  -- p put in front of q and l, or behind q
  abbrev placed : Bool → (p q : ℕ) → (l behind : List ℕ) → List ℕ
  placed b p q l behind = elim b [ true ↦ p ∷ q ∷ l | false ↦ q ∷ behind ]

  insert-occurrences : (x p : ℕ) (l : List ℕ) → occurrences x (insert_by_time time p l) ≡ once (eqb x p) + occurrences x l
  unfolding insert_by_time occurrences
  insert-occurrences x p [] = refl
  insert-occurrences x p (q ∷ l) = go (leb (time p) (time q)) (insert-occurrences x p l)
    where
      go : (b : Bool) → occurrences x (insert_by_time time p l) ≡ once (eqb x p) + occurrences x l
          → occurrences x (placed b p q l (insert_by_time time p l)) ≡ once (eqb x p) + (once (eqb x q) + occurrences x l)
      go true e = refl
      go false e = omega arith

  pub sort-occurrences : (x : ℕ) (l : List ℕ) → occurrences x (sort_by_time time l) ≡ occurrences x l
  unfolding sort_by_time occurrences
  sort-occurrences x [] = refl
  sort-occurrences x (p ∷ l) =
      let e = sort-occurrences x l in let f = insert-occurrences x p (sort_by_time time l) in omega arith

  -- by time
  insert-behind : {q : ℕ} (p : ℕ) {l : List ℕ} → time q ≤ time p → Ascending time (q ∷ l) → Ascending time (q ∷ insert_by_time time p l)
  unfolding insert_by_time
  insert-behind p k single = next k single
  insert-behind {q} p k (next {q = r} {l = l} j a) = go (leb (time p) (time r)) refl (λ i. insert-behind p i a)
    where
      go : (b : Bool) → leb (time p) (time r) ≡ b → (time r ≤ time p → Ascending time (r ∷ insert_by_time time p l))
          → Ascending time (q ∷ placed b p r l (insert_by_time time p l))
      go true e rest = next k (next (leb-le (time p) (time r) e) a)
      go false e rest = next j (rest (let z : time r < time p = not-leb-lt (time p) (time r) e in omega arith))

  insert-ascends : (p : ℕ) {l : List ℕ} → Ascending time l → Ascending time (insert_by_time time p l)
  unfolding insert_by_time
  insert-ascends p none = single
  insert-ascends p (single {p = q}) = go (leb (time p) (time q)) refl
    where
      go : (b : Bool) → leb (time p) (time q) ≡ b → Ascending time (placed b p q [] (p ∷ []))
      go true e = next (leb-le (time p) (time q) e) single
      go false e = next {p = q} {q = p} (let z : time q < time p = not-leb-lt (time p) (time q) e in omega arith) single
  insert-ascends p (next {p = q} {q = r} {l = l} k a) = go (leb (time p) (time q)) refl
    where
      go : (b : Bool) → leb (time p) (time q) ≡ b → Ascending time (placed b p q (r ∷ l) (insert_by_time time p (r ∷ l)))
      go true e = next (leb-le (time p) (time q) e) (next k a)
      go false e = insert-behind p (let z : time q < time p = not-leb-lt (time p) (time q) e in omega arith) (next k a)

  pub sort-ascends : (l : List ℕ) → Ascending time (sort_by_time time l)
  unfolding sort_by_time
  sort-ascends [] = none
  sort-ascends (p ∷ l) = insert-ascends p (sort-ascends l)

  -- then as before
  abbrev kept_if : Bool → ℕ → List ℕ → List ℕ
  kept_if b p l = elim b [ true ↦ p ∷ l | false ↦ l ]

  swapped : (i j : Bool) (p q : ℕ) {X : List ℕ} (R : List ℕ) → (i ≡ true → j ≡ true → ⊥) → X ≡ kept_if i p R
      → kept_if j q X ≡ kept_if i p (kept_if j q R)
  swapped true true p q R n e = absurd (n refl refl)
  swapped true false p q R n e = e
  swapped false j p q R n e = ap (kept_if j q) e

  module _ (due : ℕ) where
    abbrev at : List ℕ → List ℕ
    at l = select (λ x. eqb (time x) due) l

    same-inserted : (p : ℕ) (l : List ℕ) → at (insert_by_time time p l) ≡ kept_if (eqb (time p) due) p (at l)
    unfolding insert_by_time select
    same-inserted p [] = refl
    same-inserted p (q ∷ l) = go (leb (time p) (time q)) refl (same-inserted p l)
      where
        go : (b : Bool) → leb (time p) (time q) ≡ b → at (insert_by_time time p l) ≡ kept_if (eqb (time p) due) p (at l)
            → at (placed b p q l (insert_by_time time p l)) ≡ kept_if (eqb (time p) due) p (at (q ∷ l))
        go true e rest = refl
        go false e rest =
            swapped (eqb (time p) due) (eqb (time q) due) p q (at l)
            (λ f g.
            let x = eqb-eq (time p) due f in
            let y = eqb-eq (time q) due g in
            let z : time q < time p = not-leb-lt (time p) (time q) e in
            omega arith)
            rest

    pub sort-stable : (l : List ℕ) → at (sort_by_time time l) ≡ at l
    unfolding sort_by_time select
    sort-stable [] = refl
    sort-stable (p ∷ l) = same-inserted p (sort_by_time time l) ∙ ap (kept_if (eqb (time p) due) p) (sort-stable l)

-- Those that join the queue, and those that stay in the order of call
module _ (m : Machine) (time : ℕ) where
  pub joining-ascends : Ascending (due_at m) (joining m time)
  unfolding joining
  joining-ascends = sort-ascends (due_at m) (select (place_due_by m time) (timers_of m))

  pub joining-stable : (due : ℕ) → due_then m due (joining m time) ≡ due_then m due (select (place_due_by m time) (timers_of m))
  unfolding joining
  joining-stable due = sort-stable (due_at m) due (select (place_due_by m time) (timers_of m))

  -- each joins or stays, as often as it was called
  pub join-or-stay : (p : ℕ) → occurrences p (joining m time) + occurrences p (staying m time) ≡ occurrences p (timers_of m)
  unfolding joining staying
  join-or-stay p =
      let a = sort-occurrences (due_at m) p (select (place_due_by m time) (timers_of m)) in
      let b = occurrences-parted (place_due_by m time) p (timers_of m) in
      omega arith

  -- one that is due joins and does not stay; one that is not stays and does not join
  pub due-leaves : (p : ℕ) → place_due_by m time p ≡ true → occurrences p (staying m time) ≡ 0
  unfolding staying
  due-leaves p e = occurrences-dropped (λ x. not (place_due_by m time x)) p (timers_of m) (ap not e)

  pub due-joins : (p : ℕ) → place_due_by m time p ≡ true → occurrences p (joining m time) ≡ occurrences p (timers_of m)
  due-joins p e = let a = join-or-stay p in let b = due-leaves p e in omega arith

  pub later-stays : (p : ℕ) → place_due_by m time p ≡ false → occurrences p (staying m time) ≡ occurrences p (timers_of m)
  unfolding staying
  later-stays p e = occurrences-kept (λ x. not (place_due_by m time x)) p (timers_of m) (ap not e)

  pub later-joins-not : (p : ℕ) → place_due_by m time p ≡ false → occurrences p (joining m time) ≡ 0
  later-joins-not p e = let a = join-or-stay p in let b = later-stays p e in omega arith
