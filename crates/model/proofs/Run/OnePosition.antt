-- A ready token has exactly one position in the queue of a record that keeps the rules: the queue names it once, and a number that stands
-- once in a list stands at one index. Assumes nothing.
use mathlib.Core.Path.{◌≡◌, sym, ◌∙◌, ap}
use mathlib.Core.Bool.{true}
use mathlib.Core.List.{List, [], ◌∷◌}
use Prim.Native.Nat.{ℕ, zero, suc, ◌<◌}
use native.Mathlib.Decide.{dec_lt, ℕ_discrete}
use native.Mathlib.Omega.{arith}
use lib.ListN.{length, get_or, take}
use lib.Seq.{length-take-le, get_or-take}
use lib.Dec.{eqb}
use Rattle.job.specs.Test.{occurrences, once}
use Rattle.job.specs.Node.{Dag}
use Rattle.model.specs.Machine.Limits.{Limits}
use Rattle.model.specs.Machine.Blank.{token_at}
use Rattle.model.specs.Machine.Rules.{rules_hold}
use Rattle.model.specs.Machine.State.{is_ready}
use Rattle.model.specs.declared.record.Machine.{Machine}
use Rattle.job.proofs.Test.{eq-eqb, ne_eqb}
use Rattle.model.proofs.Machine.Rules.{each-rule-holds, NamesOnce, names-once, occurrences-at, ready-live}
use Rattle.model.proofs.Machine.TableRows.{live_inside}

-- a number that is counted stands somewhere, and one that stands at two indices is counted twice
occurrences-index : (n : ℕ) (xs : List ℕ) → 0 < occurrences n xs → (i : ℕ) × (i < length xs) × (get_or xs i 0 ≡ n)
unfolding occurrences
occurrences-index n [] l = absurd (omega arith)
occurrences-index n (x ∷ xs) l = go (ℕ_discrete n x) (occurrences-index n xs)
  where
    go : Dec (n ≡ x) → (0 < occurrences n xs → (i : ℕ) × (i < length xs) × (get_or xs i 0 ≡ n))
        → (i : ℕ) × (i < length (x ∷ xs)) × (get_or (x ∷ xs) i 0 ≡ n)
    go (yes e) f = (0, omega arith, sym e)
    go (no e) f =
        let z : once (eqb n x) ≡ 0 = ap once (ne_eqb n x e) in let r = f (omega arith) in let k = r.1 in (suc r.0, omega arith, r.2)

occurrences-two : (xs : List ℕ) (i j : ℕ) → i < j → j < length xs → get_or xs i 0 ≡ get_or xs j 0 → 1 < occurrences (get_or xs j 0) xs
unfolding occurrences
occurrences-two [] i j a l e = absurd (omega arith)
occurrences-two (x ∷ xs) i zero a l e = absurd (omega arith)
occurrences-two (x ∷ xs) zero (suc j) a l e =
    let z : once (eqb (get_or xs j 0) x) ≡ 1 = ap once (eq-eqb (get_or xs j 0) x (sym e)) in
    let y = occurrences-at xs j (omega arith) in omega arith
occurrences-two (x ∷ xs) (suc i) (suc j) a l e = let z = occurrences-two xs i j (omega arith) (omega arith) e in omega arith

module _ (lim : Limits) (d : Dag) (m : Machine) (rules : rules_hold lim d m ≡ true) (p : ℕ)
    (ready : is_ready (token_at m.tokens p).state ≡ true) where
  names : NamesOnce is_ready m.tokens m.queue m.queued
  names = names-once is_ready m.tokens m.queue m.queued (each-rule-holds lim d m rules).queue

  abbrev order : List ℕ
  order = take m.queued m.queue

  long : length order ≡ m.queued
  long = length-take-le m.queued m.queue names.fits

  once-named : occurrences p order ≡ 1
  once-named = names.counts p (live_inside m.tokens p (ready-live _ ready)) ∙ ap once ready

  at : (k : ℕ) → k < m.queued → get_or order k 0 ≡ get_or m.queue k 0
  at k l = get_or-take m.queued m.queue k 0 l

  apart : (i j : ℕ) → i < j → j < m.queued → get_or m.queue i 0 ≡ p → get_or m.queue j 0 ≡ p → ⊥
  apart i j a l e f =
      let here : get_or order j 0 ≡ p = at j l ∙ f in
      let there : get_or order i 0 ≡ p = at i (omega arith) ∙ e in
      let z : 1 < occurrences (get_or order j 0) order = occurrences-two order i j a (omega (arith, long)) (there ∙ sym here) in
      let y : occurrences (get_or order j 0) order ≡ 1 = ap (λ n. occurrences n order) here ∙ once-named in
      omega arith

  pub one-position : (k : ℕ) × (k < m.queued) × (get_or m.queue k 0 ≡ p) × ((j : ℕ) → j < m.queued → get_or m.queue j 0 ≡ p → j ≡ k)
  one-position =
      let found = occurrences-index p order (let z = once-named in omega arith) in
      let k : ℕ = found.0 in
      let l : k < m.queued = omega (arith, long, found.1) in
      let e : get_or m.queue k 0 ≡ p = sym (at k l) ∙ found.2 in
      (k, l, e, λ j i f. same k j l i e f (dec_lt j k) (dec_lt k j))
    where
      same : (k j : ℕ) → k < m.queued → j < m.queued → get_or m.queue k 0 ≡ p → get_or m.queue j 0 ≡ p → Dec (j < k) → Dec (k < j)
          → j ≡ k
      same k j l i e f (yes a) b = absurd (apart j k a l f e)
      same k j l i e f (no a) (yes b) = absurd (apart k j b i e f)
      same k j l i e f (no a) (no b) = omega arith
