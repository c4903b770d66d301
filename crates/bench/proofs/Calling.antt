-- The loops of the timed calls go call by call and round by round as their definitions do: what is left to do makes what was to be made.
-- Assumes nothing.
use mathlib.Core.Path.{◌≡◌, refl, sym, ap, subst, ◌∙◌}
use mathlib.Core.Bool.{true, false}
use mathlib.Core.List.{List}
use Prim.Native.Nat.{ℕ, suc, ◌-◌, ◌≤◌, ◌<◌}
use native.Mathlib.Omega.{arith}
use lib.Dec.{ltb}
use lib.IntN.{pos}
use lib.ListN.{length, get_or}
use Rattle.job.proofs.Test.{lt-ltb, le-not-ltb}
use Rattle.model.specs.declared.reply.Report.{Report}
use Rattle.record.specs.LayoutDecoded.{machine_of}
use Rattle.machine.specs.PublicCalls.{HasResult, start_on, step_on, answer_on}
use Rattle.bench.specs.Timed.{Made, calls_from, one_round, rounds_from}

module _ (dag handles : List ℕ) (k n at : ℕ) (ws : List ℕ) where
  step-next : ltb 0 (machine_of ws).queued ≡ true
      → calls_from dag handles (suc k) n at ws ≡ calls_from dag handles k (suc n) at (step_on dag ws 0).words
  unfolding calls_from
  step-next e = rw (e, calls_from) refl

  answer-next : ltb 0 (machine_of ws).queued ≡ false → ltb at (length handles) ≡ true
      → calls_from dag handles (suc k) n at ws
      ≡ calls_from dag handles k (suc n) (suc at) (answer_on dag ws (get_or handles at 0) (pos 7)).words
  unfolding calls_from
  answer-next e f = rw (e, f, calls_from) refl

  none-next : ltb 0 (machine_of ws).queued ≡ false → ltb at (length handles) ≡ false
      → calls_from dag handles (suc k) n at ws ≡ record { count = n; words = ws }
  unfolding calls_from
  none-next e f = rw (e, f, calls_from) refl

-- the calls that are left make what was to be made
abbrev pub Left : (dag handles : List ℕ) (made : Made) (most n at : ℕ) → List ℕ → Type 0
Left dag handles made most n at ws = calls_from dag handles (most - n) n at ws ≡ made

-- before the first call
pub calls-all : (dag handles : List ℕ) (most : ℕ) (ws : List ℕ) → Left dag handles (calls_from dag handles most 0 0 ws) most 0 0 ws
calls-all dag handles most ws = let z : most - 0 ≡ most = omega arith in ap (λ (k : ℕ). calls_from dag handles k 0 0 ws) z

-- what a start leaves is where a round begins
pub in-round : (dag handles : List ℕ) (most : ℕ) (before ws : List ℕ) (r : Report) → HasResult (start_on dag before) r ws
    → {n : ℕ} {xs : List ℕ}
    → (n ≡ (calls_from dag handles most 0 0 ws).count) × (xs ≡ (calls_from dag handles most 0 0 ws).words)
    → (n ≡ (one_round dag handles most before).count) × (xs ≡ (one_round dag handles most before).words)
unfolding one_round
in-round dag handles most before ws r result {n} {xs} =
    subst
    (λ (x : List ℕ). (n ≡ (calls_from dag handles most 0 0 x).count) × (xs ≡ (calls_from dag handles most 0 0 x).words))
    result.words

module _ (dag handles : List ℕ) (made : Made) where
  -- no call is left to make
  pub calls-over : (most n at : ℕ) (ws : List ℕ) → most ≤ n → Left dag handles made most n at ws → (n ≡ made.count) × (ws ≡ made.words)
  unfolding calls_from
  calls-over most n at ws l e =
      let z : most - n ≡ 0 = omega arith in
      let f = sym (ap (λ (k : ℕ). calls_from dag handles k n at ws) z) ∙ e in
      (ap (λ (x : Made). x.count) f, ap (λ (x : Made). x.words) f)

  module _ (most n at : ℕ) (ws : List ℕ) (l : n < most) (e : Left dag handles made most n at ws) (q : ℕ)
      (is : q ≡ (machine_of ws).queued) where
    here : calls_from dag handles (suc (most - suc n)) n at ws ≡ made
    here = let z : most - n ≡ suc (most - suc n) = omega arith in sym (ap (λ (k : ℕ). calls_from dag handles k n at ws) z) ∙ e

    empty : q ≤ 0 → ltb 0 (machine_of ws).queued ≡ false
    empty none = le-not-ltb 0 (machine_of ws).queued (omega arith)

    -- no handle is left
    pub handles-over : q ≤ 0 → length handles ≤ at → (n ≡ made.count) × (ws ≡ made.words)
    handles-over none few =
        let f = sym (none-next dag handles (most - suc n) n at ws (empty none) (le-not-ltb at (length handles) few)) ∙ here in
        (ap (λ (x : Made). x.count) f, ap (λ (x : Made). x.words) f)

    -- a step
    pub call-stepped : 0 < q → (r : Report) (next xs : List ℕ) → HasResult (step_on dag ws 0) r next → (m a : ℕ) → m ≡ suc n → a ≡ at
        → xs ≡ next
        → Left dag handles made most m a xs
    call-stepped some r next xs result m a c d f =
        subst (λ (x : ℕ). Left dag handles made most x a xs) (sym c)
        (subst (λ (x : ℕ). Left dag handles made most (suc n) x xs) (sym d)
        (subst (λ (x : List ℕ). Left dag handles made most (suc n) at x) (sym (f ∙ result.words))
        (sym (step-next dag handles (most - suc n) n at ws (lt-ltb 0 (machine_of ws).queued (omega arith))) ∙ here)))

    -- an answer
    pub call-answered : q ≤ 0 → at < length handles → (r : Report) (next xs : List ℕ)
        → HasResult (answer_on dag ws (get_or handles at 0) (pos 7)) r next → (m a : ℕ) → m ≡ suc n → a ≡ suc at → xs ≡ next
        → Left dag handles made most m a xs
    call-answered none some r next xs result m a c d f =
        subst (λ (x : ℕ). Left dag handles made most x a xs) (sym c)
        (subst (λ (x : ℕ). Left dag handles made most (suc n) x xs) (sym d)
        (subst (λ (x : List ℕ). Left dag handles made most (suc n) (suc at) x) (sym (f ∙ result.words))
        (sym (answer-next dag handles (most - suc n) n at ws (empty none) (lt-ltb at (length handles) some)) ∙ here)))

-- the rounds that are left make what was to be made
abbrev pub RoundsLeft : (dag handles : List ℕ) (most rounds : ℕ) (all : Made) (i : ℕ) → Made → Type 0
RoundsLeft dag handles most rounds all i made = rounds_from dag handles most (rounds - i) made ≡ all

-- before the first round
pub rounds-all : (dag handles : List ℕ) (most rounds : ℕ) (made : Made)
    → RoundsLeft dag handles most rounds (rounds_from dag handles most rounds made) 0 made
rounds-all dag handles most rounds made =
    let z : rounds - 0 ≡ rounds = omega arith in ap (λ (k : ℕ). rounds_from dag handles most k made) z

module _ (dag handles : List ℕ) (most rounds : ℕ) (all : Made) where
  -- a round more
  pub round-made : (i j : ℕ) (made after : Made) → i < rounds → j ≡ suc i → after ≡ one_round dag handles most made.words
      → RoundsLeft dag handles most rounds all i made → RoundsLeft dag handles most rounds all j after
  unfolding rounds_from
  round-made i j made after l s e left =
      let z : rounds - i ≡ suc (rounds - suc i) = omega arith in
      let f : rounds_from dag handles most (rounds - suc i) (one_round dag handles most made.words) ≡ all =
      sym (ap (λ (k : ℕ). rounds_from dag handles most k made) z) ∙ left in
      subst (λ (x : ℕ). RoundsLeft dag handles most rounds all x after) (sym s)
      (subst (λ (x : Made). RoundsLeft dag handles most rounds all (suc i) x) (sym e) f)

  -- no round is left
  pub rounds-over : (i : ℕ) (made : Made) → rounds ≤ i → RoundsLeft dag handles most rounds all i made → made ≡ all
  unfolding rounds_from
  rounds-over i made l left = let z : rounds - i ≡ 0 = omega arith in sym (ap (λ (k : ℕ). rounds_from dag handles most k made) z) ∙ left

-- the dag that was loaded
pub rounds-on : {dag loaded : List ℕ} → dag ≡ loaded → (handles : List ℕ) (most rounds n : ℕ) (made : Made)
    → n ≡ (rounds_from dag handles most rounds made).count → n ≡ (rounds_from loaded handles most rounds made).count
rounds-on e handles most rounds n made = subst (λ (d : List ℕ). n ≡ (rounds_from d handles most rounds made).count) e

-- count and words of a round
pub round-parts : (made : Made) {n : ℕ} {ws : List ℕ} → (n ≡ made.count) × (ws ≡ made.words) → record { count = n; words = ws } ≡ made
round-parts made {n} {ws} e =
    ap (λ (x : ℕ). record { count = x; words = ws }) e.0 ∙ ap (λ (x : List ℕ). record { count = made.count; words = x }) e.1
