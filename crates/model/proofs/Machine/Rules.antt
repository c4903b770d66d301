-- What the index rules say, rule by rule: the test of all of them is taken apart, and the tests of the orders are turned into facts on the
-- places they name. Assumes nothing.
use mathlib.Core.Path.{◌≡◌, refl, ◌∙◌, ap, subst}
use mathlib.Core.Bool.{Bool, true}
use mathlib.Core.List.{List, [], ◌∷◌}
use Prim.Native.Nat.{ℕ, zero, suc, ◌+◌, ◌<◌, ◌≤◌}
use native.Mathlib.Omega.{arith}
use lib.ListN.{length, get_or, take, drop}
use lib.Seq.{get_or-take, length-take-le}
use lib.Dec.{ltb, leb, eqb}
use Rattle.job.specs.Test.{◌and◌, for_all, all_from, occurrences, once, distinct}
use Rattle.job.specs.Site.{last_time}
use Rattle.job.specs.Node.{Dag, dag_holds}
use Rattle.model.specs.Machine.Limits.{Limits}
use Rattle.model.specs.Machine.Blank.{blank_token, token_at, token_is_blank, cell_is_blank}
use Rattle.model.specs.Machine.State.{is_live, is_ready, is_waiting, is_due}
use Rattle.model.specs.Machine.InUse.{tokens_used, cells_used}
use Rattle.model.specs.Machine.Rules as rules
use Rattle.model.specs.Machine.Rules.{names_once, rest_is_blank, machine_holds, rules_hold}
use Rattle.model.specs.declared.token.State.{State}
use Rattle.model.specs.declared.token.State.TheVariants as states
use Rattle.model.specs.declared.token.Token.{Token}
use Rattle.model.specs.declared.record.Machine.{Machine}
use Rattle.job.proofs.Test.{clash, and_left, and_right, all-at, eqb-eq, eqb_same, leb-le, ltb-lt, once-true}

both : (a b : Bool) → (a and b) ≡ true → (a ≡ true) × (b ≡ true)
both a b e = (and_left a b e, and_right a b e)

-- the rules, in their order
pub record EachRuleHolds (lim : Limits) (d : Dag) (m : Machine) : Type 0 where
  pub dag : dag_holds d ≡ true
  pub sizes : rules.sizes_in_range lim m ≡ true
  pub tokens : for_all (rules.token_in_range lim d m.calls) m.tokens ≡ true
  pub cells : for_all (rules.cell_in_range lim) m.cells ≡ true
  pub queue : names_once is_ready m.tokens m.queue m.queued ≡ true
  pub chains : rules.chains_end m.cells ≡ true
  pub under : for_all (rules.not_under_set m.cells) m.tokens ≡ true
  pub handles : distinct (rules.open_handles m.tokens) ≡ true
  pub waits : names_once is_waiting m.tokens m.waits m.waiting ≡ true
  pub unset : for_all (λ (t : Token). rules.waits_at_unset m.cells t.state) m.tokens ≡ true
  pub nodes : for_all (rules.at_node d m.tokens) m.tokens ≡ true
  pub blank_tokens : rest_is_blank token_is_blank (tokens_used m) m.tokens ≡ true
  pub blank_cells : rest_is_blank cell_is_blank (cells_used m) m.cells ≡ true
  pub clock : leb m.clock last_time ≡ true
  pub dues : for_all (λ (t : Token). rules.due_in_range m.clock t.state) m.tokens ≡ true
  pub timers : names_once is_due m.tokens m.timers m.timed ≡ true

pub each-rule-holds : (lim : Limits) (d : Dag) (m : Machine) → rules_hold lim d m ≡ true → EachRuleHolds lim d m
unfolding rules_hold machine_holds rules.clock_holds
each-rule-holds lim d m e =
    let dag = both _ _ e in
    let sizes = both _ _ dag.1 in
    let tokens = both _ _ sizes.1 in
    let cells = both _ _ tokens.1 in
    let queue = both _ _ cells.1 in
    let chains = both _ _ queue.1 in
    let under = both _ _ chains.1 in
    let handles = both _ _ under.1 in
    let waits = both _ _ handles.1 in
    let unset = both _ _ waits.1 in
    let nodes = both _ _ unset.1 in
    let blanks = both _ _ nodes.1 in
    let blank_cells = both _ _ blanks.1 in
    let clock = both _ _ blank_cells.1 in
    let dues = both _ _ clock.1 in
    record {
      dag = dag.0;
      sizes = sizes.0;
      tokens = tokens.0;
      cells = cells.0;
      queue = queue.0;
      chains = chains.0;
      under = under.0;
      handles = handles.0;
      waits = waits.0;
      unset = unset.0;
      nodes = nodes.0;
      blank_tokens = blanks.0;
      blank_cells = blank_cells.0;
      clock = clock.0;
      dues = dues.0;
      timers = dues.1;
    }

-- an order that names each token of a kind once
pub record NamesOnce (of : State → Bool) (ts : List Token) (array : List ℕ) (n : ℕ) : Type 0 where
  pub size : length array ≡ length ts
  pub fits : n ≤ length array
  pub inside : for_all (λ (p : ℕ). ltb p (length ts)) (take n array) ≡ true
  pub counts : (p : ℕ) → p < length ts → occurrences p (take n array) ≡ once (of (token_at ts p).state)
  pub rest : for_all (eqb 0) (drop n array) ≡ true

all-from-at :
    {A : Type 0} (test : ℕ → A → Bool) (i : ℕ) (xs : List A) (k : ℕ) (x : A)
    → all_from test i xs ≡ true
    → k < length xs
    → test (i + k) (get_or xs k x) ≡ true
unfolding all_from
all-from-at test i [] k x e l = absurd (omega arith)
all-from-at test i (y ∷ xs) zero x e l = subst (λ n. test n y ≡ true) (let z : i ≡ i + 0 = omega arith in z) (and_left _ _ e)
all-from-at test i (y ∷ xs) (suc k) x e l =
    subst (λ n. test n (get_or xs k x) ≡ true) (let z : suc i + k ≡ i + suc k = omega arith in z)
    (all-from-at test (suc i) xs k x (and_right _ _ e) (omega arith))

pub names-once : (of : State → Bool) (ts : List Token) (array : List ℕ) (n : ℕ) → names_once of ts array n ≡ true → NamesOnce of ts array n
unfolding names_once token_at
names-once of ts array n e =
    let size = both _ _ e in
    let fits = both _ _ size.1 in
    let inside = both _ _ fits.1 in
    let counts = both _ _ inside.1 in
    record {
      size = eqb-eq (length array) (length ts) size.0;
      fits = leb-le n (length array) fits.0;
      inside = inside.0;
      counts = λ p l. eqb-eq _ _ (at p l counts.0);
      rest = counts.1;
    }
  where
    test : ℕ → Token → Bool
    test p t = eqb (occurrences p (take n array)) (once (of t.state))

    at : (p : ℕ) → p < length ts → all_from test 0 ts ≡ true → test p (get_or ts p blank_token) ≡ true
    at p l h = subst (λ i. test i (get_or ts p blank_token) ≡ true) (let z : 0 + p ≡ p = omega arith in
        z) (all-from-at test 0 ts p blank_token h l)

-- what stands in a list is counted there
pub occurrences-here : (n : ℕ) (xs : List ℕ) → occurrences n (n ∷ xs) ≡ suc (occurrences n xs)
unfolding occurrences
occurrences-here n xs = rw (eqb_same n) (omega arith)

pub occurrences-at : (xs : List ℕ) (k : ℕ) → k < length xs → 0 < occurrences (get_or xs k 0) xs
unfolding occurrences
occurrences-at [] k l = absurd (omega arith)
occurrences-at (x ∷ xs) zero l = rw (eqb_same x) (omega arith)
occurrences-at (x ∷ xs) (suc k) l = let z = occurrences-at xs k (omega arith) in omega arith

-- each place that the order names is in the table, and the token there is of the kind
module _ (of : State → Bool) (ts : List Token) (array : List ℕ) (n : ℕ) (o : NamesOnce of ts array n) (k : ℕ) (l : k < n) where
  at_take : get_or (take n array) k 0 ≡ get_or array k 0
  at_take = get_or-take n array k 0 l

  short : k < length (take n array)
  short = let y : n ≤ length array = o.fits in let z : length (take n array) ≡ n = length-take-le n array y in omega arith

  pub order-inside : get_or array k 0 < length ts
  order-inside = subst (λ p. p < length ts) at_take
      (ltb-lt _ _ (all-at (λ (p : ℕ). ltb p (length ts)) (take n array) k 0 o.inside short))

  pub order-names : of (token_at ts (get_or array k 0)).state ≡ true
  order-names =
      once-true _
      (subst (λ i. 0 < i) (o.counts (get_or array k 0) order-inside)
      (subst (λ p. 0 < occurrences p (take n array)) at_take (occurrences-at (take n array) k short)))

-- how many places there are, and that the last ones given are among them
module _ (lim : Limits) (d : Dag) (m : Machine) (holds : rules_hold lim d m ≡ true) where
  each : EachRuleHolds lim d m
  each = each-rule-holds lim d m holds

  pub tokens-sized : length m.tokens ≡ lim.token_places
  unfolding rules.sizes_in_range
  tokens-sized = eqb-eq _ _ (and_left _ _ each.sizes)

  pub cells-sized : length m.cells ≡ lim.cell_places
  unfolding rules.sizes_in_range
  cells-sized = eqb-eq _ _ (and_left _ _ (and_right _ _ each.sizes))

  pub lasttoken-inside : m.lasttoken < lim.token_places
  unfolding rules.sizes_in_range
  lasttoken-inside = ltb-lt _ _ (and_left _ _ (and_right _ _ (and_right _ _ (and_right _ _ each.sizes))))

  pub lastcell-inside : m.lastcell < lim.cell_places
  unfolding rules.sizes_in_range
  lastcell-inside = ltb-lt _ _ (and_right _ _ (and_right _ _ (and_right _ _ (and_right _ _ each.sizes))))

  pub queue-sized : length m.queue ≡ lim.token_places
  queue-sized = (names-once is_ready m.tokens m.queue m.queued each.queue).size ∙ tokens-sized

  pub waits-sized : length m.waits ≡ lim.token_places
  waits-sized = (names-once is_waiting m.tokens m.waits m.waiting each.waits).size ∙ tokens-sized

  pub timers-sized : length m.timers ≡ lim.token_places
  timers-sized = (names-once is_due m.tokens m.timers m.timed each.timers).size ∙ tokens-sized

-- what a ready token's state is
pub ready-state : (s : State) → is_ready s ≡ true → s ≡ states.Ready
unfolding is_ready
ready-state states.Blank e = clash e refl
ready-state states.Ready e = refl
ready-state (states.Waiting c) e = clash e refl
ready-state (states.Called h) e = clash e refl
ready-state (states.Due d) e = clash e refl
ready-state states.Frame e = clash e refl

pub ready-live : (s : State) → is_ready s ≡ true → is_live s ≡ true
unfolding is_live
ready-live s e = ap is_live (ready-state s e)
