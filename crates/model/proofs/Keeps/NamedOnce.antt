-- Three lines of places, the queue, the wait order and the order of call: each token that is ready, that waits, that is due later stands
-- in its line once. That is what the index rules ask of the orders, since such a line is no longer than the table; and each kind of step
-- keeps it, by counting. Assumes nothing.
use mathlib.Core.Path.{◌≡◌, refl, sym, ◌∙◌, ap, subst}
use mathlib.Core.Bool.{Bool, true, false}
use mathlib.Core.List.{List, [], ◌∷◌, ◌++◌, map}
use Prim.Native.Nat.{ℕ, zero, suc, ◌+◌, ◌-◌, ◌<◌, ◌≤◌}
use native.Mathlib.Decide.{ℕ_discrete, dec_lt}
use native.Mathlib.Omega.{arith}
use lib.ListN.{length, get_or, set, take, drop, replicate, length-append, length-replicate, length-set}
use lib.Seq.{get_or-set_other, take-append_seam}
use lib.Dec.{eqb, ltb}
use Rattle.job.specs.Test.{for_all, all_from, select, padded, occurrences, once, without}
use Rattle.job.specs.Node.{Dag}
use Rattle.model.specs.Machine.Limits.{Limits}
use Rattle.model.specs.Machine.Blank.{blank_token, token_at}
use Rattle.model.specs.Machine.Active.{within}
use Rattle.model.specs.Machine.InUse.{marked}
use Rattle.model.specs.Machine.Rules.{names_once}
use Rattle.model.specs.Machine.State.{is_ready, is_waiting, is_due, waits_at}
use Rattle.model.specs.Machine.Update.{with_state, queue_of, waits_of, timers_of}
use Rattle.model.specs.Machine.Step.{choke_token}
use Rattle.model.specs.declared.token.State.{State}
use Rattle.model.specs.declared.token.State.TheVariants as states
use Rattle.model.specs.declared.token.Token.{Token}
use Rattle.model.specs.declared.cell.Cell.{Cell}
use Rattle.model.specs.declared.record.Machine.{Machine}
use Rattle.job.proofs.Test.{clash, false_of, eqb_same, eqb-eq, eq-eqb, ne_eqb, lt-ltb, ltb-lt, le-leb, and_both, all_head, all_tail}
use Rattle.model.proofs.Machine.Marks.{Free, marked-le-length, marked-set-free}
use Rattle.model.proofs.Machine.Rules.{EachRuleHolds, NamesOnce, names-once, occurrences-here, ready-state}
use Rattle.model.proofs.Machine.Selected.{occurrences-select}
use Rattle.model.proofs.Machine.Choke.{choke-at, choke-ends, woken, choke-spares}
use Rattle.job.proofs.Test.{once-true, once-small, occurrences-append, occurrences-more}
use Rattle.model.proofs.Machine.TableRows.{token-same, token-other, token-outside}

-- a line in which no place stands twice takes a free mark for each of its places
fills : (marks : List Bool) (l : List ℕ) → ((r : ℕ) → occurrences r l ≤ 1) → ((r : ℕ) → 0 < occurrences r l → Free marks r)
    → length l + marked marks ≤ length marks
fills marks [] h f = let z = marked-le-length marks in omega arith
fills marks (x ∷ l) h f =
    let one = marked-set-free marks x (f x (let z = occurrences-here x l in omega arith)) in
    let size = length-set marks x true in
    let more = fills (set marks x true) l (λ r. let z = h r in let y = occurrences-more r x l in omega arith) (λ r k. still r k) in
    omega arith
  where
    still : (r : ℕ) → 0 < occurrences r l → Free (set marks x true) r
    still r k = get_or-set_other marks x r true true apart ∙ f r (let y = occurrences-more r x l in omega arith)
      where
        apart : r ≡ x → ⊥
        apart e =
            let z : 0 < occurrences x l = subst (λ i. 0 < occurrences i l) e k in let y = occurrences-here x l in let w = h x in omega arith

none_free : (n r : ℕ) → r < n → Free (replicate n false) r
none_free zero r l = absurd (omega arith)
none_free (suc n) zero l = refl
none_free (suc n) (suc r) l = none_free n r (omega arith)

-- tests of a line, from its counts and back
all-counted : (test : ℕ → Bool) (l : List ℕ) → ((r : ℕ) → 0 < occurrences r l → test r ≡ true) → for_all test l ≡ true
unfolding for_all
all-counted test [] h = refl
all-counted test (x ∷ l) h =
    and_both (h x (let z = occurrences-here x l in omega arith))
    (all-counted test l (λ r k. h r (let z = occurrences-more r x l in omega arith)))

pub counted-tested : (test : ℕ → Bool) (l : List ℕ) → for_all test l ≡ true → (r : ℕ) → 0 < occurrences r l → test r ≡ true
unfolding occurrences
counted-tested test [] e r k = absurd (omega arith)
counted-tested test (x ∷ l) e r k = go (eqb r x) refl (λ j. counted-tested test l (all_tail test x l e) r j)
  where
    go : (b : Bool) → eqb r x ≡ b → (0 < occurrences r l → test r ≡ true) → test r ≡ true
    go true f g = ap test (eqb-eq r x f) ∙ all_head test x l e
    go false f g = g (let z : once (eqb r x) ≡ 0 = ap once f in omega arith)

all-from-at : {A : Type 0} (test : ℕ → A → Bool) (n : ℕ) (xs : List A) (d : A)
    → ((i : ℕ) → i < length xs → test (n + i) (get_or xs i d) ≡ true) → all_from test n xs ≡ true
unfolding all_from
all-from-at test n [] d h = refl
all-from-at test n (x ∷ xs) d h =
    and_both (subst (λ k. test k x ≡ true) (let z : n + 0 ≡ n = omega arith in z) (h 0 (omega arith)))
    (all-from-at test (suc n) xs d
    (λ i k. subst (λ j. test j (get_or xs i d) ≡ true) (let z : n + suc i ≡ suc n + i = omega arith in z) (h (suc i) (omega arith))))

all-zero : (n : ℕ) → for_all (eqb 0) (replicate n 0) ≡ true
unfolding for_all
all-zero zero = refl
all-zero (suc n) = and_both (eqb_same 0) (all-zero n)

drop-seam : (l r : List ℕ) → drop (length l) (l ++ r) ≡ r
drop-seam [] r = refl
drop-seam (x ∷ l) r = drop-seam l r

-- a line names each token of a kind once
abbrev pub Names : (State → Bool) → List Token → List ℕ → Type 0
Names of ts l = (r : ℕ) → occurrences r l ≡ once (of (token_at ts r).state)

module _ (of : State → Bool) (none : of states.Blank ≡ false) (ts : List Token) where
  outside : (r : ℕ) → length ts ≤ r → once (of (token_at ts r).state) ≡ 0
  outside r l = ap (λ (t : Token). once (of t.state)) (token-outside ts r l) ∙ ap once none

  module _ (l : List ℕ) (h : Names of ts l) where
    pub inside : (r : ℕ) → 0 < occurrences r l → r < length ts
    inside r k = go (dec_lt r (length ts))
      where
        go : Dec (r < length ts) → r < length ts
        go (yes i) = i
        go (no f) = let z = outside r (omega arith) in let y = h r in absurd (omega arith)

    pub short : length l ≤ length ts
    short =
        let z = length-replicate (length ts) false in
        let y =
        fills (replicate (length ts) false) l (λ r. let a = h r in let b = once-small (of (token_at ts r).state) in omega arith)
        (λ r k. none_free (length ts) r (inside r k)) in
        omega arith

    pub line-names : names_once of ts (padded 0 (length ts) l) (length l) ≡ true
    unfolding names_once padded token_at
    line-names =
        let rest : List ℕ = replicate (length ts - length l) 0 in
        let room = l ++ rest in
        let few = short in
        let joined = length-append l rest in
        let behind = length-replicate {A = ℕ} (length ts - length l) 0 in
        let line : take (length l) room ≡ l = take-append_seam l rest in
        and_both (eq-eqb _ _ (let z : length room ≡ length ts = omega arith in z))
        (and_both (le-leb _ _ (let z : length l ≤ length room = omega arith in z))
        (and_both (subst (λ x. for_all (λ (p : ℕ). ltb p (length ts)) x ≡ true) (sym line)
        (all-counted _ l (λ r k. lt-ltb r (length ts) (inside r k))))
        (and_both
        (subst (λ x. all_from (λ p (t : Token). eqb (occurrences p x) (once (of t.state))) 0 ts ≡ true) (sym line)
        (all-from-at _ 0 ts blank_token (λ i k. eq-eqb _ _ (ap (λ x. occurrences x l) (let z : 0 + i ≡ i = omega arith in z) ∙ h i))))
        (subst (λ x. for_all (eqb 0) x ≡ true) (sym (drop-seam l rest)) (all-zero (length ts - length l))))))

-- what the index rules test of an order, of every place: behind the table there is no token, and no name
pub names_of : (of : State → Bool) → of states.Blank ≡ false → (ts : List Token) (array : List ℕ) (n : ℕ)
    → names_once of ts array n ≡ true → Names of ts (take n array)
names_of of none ts array n e r = go (dec_lt r (length ts))
  where
    o : NamesOnce of ts array n
    o = names-once of ts array n e

    go : Dec (r < length ts) → occurrences r (take n array) ≡ once (of (token_at ts r).state)
    go (yes l) = o.counts r l
    go (no f) = absent (dec_lt 0 (occurrences r (take n array))) ∙ sym (outside of none ts r (omega arith))
      where
        absent : Dec (0 < occurrences r (take n array)) → occurrences r (take n array) ≡ 0
        absent (yes l) =
            absurd (f (ltb-lt r (length ts) (counted-tested (λ (p : ℕ). ltb p (length ts)) (take n array) o.inside r l)))
        absent (no g) = omega arith

-- the three lines
pub record Lines (ts : List Token) (queue waits timers : List ℕ) : Type 0 where
  pub ready : Names is_ready ts queue
  pub waiting : Names is_waiting ts waits
  pub due : Names is_due ts timers

-- the three lines, with p taken from the queue
pub record Taken (ts : List Token) (p : ℕ) (queue waits timers : List ℕ) : Type 0 where
  pub ready : (r : ℕ) → occurrences r queue + once (eqb r p) ≡ once (is_ready (token_at ts r).state)
  pub waiting : Names is_waiting ts waits
  pub due : Names is_due ts timers

-- a record that keeps the rules has them
pub rules-lines : (lim : Limits) (d : Dag) (m : Machine) → EachRuleHolds lim d m
    → Lines m.tokens (queue_of m) (waits_of m) (timers_of m)
unfolding queue_of waits_of timers_of is_ready is_waiting is_due
rules-lines lim d m rules =
    record {
      ready = names_of is_ready refl m.tokens m.queue m.queued rules.queue;
      waiting = names_of is_waiting refl m.tokens m.waits m.waiting rules.waits;
      due = names_of is_due refl m.tokens m.timers m.timed rules.timers;
    }

-- no token is ready, waits and is due later in one, so no place stands in two lines
kind-apart : (s : State) → once (is_ready s) + once (is_waiting s) + once (is_due s) ≤ 1
unfolding is_ready is_waiting is_due
kind-apart states.Blank = omega arith
kind-apart states.Ready = omega arith
kind-apart (states.Waiting c) = omega arith
kind-apart (states.Called h) = omega arith
kind-apart (states.Due d) = omega arith
kind-apart states.Frame = omega arith

pub lines-apart : {ts : List Token} {queue waits timers : List ℕ} → Lines ts queue waits timers
    → (r : ℕ) → occurrences r queue + occurrences r waits + occurrences r timers ≤ 1
lines-apart {ts} l r =
    let a = l.ready r in
    let b = l.waiting r in
    let c = l.due r in
    let k = kind-apart (token_at ts r).state in
    omega arith

pub occurrences-without : (l : List ℕ) (i r : ℕ) → i < length l → occurrences r (without i l) + once (eqb r (get_or l i 0)) ≡ occurrences
    r l
unfolding occurrences without
occurrences-without [] i r h = absurd (omega arith)
occurrences-without (x ∷ l) zero r h = omega arith
occurrences-without (x ∷ l) (suc i) r h = let a = occurrences-without l i r (omega arith) in omega arith

pub take_out : {ts : List Token} {queue waits timers : List ℕ} (i : ℕ) → i < length queue → Lines ts queue waits timers
    → Taken ts (get_or queue i 0) (without i queue) waits timers
take_out {queue = queue} i h l =
    record { ready = λ r. occurrences-without queue i r h ∙ l.ready r; waiting = l.waiting; due = l.due }

-- a place is written: its count is what the token asks, the others' counts are what they were
pub written-names : (of : State → Bool) (ts : List Token) (p : ℕ) (u : Token) (l : List ℕ) → p < length ts
    → occurrences p l ≡ once (of u.state)
    → ((r : ℕ) → (r ≡ p → ⊥) → occurrences r l ≡ once (of (token_at ts r).state)) → Names of (set ts p u) l
written-names of ts p u l i here there r = go (ℕ_discrete r p)
  where
    go : Dec (r ≡ p) → occurrences r l ≡ once (of (token_at (set ts p u) r).state)
    go (yes e) =
        subst (λ x. occurrences x l ≡ once (of (token_at (set ts p u) x).state)) (sym e)
        (here ∙ ap (λ (t : Token). once (of t.state)) (sym (token-same ts p u i)))
    go (no n) = there r n ∙ ap (λ (t : Token). once (of t.state)) (sym (token-other ts p r u n))

-- how often r stands in a line with p put at its back
occurrences-back : (r : ℕ) (l : List ℕ) (p : ℕ) → occurrences r (l ++ (p ∷ [])) ≡ occurrences r l + once (eqb r p)
unfolding occurrences
occurrences-back r l p = let z = occurrences-append r l (p ∷ []) in omega arith

back-same : (p : ℕ) (l : List ℕ) (b : Bool) → occurrences p l ≡ 0 → b ≡ true → occurrences p (l ++ (p ∷ [])) ≡ once b
back-same p l b e f =
    let x = occurrences-back p l p in let y : once b ≡ 1 = ap once f in let z : once (eqb p p) ≡ 1 = ap once (eqb_same p) in omega arith

back-other : (r p : ℕ) (l : List ℕ) (n : ℕ) → (r ≡ p → ⊥) → occurrences r l ≡ n → occurrences r (l ++ (p ∷ [])) ≡ n
back-other r p l n f e = let x = occurrences-back r l p in let z : once (eqb r p) ≡ 0 = ap once (ne_eqb r p f) in omega arith

-- a place that is not in a line stays out of it, or goes to its back
module _ (of : State → Bool) (ts : List Token) (p : ℕ) (u : Token) (l : List ℕ) (i : p < length ts)
    (out : of (token_at ts p).state ≡ false) (h : Names of ts l) where
  stays_out : of u.state ≡ false → Names of (set ts p u) l
  stays_out e = written-names of ts p u l i (h p ∙ ap once (out ∙ sym e)) (λ r n. h r)

  goes_back : of u.state ≡ true → Names of (set ts p u) (l ++ (p ∷ []))
  goes_back e = written-names of ts p u (l ++ (p ∷ [])) i (back-same p l _ (h p ∙ ap once out) e) (λ r n. back-other r p l _ n (h r))

-- the token that was taken is ready, so it is in the table
module _ {ts : List Token} {p : ℕ} {queue waits timers : List ℕ} (l : Taken ts p queue waits timers) where
  pub taken-ready : (token_at ts p).state ≡ states.Ready
  taken-ready =
      ready-state _
      (once-true _ (let a = l.ready p in let c : once (eqb p p) ≡ 1 = ap once (eqb_same p) in omega arith))

  pub taken-inside : p < length ts
  unfolding is_ready
  taken-inside = go (dec_lt p (length ts))
    where
      go : Dec (p < length ts) → p < length ts
      go (yes i) = i
      go (no n) =
          clash (ap is_ready taken-ready) (ap (λ (t : Token). is_ready t.state) (token-outside ts p (omega arith)))

-- it is written
module _ {ts : List Token} {p : ℕ} {queue waits timers : List ℕ} (l : Taken ts p queue waits timers) (u : Token) where
  abbrev i : p < length ts
  i = taken-inside l

  abbrev ready : (token_at ts p).state ≡ states.Ready
  ready = taken-ready l

  not-queued : occurrences p queue ≡ 0
  unfolding is_ready
  not-queued =
      let a = l.ready p in
      let b : once (is_ready (token_at ts p).state) ≡ 1 = ap (λ s. once (is_ready s)) ready in
      let c : once (eqb p p) ≡ 1 = ap once (eqb_same p) in
      omega arith

  others-ready : (r : ℕ) → (r ≡ p → ⊥) → occurrences r queue ≡ once (is_ready (token_at ts r).state)
  others-ready r n = let a = l.ready r in let c : once (eqb r p) ≡ 0 = ap once (ne_eqb r p n) in omega arith

  not-ready : is_ready u.state ≡ false → Names is_ready (set ts p u) queue
  not-ready e = written-names is_ready ts p u queue i (not-queued ∙ sym (ap once e)) others-ready

  not-waiting : is_waiting u.state ≡ false → Names is_waiting (set ts p u) waits
  unfolding is_waiting
  not-waiting = stays_out is_waiting ts p u waits i (ap is_waiting ready) l.waiting

  not-due : is_due u.state ≡ false → Names is_due (set ts p u) timers
  unfolding is_due
  not-due = stays_out is_due ts p u timers i (ap is_due ready) l.due

  -- it ends, becomes a frame or is called out
  pub lines-gone : is_ready u.state ≡ false → is_waiting u.state ≡ false → is_due u.state ≡ false
      → Lines (set ts p u) queue waits timers
  lines-gone a b c = record { ready = not-ready a; waiting = not-waiting b; due = not-due c }

  -- it goes to the back of the queue
  pub lines-back : u.state ≡ states.Ready → Lines (set ts p u) (queue ++ (p ∷ [])) waits timers
  unfolding is_ready is_waiting is_due
  lines-back e =
      record {
        ready =
            written-names is_ready ts p u (queue ++ (p ∷ [])) i (back-same p queue _ not-queued (ap is_ready e))
            (λ r n. back-other r p queue _ n (others-ready r n));
        waiting = not-waiting (ap is_waiting e);
        due = not-due (ap is_due e);
      }

  -- it waits
  pub lines-wait : (c : ℕ) → u.state ≡ states.Waiting c → Lines (set ts p u) queue (waits ++ (p ∷ [])) timers
  unfolding is_ready is_waiting is_due
  lines-wait c e =
      record {
        ready = not-ready (ap is_ready e);
        waiting = goes_back is_waiting ts p u waits i (ap is_waiting ready) l.waiting (ap is_waiting e);
        due = not-due (ap is_due e);
      }

  -- it is due later
  pub lines-later : (d : ℕ) → u.state ≡ states.Due d → Lines (set ts p u) queue waits (timers ++ (p ∷ []))
  unfolding is_ready is_waiting is_due
  lines-later d e =
      record {
        ready = not-ready (ap is_ready e);
        waiting = not-waiting (ap is_waiting e);
        due = goes_back is_due ts p u timers i (ap is_due ready) l.due (ap is_due e);
      }

-- a ready token is put at the back, at a place that was in no line
pub lines_new : {ts : List Token} {queue waits timers : List ℕ} (q : ℕ) (u : Token) → q < length ts
    → is_ready (token_at ts q).state ≡ false → is_waiting (token_at ts q).state ≡ false → is_due (token_at ts q).state ≡ false
    → u.state ≡ states.Ready → Lines ts queue waits timers → Lines (set ts q u) (queue ++ (q ∷ [])) waits timers
unfolding is_ready is_waiting is_due
lines_new {ts} {queue} {waits} {timers} q u i nr nw nd e l =
    record {
      ready = goes_back is_ready ts q u queue i nr l.ready (ap is_ready e);
      waiting = stays_out is_waiting ts q u waits i nw l.waiting (ap is_waiting e);
      due = stays_out is_due ts q u timers i nd l.due (ap is_due e);
    }

-- a choke: who is ready then was ready or waiting, who waits then waited
woken-ready : (c : ℕ) (s : State) (t : Token) → t.state ≡ s → is_ready (woken (waits_at c s) t).state ≡ true
    → once (is_ready s) + once (is_waiting s) ≡ 1
unfolding woken waits_at is_ready is_waiting with_state
woken-ready c states.Blank t e h = clash h (ap is_ready e)
woken-ready c states.Ready t e h = refl
woken-ready c (states.Waiting b) t e h = refl
woken-ready c (states.Called g) t e h = clash h (ap is_ready e)
woken-ready c (states.Due d) t e h = clash h (ap is_ready e)
woken-ready c states.Frame t e h = clash h (ap is_ready e)

woken-other : (of : State → Bool) → of states.Ready ≡ false → (b : Bool) (t : Token) → of (woken b t).state ≡ true → of t.state ≡ true
unfolding woken with_state
woken-other of none true t h = clash h none
woken-other of none false t h = h

module _ (ts : List Token) (cs : List Cell) (c p : ℕ) (queue waits timers : List ℕ) (l : Taken ts p queue waits timers)
    (own : within cs c (token_at ts p).cell ≡ true) where
  abbrev then : List Token
  then = map (choke_token cs c) ts

  spared : (of : State → Bool) → of states.Blank ≡ false → (r : ℕ) → of (token_at then r).state ≡ true
      → within cs c (token_at ts r).cell ≡ false
  spared of none r e =
      false_of _ (λ x. clash e (ap (λ (t : Token). of t.state) (choke-at cs c ts r ∙ choke-ends cs c (token_at ts r) x) ∙ none))

  spared-at : (r : ℕ) → within cs c (token_at ts r).cell ≡ false → token_at then r ≡ woken (waits_at c (token_at ts r).state) (token_at ts
      r)
  spared-at r x = choke-at cs c ts r ∙ choke-spares cs c (token_at ts r) x

  -- a line of those that are of a kind, and that no waking makes so
  still-names : (of : State → Bool) → of states.Blank ≡ false → of states.Ready ≡ false → (line : List ℕ) → Names of ts line
      → Names of then (select (λ (r : ℕ). of (token_at then r).state) line)
  still-names of none unready line h r =
      occurrences-select (λ (r : ℕ). of (token_at then r).state) r line
      (λ e.
      let x = spared of none r e in
      let w = ap (λ (t : Token). of t.state) (sym (spared-at r x)) ∙ e in
      h r ∙ ap once (woken-other of unready (waits_at c (token_at ts r).state) (token_at ts r) w))

  pub lines-choke :
      Lines then (select (λ (r : ℕ). is_ready (token_at then r).state) (queue ++ waits))
      (select (λ (r : ℕ). is_waiting (token_at then r).state) waits)
      (select (λ (r : ℕ). is_due (token_at then r).state) timers)
  unfolding is_ready is_waiting is_due
  lines-choke =
      record {
        ready =
            λ r.
            occurrences-select (λ (r : ℕ). is_ready (token_at then r).state) r (queue ++ waits)
            (λ e.
            let x = spared is_ready refl r e in
            let a = woken-ready c (token_at ts r).state (token_at ts r) refl
            (ap (λ (t : Token). is_ready t.state) (sym (spared-at r x)) ∙ e) in
            let apart : once (eqb r p) ≡ 0 = ap once (ne_eqb r p (λ z. clash own (ap (λ y. within cs c (token_at ts y).cell) (sym z) ∙ x)))
            in
            let b = l.ready r in
            let d = l.waiting r in
            let f = occurrences-append r queue waits in
            omega arith);
        waiting = still-names is_waiting refl refl waits l.waiting;
        due = still-names is_due refl refl timers l.due;
      }
