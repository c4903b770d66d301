-- To wake the first of the earliest, and then all that are due, is to wake all that are due: it is the first that joins the queue, and the
-- others are as they were. Where none is due, nothing changes. Assumes nothing.
use mathlib.Core.Path.{◌≡◌, refl, sym, ap, ap₂, subst, ◌∙◌}
use mathlib.Core.Bool.{Bool, true, false, not}
use mathlib.Core.List.{List, [], ◌∷◌, ◌++◌, map, append_assoc, append-nil}
use Prim.Native.Nat.{ℕ, suc, ◌+◌, ◌<◌, ◌≤◌}
use native.Mathlib.Decide.{dec_lt}
use native.Mathlib.Omega.{arith}
use lib.Dec.{eqb, leb}
use lib.ListN.{length, get_or, set, take, length-append, length-map}
use lib.Seq.{get_or-take, map-set_same, ext_get_or}
use Rattle.job.specs.Node.{Dag}
use Rattle.job.specs.Test.{All, ◌and◌, ◌or◌, select, padded, occurrences, once, without}
use Rattle.model.specs.Machine.Blank.{blank_token, token_at}
use Rattle.model.specs.Machine.Clock.{woken_by, sort_by_time, place_due_by, joining, staying}
use Rattle.model.specs.Machine.Limits.{paper}
use Rattle.model.specs.Machine.Rules.{rules_hold}
use Rattle.model.specs.Machine.State.{is_ready, is_due, is_due_by, due_time_of}
use Rattle.model.specs.Machine.Update.{with_state, with_tables, with_orders, with_timers, queue_of, waits_of, timers_of, put, enqueue}
use Rattle.model.specs.declared.token.State.{State}
use Rattle.model.specs.declared.token.State.TheVariants as states
use Rattle.model.specs.declared.token.Token.{Token}
use Rattle.model.specs.declared.record.Machine.{Machine}
use Rattle.job.proofs.Test.{clash, false_of, eqb_same, ne_eqb, ltb-lt, leb-le, le-leb, and_left, and_right, and_both, All-map, once-true}
use Rattle.job.proofs.Test.{occurrences-append}
use Rattle.model.proofs.Machine.Clock.{woken-at}
use Rattle.model.proofs.Machine.Rules.{each-rule-holds, NamesOnce, names-once, occurrences-at}
use Rattle.model.proofs.Machine.TableRows.{token-other, token-outside}
use Rattle.model.proofs.Machine.WrittenTokens.{Woken, wakes, stays, woken-cases}
use Rattle.model.proofs.Keeps.NamedOnce.{Names, counted-tested, inside, short, occurrences-without, written-names}
use Rattle.model.proofs.Keeps.Orders.{Orders, Timers, queue-is, waits-are, timers-are, orders-put, orders-timers, orders-enqueue}
use Rattle.model.proofs.Keeps.Orders.{timers-put, timers-with, timers-enqueue}
use Rattle.record.specs.Holds.{Holds}
use Rattle.record.specs.Layout.{state_number}
use Rattle.orders.proofs.NamesPadded.{length_without}
use Rattle.clock.specs.WakeOneByOne.{ClockFacts, FirstDue, due_at, awake, wake_at, all_woken}
use Rattle.clock.proofs.FirstSorted.{all-indexed, all-occurring, all_apart, select-none, select-all, select-alike, select-without}
use Rattle.clock.proofs.FirstSorted.{all-select, first-sorted, sort-alike}

-- states that are due
due-number : (s : State) → is_due s ≡ true → state_number s ≡ due_time_of s
unfolding is_due due_time_of
due-number states.Blank e = clash e refl
due-number states.Ready e = clash e refl
due-number (states.Waiting c) e = clash e refl
due-number (states.Called h) e = clash e refl
due-number (states.Due d) e = refl
due-number states.Frame e = clash e refl

due-by-is : (time : ℕ) (s : State) → is_due_by time s ≡ (is_due s and leb (due_time_of s) time)
unfolding is_due_by is_due due_time_of ◌and◌
due-by-is time states.Blank = refl
due-by-is time states.Ready = refl
due-by-is time (states.Waiting c) = refl
due-by-is time (states.Called h) = refl
due-by-is time (states.Due d) = refl
due-by-is time states.Frame = refl

due-once : (s : State) → once (is_ready s or is_due s) ≡ once (is_ready s) + once (is_due s)
unfolding is_ready is_due ◌or◌
due-once states.Blank = refl
due-once states.Ready = refl
due-once (states.Waiting c) = refl
due-once (states.Called h) = refl
due-once (states.Due d) = refl
due-once states.Frame = refl

-- the index rules give what a clock move needs: no token is both ready and due later
module _ (d : Dag) (m : Machine) (k : rules_hold paper d m ≡ true) where
  names-all : (of : State → Bool) → of states.Blank ≡ false → (array : List ℕ) (n : ℕ) → NamesOnce of m.tokens array n
      → Names of m.tokens (take n array)
  names-all of none array n o r = go (dec_lt r (length m.tokens)) (dec_lt 0 (occurrences r (take n array)))
    where
      go : Dec (r < length m.tokens) → Dec (0 < occurrences r (take n array))
          → occurrences r (take n array) ≡ once (of (token_at m.tokens r).state)
      go (yes i) c = o.counts r i
      go (no i) (yes c) = absurd (i (ltb-lt r _ (counted-tested _ (take n array) o.inside r c)))
      go (no i) (no c) =
          let z : occurrences r (take n array) ≡ 0 = omega arith in
          z ∙ sym (ap (λ (t : Token). once (of t.state)) (token-outside m.tokens r (omega arith)) ∙ ap once none)

  queue-names : Names is_ready m.tokens (queue_of m)
  unfolding queue_of is_ready
  queue-names = names-all is_ready refl m.queue m.queued (names-once is_ready _ _ _ (each-rule-holds paper d m k).queue)

  timers-name : Names is_due m.tokens (timers_of m)
  unfolding timers_of is_due
  timers-name = names-all is_due refl m.timers m.timed (names-once is_due _ _ _ (each-rule-holds paper d m k).timers)

  pub clock-facts : {ws : List ℕ} → Holds ws m → ClockFacts m
  unfolding is_ready is_due ◌or◌
  clock-facts h =
      let few =
      short (λ s. is_ready s or is_due s) refl m.tokens (queue_of m ++ timers_of m)
      (λ r.
      let a = occurrences-append r (queue_of m) (timers_of m) in
      let b = queue-names r in
      let c = timers-name r in
      let e = due-once (token_at m.tokens r).state in
      omega arith) in
      let a = length-append (queue_of m) (timers_of m) in
      let b = h.ordered.queued in
      let c = h.ordered.timed in
      let e = h.codes.shaped.tokens in
      record { named = timers-name; room = omega arith }

-- the machine with other tokens and orders
abbrev made : Machine → List Token → (queue waits timers : List ℕ) → Machine
made m ts q w l = with_timers l (with_orders q w (with_tables ts m.cells m))

-- the token that is named at an index
module _ {ws : List ℕ} (m : Machine) (h : Holds ws m) (f : ClockFacts m) (i : ℕ) (l : i < m.timed) where
  abbrev p : ℕ
  p = get_or (timers_of m) i 0

  index-inside : i < length (timers_of m)
  index-inside = let z = h.ordered.timed in omega arith

  name-is : get_or m.timers i 0 ≡ p
  unfolding timers_of
  name-is = sym (get_or-take m.timed m.timers i 0 l)

  occurs : 0 < occurrences p (timers_of m)
  occurs = occurrences-at (timers_of m) i index-inside

  name-due : is_due (token_at m.tokens p).state ≡ true
  name-due = once-true _ (subst (λ n. 0 < n) (f.named p) occurs)

  in_table : p < length m.tokens
  unfolding is_due
  in_table = inside is_due refl m.tokens (timers_of m) f.named p occurs

  pub name-inside : (q : ℕ) → q ≡ get_or m.timers i 0 → q < 64
  name-inside q e = let a = in_table in let b = name-is in let c = h.codes.shaped.tokens in omega arith

  pub due-read : (q n : ℕ) → q ≡ get_or m.timers i 0 → n ≡ state_number (token_at m.tokens q).state → n ≡ due_at m i
  due-read q n e g =
      g ∙ ap (λ x. state_number (token_at m.tokens x).state) (e ∙ name-is) ∙ due-number (token_at m.tokens p).state name-due

  -- it wakes
  abbrev rest : List ℕ
  rest = without i (timers_of m)

  abbrev woken : Token
  woken = awake (token_at m.tokens p)

  orders-are : Orders m (queue_of m) (waits_of m)
  orders-are =
      let o = h.ordered in record { queue = o.queue; queued = o.queued; waits = o.waits; waiting = o.waiting }

  orders-then : Orders (wake_at i m) (queue_of m ++ (p ∷ [])) (waits_of m)
  orders-then = orders-enqueue (orders-put (orders-timers orders-are rest) p woken) p

  timers-then : Timers (wake_at i m) rest
  timers-then = timers-enqueue (timers-put (timers-with rest m) p woken) p

  tokens-then : (wake_at i m).tokens ≡ set m.tokens p woken
  unfolding enqueue put with_orders with_tables with_timers
  tokens-then = refl

  gone : occurrences p rest ≡ 0
  gone =
      let a = occurrences-without (timers_of m) i p index-inside in
      let b = f.named p ∙ ap once name-due in
      let c : once (eqb p p) ≡ 1 = ap once (eqb_same p) in
      omega arith

  rest-named : Names is_due (set m.tokens p woken) rest
  unfolding is_due with_state
  rest-named =
      written-names is_due m.tokens p woken rest in_table gone
      (λ r n.
      let a = occurrences-without (timers_of m) i r index-inside in
      let b = f.named r in
      let c : once (eqb r p) ≡ 0 = ap once (ne_eqb r p n) in
      omega arith)

  pub wake-left : m.timed ≡ suc (wake_at i m).timed
  wake-left =
      let a = length_without i (timers_of m) index-inside in let b = h.ordered.timed in let c = timers-then.timed in omega arith

  pub wake-facts : ClockFacts (wake_at i m)
  wake-facts =
      let a = length-append (queue_of m) (p ∷ []) in
      let b = h.ordered.queued in
      let c = orders-then.queued in
      let e = wake-left in
      let g = f.room in
      record {
        named =
            λ r.
            ap (occurrences r) (timers-are timers-then)
            ∙ rest-named r
            ∙ ap (λ ts. once (is_due (token_at ts r).state)) (sym tokens-then);
        room = omega arith;
      }

  -- .. and it is the first of the earliest
  module _ (time : ℕ) (due : due_at m i ≤ time) (least : (j : ℕ) → j < m.timed → due_at m i ≤ due_at m j)
      (first : (j : ℕ) → j < i → due_at m i < due_at m j) where
    abbrev state_of : ℕ → State
    state_of x = (token_at m.tokens x).state

    abbrev state_then : ℕ → State
    state_then x = (token_at (set m.tokens p woken) x).state

    p-due : is_due_by time (state_of p) ≡ true
    p-due = due-by-is time (state_of p) ∙ and_both name-due (le-leb _ time due)

    others : All (λ x. state_then x ≡ state_of x) rest
    others = All-map (λ x n. ap (λ (t : Token). t.state) (token-other m.tokens p x woken n)) (all_apart p rest gone)

    joins-first : joining m time ≡ p ∷ joining (wake_at i m) time
    unfolding joining place_due_by
    joins-first =
        let size = h.ordered.timed in
        first-sorted (λ x. due_time_of (state_of x)) (λ x. is_due_by time (state_of x)) (timers_of m) i index-inside p-due
        (λ j k. least j (omega arith)) first
        ∙ ap (◌∷◌ p)
        (sym
        (ap₂
        (λ (ts : List Token) xs.
        sort_by_time (λ x. due_time_of (token_at ts x).state) (select (λ x. is_due_by time (token_at ts x).state) xs))
        tokens-then (timers-are timers-then)
        ∙ ap (sort_by_time (λ x. due_time_of (state_then x)))
        (select-alike (λ x. is_due_by time (state_then x)) (λ x. is_due_by time (state_of x)) (All-map (λ x e. ap (is_due_by time) e)
        others))
        ∙ sort-alike (λ x. due_time_of (state_then x)) (λ x. due_time_of (state_of x))
        (all-select (λ x. is_due_by time (state_of x)) (All-map (λ x e. ap due_time_of e) others))))

    same-stay : staying (wake_at i m) time ≡ staying m time
    unfolding staying place_due_by
    same-stay =
        ap₂ (λ (ts : List Token) xs. select (λ x. not (is_due_by time (token_at ts x).state)) xs) tokens-then (timers-are timers-then)
        ∙ select-alike (λ x. not (is_due_by time (state_then x))) (λ x. not (is_due_by time (state_of x)))
        (All-map (λ x e. ap (λ s. not (is_due_by time s)) e) others)
        ∙ select-without (λ x. not (is_due_by time (state_of x))) (timers_of m) i index-inside (ap not p-due)

    once-woken : woken_by time woken ≡ woken_by time (token_at m.tokens p)
    unfolding woken_by is_due_by with_state
    once-woken = sym (ap (λ b. elim b as (λ b. Token) [ true ↦ woken | false ↦ token_at m.tokens p ]) p-due)

    same-tokens : map (woken_by time) (wake_at i m).tokens ≡ map (woken_by time) m.tokens
    unfolding token_at
    same-tokens = ap (map (woken_by time)) tokens-then ∙ map-set_same (woken_by time) m.tokens p woken blank_token once-woken

    same_queue : queue_of (wake_at i m) ++ joining (wake_at i m) time ≡ queue_of m ++ joining m time
    same_queue =
        ap (λ q. q ++ joining (wake_at i m) time) (queue-is orders-then)
        ∙ append_assoc (queue_of m) (p ∷ []) (joining (wake_at i m) time)
        ∙ ap (◌++◌ (queue_of m)) (sym joins-first)

    pub wake-first : all_woken (wake_at i m) time ≡ all_woken m time
    unfolding enqueue put with_tables with_orders with_timers
    wake-first =
        ap₂ (λ ts q. made m ts q (waits_of (wake_at i m)) (staying (wake_at i m) time)) same-tokens same_queue
        ∙ ap₂ (made m (map (woken_by time) m.tokens) (queue_of m ++ joining m time)) (waits-are orders-then) same-stay

-- none is due
module _ {ws : List ℕ} (m : Machine) (h : Holds ws m) (f : ClockFacts m) (time : ℕ)
    (late : (j : ℕ) → j < m.timed → time < due_at m j) where
  abbrev time_of : ℕ → ℕ
  time_of x = due_time_of (token_at m.tokens x).state

  after : All (λ x. time < time_of x) (timers_of m)
  after = let size = h.ordered.timed in all-indexed (timers_of m) (λ j k. late j (omega arith))

  not-due : (x : ℕ) → time < time_of x → place_due_by m time x ≡ false
  unfolding place_due_by
  not-due x k =
      false_of _
      (λ e.
      let z = leb-le (time_of x) time (and_right _ _ (sym (due-by-is time (token_at m.tokens x).state) ∙ e)) in
      omega arith)

  token-stays : (r : ℕ) → token_at (map (woken_by time) m.tokens) r ≡ token_at m.tokens r
  token-stays r = woken-at time m.tokens r ∙ go (woken-cases time (token_at m.tokens r))
    where
      go : {u : Token} → Woken time (token_at m.tokens r) u → u ≡ token_at m.tokens r
      go (wakes e) =
          let g = sym (due-by-is time (token_at m.tokens r).state) ∙ e in
          let a = f.named r ∙ ap once (and_left _ _ g) in
          let b = all-occurring after r (omega arith) in
          let c = leb-le (time_of r) time (and_right _ _ g) in
          absurd (omega arith)
      go (stays e) = refl

  tokens-stay : map (woken_by time) m.tokens ≡ m.tokens
  unfolding token_at
  tokens-stay =
      ext_get_or blank_token (map (woken_by time) m.tokens) m.tokens (length-map m.tokens (woken_by time)) (λ r k. token-stays r)

  none-joins : joining m time ≡ []
  unfolding joining sort_by_time
  none-joins =
      ap (sort_by_time (λ p. due_time_of (token_at m.tokens p).state))
      (select-none (place_due_by m time) (All-map not-due after))

  all_stay : staying m time ≡ timers_of m
  unfolding staying
  all_stay = select-all (λ p. not (place_due_by m time p)) (All-map (λ x k. ap not (not-due x k)) after)

  same-again : made m m.tokens (queue_of m) (waits_of m) (timers_of m) ≡ m
  unfolding with_tables with_orders with_timers
  same-again =
      let o = h.ordered in
      ap₂ (λ a i. of a i (ordered (waits_of m)) (length (waits_of m)) (ordered (timers_of m)) (length (timers_of m))) (sym o.queue)
      (sym o.queued)
      ∙ ap₂ (λ b j. of m.queue m.queued b j (ordered (timers_of m)) (length (timers_of m))) (sym o.waits) (sym o.waiting)
      ∙ ap₂ (of m.queue m.queued m.waits m.waiting) (sym o.timers) (sym o.timed)
    where
      ordered : List ℕ → List ℕ
      ordered l = padded 0 (length m.tokens) l

      of : (a : List ℕ) (i : ℕ) (b : List ℕ) (j : ℕ) (c : List ℕ) (k : ℕ) → Machine
      of a i b j c k =
          record {
            tokens = m.tokens;
            cells = m.cells;
            queue = a;
            queued = i;
            waits = b;
            waiting = j;
            calls = m.calls;
            lasttoken = m.lasttoken;
            lastcell = m.lastcell;
            timers = c;
            timed = k;
            clock = m.clock;
          }

  pub none-wakes : all_woken m time ≡ m
  none-wakes =
      ap₂ (λ ts q. made m ts q (waits_of m) (staying m time)) tokens-stay
      (ap (◌++◌ (queue_of m)) none-joins ∙ append-nil (queue_of m))
      ∙ ap (made m m.tokens (queue_of m) (waits_of m)) all_stay
      ∙ same-again

-- the token that is named at an index leaves the order of call for the queue, in the steps of the code
module _ {ws : List ℕ} (m : Machine) (h : Holds ws m) (f : ClockFacts m) (i : ℕ) (l : i < m.timed) where
  abbrev pub left_out : Machine
  left_out = with_timers (without i (timers_of m)) m

  pub wake-room : (q : ℕ) (t : Token) → (put q t left_out).queued < 64
  unfolding put with_tables with_timers
  wake-room q t = let g = f.room in omega arith

  pub wake-is : {xs : List ℕ} (q n : ℕ) → n ≡ get_or m.timers i 0 → q ≡ n
      → Holds xs (enqueue n (put q (awake (token_at left_out.tokens q)) left_out)) → Holds xs (wake_at i m)
  unfolding with_timers
  wake-is {xs} q n e g k =
      let same = e ∙ name-is m h f i l in
      subst (λ x. Holds xs (enqueue x (put x (awake (token_at m.tokens x)) left_out))) same
      (subst (λ x. Holds xs (enqueue n (put x (awake (token_at m.tokens x)) left_out))) g k)

-- one by one: a machine in which those woken so far are awake, and so many are left in the order of call
pub record Waking (ws : List ℕ) (m : Machine) (time left : ℕ) : Type 0 where
  pub machine : Machine
  pub holds : Holds ws machine
  pub facts : ClockFacts machine
  pub same : all_woken machine time ≡ all_woken m time
  pub number : left ≡ machine.timed

module _ {ws : List ℕ} {m : Machine} {time left : ℕ} (k : Waking ws m time left) where
  abbrev present : Machine
  present = k.machine

  pub waking-done : ((j : ℕ) → j < present.timed → time < due_at present j) → Holds ws (all_woken m time)
  waking-done late =
      subst (Holds ws) (sym (none-wakes present k.holds k.facts time late) ∙ k.same) k.holds

  pub waking-over : left ≤ 0 → Holds ws (all_woken m time)
  waking-over l = waking-done (λ j i. let n = k.number in absurd (omega arith))

  pub waking-more : {xs : List ℕ} {remain : ℕ} (i : ℕ) → FirstDue (due_at present) present.timed time i
      → (i < present.timed → Holds xs (wake_at i present)) → remain + 1 ≡ left → Waking xs m time remain
  waking-more i f then one_less =
      let a = k.number in
      let b = wake-left present k.holds k.facts i f.inside in
      record {
        machine = wake_at i present;
        holds = then f.inside;
        facts = wake-facts present k.holds k.facts i f.inside;
        same = wake-first present k.holds k.facts i f.inside time f.in_time f.least f.before ∙ k.same;
        number = omega arith;
      }
