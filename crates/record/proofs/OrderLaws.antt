-- The queue, the wait order and the order of call: what their words say, and what a name that joins or leaves makes of them. An order is
-- the first names of its array, so both are changes of a list; the three differ in where array and number stand. Assumes nothing.
use mathlib.Core.Path.{◌≡◌, refl, sym, ap, ap₂, subst, ◌∙◌}
use mathlib.Core.Bool.{Bool, false}
use mathlib.Core.List.{List, [], ◌∷◌, ◌++◌, append_assoc}
use Prim.Native.Nat.{ℕ, ◌+◌, ◌-◌, ◌<◌, ◌≤◌}
use native.Mathlib.Omega.{arith}
use lib.Dec.{eqb}
use lib.ListN.{length, get_or, set, take, drop, replicate, length-append}
use lib.Seq.{drop-append_seam, take-append-le, drop-append-le, take_at, drop_at}
use Rattle.job.specs.Test.{padded, without}
use Rattle.model.specs.Machine.Update.{with_orders, with_timers, queue_of, waits_of, timers_of, enqueue}
use Rattle.model.specs.declared.record.Machine.{Machine}
use Rattle.model.specs.declared.token.State.{State}
use Rattle.record.specs.Layout.{state_kind, words_of, count_words, clock_words, parts}
use Rattle.record.specs.Holds.{Codes, Holds}
use Rattle.record.specs.Changes.{dequeued}
use Rattle.record.specs.OrderWords.{Which, queue, waits, timers, first_at, count_at, state_of, in_state}
use Rattle.record.specs.OrderWords.{names_of, array_of, count_of, with_names, joined}
use Rattle.orders.specs.NamesRetained.{marked_of, Retained}
use Rattle.orders.proofs.NamesRetained.{select_short}
use Rattle.orders.proofs.NamesPadded.{padded-long, zero-padded, padded-more, put-behind, length_without}
use Rattle.record.proofs.LayoutPart.{Stands, part-get, part-set}
use Rattle.record.proofs.LayoutParts.{Sized, sized, queue-stands, waits-stand, counts-stand, timers-stand, clock-stands}
use Rattle.record.proofs.CountLaws.{queued-word, waiting-word, timed-word}
use Rattle.record.proofs.TokenRow.{ready-kind, waiting-kind, due-kind}
use Rattle.record.proofs.HoldsShape.{shaped, names-are, orders-hold, timers-hold, queue-fits, waits-fit, timers-fit}

module _ {ws : List ℕ} {m : Machine} (h : Codes ws m) where
  pub queue-word : (i : ℕ) → i < 64 → get_or ws (1664 + i) 0 ≡ get_or m.queue i 0
  unfolding words_of
  queue-word i l =
      ap (λ r. get_or r (1664 + i) 0) h.words
      ∙ part-get (queue-stands (sized h.shaped)) m.queue 64 h.shaped.queue i l

  pub wait-word : (i : ℕ) → i < 64 → get_or ws (1728 + i) 0 ≡ get_or m.waits i 0
  unfolding words_of
  wait-word i l =
      ap (λ r. get_or r (1728 + i) 0) h.words
      ∙ part-get (waits-stand (sized h.shaped)) m.waits 64 h.shaped.waits i l

  pub timer-word : (i : ℕ) → i < 64 → get_or ws (1797 + i) 0 ≡ get_or m.timers i 0
  unfolding words_of
  timer-word i l =
      ap (λ r. get_or r (1797 + i) 0) h.words
      ∙ part-get (timers-stand (sized h.shaped)) m.timers 64 h.shaped.timers i l

-- an order in a record's words: its names, the array at `at` that they stand in, their number at `counted`, and the record with others
pub record Order (ws names array : List ℕ) (n at counted : ℕ) (changed : List ℕ → Machine) : Type 0 where
  -- the words with another array and number
  pub whole : List ℕ → ℕ → List ℕ
  pub words : ws ≡ whole array n
  pub stands : Stands (λ x. whole x n) at
  pub count : (x : List ℕ) (v : ℕ) → length x ≡ 64 → set (whole x n) counted v ≡ whole x v
  pub array-is : array ≡ padded 0 64 names
  pub names-are : take n array ≡ names
  pub number : n ≡ length names
  pub fits : length names ≤ 64
  pub holds : (l : List ℕ) → length l ≤ 64 → Holds (whole (padded 0 64 l) (length l)) (changed l)

module _ {ws names array : List ℕ} {n at counted : ℕ} {changed : List ℕ → Machine} (o : Order ws names array n at counted changed) where
  long : length array ≡ 64
  long = ap length o.array-is ∙ padded-long names 64 o.fits

  -- other names, and their number
  names-put : (l x : List ℕ) (v : ℕ) {xs : List ℕ} → length l ≤ 64 → x ≡ padded 0 64 l → v ≡ length l → xs ≡ o.whole x n
      → Holds (set xs counted v) (changed l)
  names-put l x v f ex ev e =
      subst (λ r. Holds r (changed l))
      (sym (ap (λ r. set r counted v) e ∙ o.count x v (ap length ex ∙ padded-long l 64 f) ∙ ap₂ o.whole ex ev)) (o.holds l f)

  -- one name more
  pub name-put : (p i : ℕ) → i ≡ n → i < 64 → Holds (set (set ws (at + i) p) counted (i + 1)) (changed (names ++ (p ∷ [])))
  name-put p i e l =
      let f : i ≡ length names = e ∙ o.number in
      let g : i + 1 ≡ length (names ++ (p ∷ [])) = omega (arith, length-append names (p ∷ [])) in
      names-put (names ++ (p ∷ [])) (set array i p) (i + 1) (omega arith)
      (ap₂ (λ r k. set r k p) o.array-is f ∙ put-behind names 64 p (omega arith)) g
      (ap (λ r. set r (at + i) p) o.words ∙ part-set o.stands array 64 long i p l)

  -- the words of the names, and what stands behind them
  lent : (i : ℕ) → i ≡ n → take i (drop at ws) ≡ names
  lent i e =
      let fits : i ≤ length array = omega (arith, o.number, o.fits, long) in
      ap (λ r. take i (drop at r)) (o.words ∙ o.stands.split array)
      ∙ ap (take i) (drop_at o.stands.before _ at o.stands.long)
      ∙ take-append-le i array _ fits
      ∙ ap (λ k. take k array) e
      ∙ o.names-are

  behind : (i : ℕ) → i ≡ n → drop i (drop at ws) ≡ replicate (64 - i) 0 ++ o.stands.after
  unfolding padded
  behind i e =
      let fits : i ≤ length array = omega (arith, o.number, o.fits, long) in
      let size : i ≡ length names = e ∙ o.number in
      ap (λ r. drop i (drop at r)) (o.words ∙ o.stands.split array)
      ∙ ap (drop i) (drop_at o.stands.before _ at o.stands.long)
      ∙ drop-append-le i array _ fits
      ∙ ap (λ r. r ++ o.stands.after) (ap₂ drop size o.array-is ∙ drop-append_seam names _ ∙ ap (λ k. replicate (64 - k) 0) (sym size))

  -- the words with others in place of the names, which are the names l and zeros
  others : (i : ℕ) (x l : List ℕ) → i ≡ n → x ++ replicate (64 - i) 0 ≡ padded 0 64 l
      → take at ws ++ (x ++ drop i (drop at ws)) ≡ o.whole (padded 0 64 l) n
  others i x l e f =
      ap₂ (λ a r. a ++ (x ++ r)) (ap (take at) (o.words ∙ o.stands.split array) ∙ take_at o.stands.before _ at o.stands.long) (behind i e)
      ∙ ap (◌++◌ o.stands.before) (sym (append_assoc x (replicate (64 - i) 0) o.stands.after) ∙ ap (λ r. r ++ o.stands.after) f)
      ∙ sym (o.stands.split (padded 0 64 l))

  pub leave-put : (i index : ℕ) (x : List ℕ) → i ≡ n → index < i → x ≡ without index (take i (drop at ws)) ++ (0 ∷ [])
      → Holds (set (take at ws ++ (x ++ drop i (drop at ws))) counted (i - 1)) (changed (without index names))
  leave-put i index x e l f =
      let size : i ≡ length names = e ∙ o.number in
      let less = length_without index names (omega arith) in
      names-put (without index names) (padded 0 64 (without index names)) (i - 1) (omega (arith, less, o.fits)) refl (omega arith)
      (others i x (without index names) e
      (ap (λ r. r ++ replicate (64 - i) 0) (f ∙ ap (λ r. without index r ++ (0 ∷ [])) (lent i e))
      ∙ zero-padded (without index names) i (omega arith) (omega (arith, o.fits))))

  -- one name less and another behind the others: their number stays
  pub replace-put : (p i index : ℕ) (x : List ℕ) → i ≡ n → index < i → x ≡ without index (take i (drop at ws)) ++ (p ∷ [])
      → Holds (take at ws ++ (x ++ drop i (drop at ws))) (changed (without index names ++ (p ∷ [])))
  unfolding padded
  replace-put p i index x e l f =
      let after : List ℕ = without index names ++ (p ∷ []) in
      let size : i ≡ length names = e ∙ o.number in
      let same : length after ≡ n =
      omega (arith, length-append (without index names) (p ∷ []), length_without index names (omega arith)) in
      subst (λ r. Holds r (changed after))
      (sym (others i x after e
      (ap₂ (λ r k. r ++ replicate (64 - k) 0) (f ∙ ap (λ r. without index r ++ (p ∷ [])) (lent i e)) (e ∙ sym same))
      ∙ ap (o.whole (padded 0 64 after)) (sym same)))
      (o.holds after (omega (arith, o.fits)))

  -- the names that are marked stay
  pub retain-put : (v i : ℕ) (x : List ℕ) (marks : List Bool) → i ≡ n → Retained (take i (drop at ws)) marks x v
      → Holds (set (take at ws ++ (x ++ drop i (drop at ws))) counted v) (changed (marked_of marks names))
  retain-put v i x marks e r =
      let kept = marked_of marks names in
      let few = select_short (λ (p : ℕ). get_or marks p false) names in
      let size : length names ≡ i = sym (e ∙ o.number) in
      names-put kept (padded 0 64 kept) v (omega (arith, few, o.fits)) refl (r.number ∙ ap (λ xs. length (marked_of marks xs)) (lent i e))
      (others i x kept e
      (ap (λ y. y ++ replicate (64 - i) 0)
      (r.array ∙ ap (λ xs. padded 0 (length xs) (marked_of marks xs)) (lent i e) ∙ ap (λ k. padded 0 k kept) size)
      ∙ padded-more kept i 64 (omega (arith, few)) (omega (arith, o.fits))))

module _ {ws : List ℕ} {m : Machine} (h : Holds ws m) where
  abbrev z : Sized m.tokens m.cells m.queue m.waits (count_words m) m.timers (clock_words m)
  z = sized (shaped h)

  -- the sizes with another array
  other-queue : (x : List ℕ) → length x ≡ 64 → Sized m.tokens m.cells x m.waits (count_words m) m.timers (clock_words m)
  other-queue x l =
      record {
        tokens = z.tokens;
        cells = z.cells;
        queue = l;
        waits = z.waits;
        counts = z.counts;
        timers = z.timers;
        clock = z.clock;
      }

  other-waits : (x : List ℕ) → length x ≡ 64 → Sized m.tokens m.cells m.queue x (count_words m) m.timers (clock_words m)
  other-waits x l =
      record {
        tokens = z.tokens;
        cells = z.cells;
        queue = z.queue;
        waits = l;
        counts = z.counts;
        timers = z.timers;
        clock = z.clock;
      }

  other-timers : (x : List ℕ) → length x ≡ 64 → Sized m.tokens m.cells m.queue m.waits (count_words m) x (clock_words m)
  other-timers x l =
      record {
        tokens = z.tokens;
        cells = z.cells;
        queue = z.queue;
        waits = z.waits;
        counts = z.counts;
        timers = l;
        clock = z.clock;
      }

  -- the record's orders as its words have them
  queue-is : m.queue ≡ padded 0 64 (queue_of m)
  queue-is = h.ordered.queue ∙ ap (λ n. padded 0 n (queue_of m)) (shaped h).tokens

  waits-are : m.waits ≡ padded 0 64 (waits_of m)
  waits-are = h.ordered.waits ∙ ap (λ n. padded 0 n (waits_of m)) (shaped h).tokens

  timers-are : m.timers ≡ padded 0 64 (timers_of m)
  timers-are = h.ordered.timers ∙ ap (λ n. padded 0 n (timers_of m)) (shaped h).tokens

  abbrev with_order_words : (q : List ℕ) (n : ℕ) (w : List ℕ) (i : ℕ) → List ℕ
  with_order_words q n w i = parts m.tokens m.cells q w (n ∷ i ∷ m.calls ∷ m.lasttoken ∷ m.lastcell ∷ []) m.timers (clock_words m)

  pub queue-order : Order ws (queue_of m) m.queue m.queued 1664 1792 (λ l. with_orders l (waits_of m) m)
  unfolding words_of count_words queue_of
  queue-order =
      record {
        whole = λ x n. with_order_words x n m.waits m.waiting;
        words = h.codes.words;
        stands = queue-stands z;
        count = λ x v l. part-set (counts-stand (other-queue x l)) _ 5 refl 0 v (omega arith);
        array-is = queue-is;
        names-are = refl;
        number = h.ordered.queued;
        fits = queue-fits h;
        holds =
            λ l f.
            orders-hold h l (waits_of m) f (waits-fit h)
            (ap₂ (with_order_words (padded 0 64 l) (length l)) waits-are h.ordered.waiting);
      }

  pub wait-order : Order ws (waits_of m) m.waits m.waiting 1728 1793 (λ l. with_orders (queue_of m) l m)
  unfolding words_of count_words waits_of
  wait-order =
      record {
        whole = λ x n. with_order_words m.queue m.queued x n;
        words = h.codes.words;
        stands = waits-stand z;
        count = λ x v l. part-set (counts-stand (other-waits x l)) _ 5 refl 1 v (omega arith);
        array-is = waits-are;
        names-are = refl;
        number = h.ordered.waiting;
        fits = waits-fit h;
        holds =
            λ l f.
            orders-hold h (queue_of m) l (queue-fits h) f
            (ap₂ (λ q n. with_order_words q n (padded 0 64 l) (length l)) queue-is h.ordered.queued);
      }

  pub timer-order : Order ws (timers_of m) m.timers m.timed 1797 1861 (λ l. with_timers l m)
  unfolding words_of clock_words timers_of
  timer-order =
      record {
        whole = λ x n. parts m.tokens m.cells m.queue m.waits (count_words m) x (n ∷ m.clock ∷ []);
        words = h.codes.words;
        stands = timers-stand z;
        count = λ x v l. part-set (clock-stands (other-timers x l)) _ 2 refl 0 v (omega arith);
        array-is = timers-are;
        names-are = refl;
        number = h.ordered.timed;
        fits = timers-fit h;
        holds = λ l f. timers-hold h l f refl;
      }

-- the names of an order changed and then joined are those with one more, and the rest of the record stays
changed-joins : (k : Which) (l : List ℕ) (p : ℕ) (m : Machine) → with_names k (l ++ (p ∷ [])) m ≡ joined k p (with_names k l m)
unfolding enqueue with_orders with_timers queue_of waits_of timers_of
changed-joins queue l p m =
    let size = length m.tokens in
    ap₂ (λ q w. with_orders (q ++ (p ∷ [])) w m) (names-are l size) (names-are (waits_of m) size)
changed-joins waits l p m =
    let size = length m.tokens in
    ap₂ (λ q w. with_orders q (w ++ (p ∷ [])) m) (names-are (queue_of m) size) (names-are l size)
changed-joins timers l p m = ap (λ q. with_timers (q ++ (p ∷ [])) m) (names-are l (length m.tokens))

names-join : (k : Which) (p : ℕ) (m : Machine) → with_names k (names_of k m ++ (p ∷ [])) m ≡ joined k p m
unfolding enqueue
names-join queue p m = refl
names-join waits p m = refl
names-join timers p m = refl

-- where the arrays stand, and which tokens each order names
pub arrays-fit : (k : Which) → first_at k + 64 ≤ 1863
arrays-fit queue = omega arith
arrays-fit waits = omega arith
arrays-fit timers = omega arith

pub kind-is : (k : Which) (s : State) → eqb (state_kind s) (state_of k) ≡ in_state k s
kind-is queue = ready-kind
kind-is waits = waiting-kind
kind-is timers = due-kind

-- what the code reads of any order
module _ {ws : List ℕ} {m : Machine} (h : Codes ws m) where
  count-is : (k : Which) → get_or ws (count_at k) 0 ≡ count_of k m
  count-is queue = queued-word h
  count-is waits = waiting-word h
  count-is timers = timed-word h

  name-is : (k : Which) (i : ℕ) → i < 64 → get_or ws (first_at k + i) 0 ≡ get_or (array_of k m) i 0
  name-is queue = queue-word h
  name-is waits = wait-word h
  name-is timers = timer-word h

  pub array-long : (k : Which) → length (array_of k m) ≡ 64
  array-long queue = h.shaped.queue
  array-long waits = h.shaped.waits
  array-long timers = h.shaped.timers

  pub count-read : (k : Which) {counted : ℕ} → counted ≡ count_at k → get_or ws counted 0 ≡ count_of k m
  count-read k e = rw e (count-is k)

  pub name-read : (k : Which) {at : ℕ} → at ≡ first_at k → (i : ℕ) → i < 64 → get_or ws (at + i) 0 ≡ get_or (array_of k m) i 0
  name-read k e i l = rw e (name-is k i l)

module _ {ws : List ℕ} {m : Machine} (h : Holds ws m) where
  order-is : (k : Which) → Order ws (names_of k m) (array_of k m) (count_of k m) (first_at k) (count_at k) (λ l. with_names k l m)
  order-is queue = queue-order h
  order-is waits = wait-order h
  order-is timers = timer-order h

  -- .. at the words that the code has for it
  module _ (k : Which) {at counted : ℕ} (e : at ≡ first_at k) (f : counted ≡ count_at k) where
    pub order-at : Order ws (names_of k m) (array_of k m) (count_of k m) at counted (λ l. with_names k l m)
    order-at = rw (e, f) (order-is k)

    pub joined-put : (p n : ℕ) → n ≡ count_of k m → n < 64 → Holds (set (set ws (at + n) p) counted (n + 1)) (joined k p m)
    joined-put p n g l = subst (Holds _) (names-join k p m) (name-put order-at p n g l)

    pub replaced-put : (p i index : ℕ) (x : List ℕ) → i ≡ count_of k m → index < i → x ≡ without index (take i (drop at ws)) ++ (p ∷ [])
        → Holds (take at ws ++ (x ++ drop i (drop at ws))) (joined k p (with_names k (without index (names_of k m)) m))
    replaced-put p i index x g l r = subst (Holds _) (changed-joins k (without index (names_of k m)) p m)
        (replace-put order-at p i index x g l r)

  -- leaving and joining, in one
  pub replaced : (p index : ℕ) → with_orders (without index (queue_of m) ++ (p ∷ [])) (waits_of m) m ≡ enqueue p (dequeued m index)
  replaced p index = changed-joins queue (without index (queue_of m)) p m

  -- an order has no more names than its array
  pub count-fits : (k : Which) → count_of k m ≤ 64
  count-fits k = let o = order-is k in omega (arith, o.number, o.fits)
