-- A choke, step by step: the walk up from a cell by the words' numbers, what becomes of a token, of the table, and of the two orders.
-- Assumes nothing.
use mathlib.Core.Path.{◌≡◌, refl, sym, ap, ap₂, subst, ◌∙◌}
use mathlib.Core.Bool.{Bool, true, false}
use mathlib.Core.List.{List, [], ◌∷◌, ◌++◌, map, append_assoc, append-nil, map-append}
use Prim.Native.Nat.{ℕ, zero, suc, ◌+◌, ◌-◌, ◌<◌, ◌≤◌}
use native.Mathlib.Numerals.{add-one}
use native.Mathlib.Omega.{arith}
use lib.ListN.{length, get_or, set, take, drop, replicate, get_or-replicate, length-append, get_or-map, get_or-append}
use lib.ListN.{get_or-eq_default}
use lib.Seq.{take-suc, take_all, append_snoc, length-take-le}
use lib.Dec.{eqb}
use Rattle.std.specs.Prelude.{Some, None}
use Rattle.job.specs.Test.{select, padded}
use Rattle.model.specs.Machine.Blank.{blank_token, blank_cell, token_at, cell_at}
use Rattle.model.specs.Machine.Active.{upward, within}
use Rattle.model.specs.Machine.State.{is_ready, is_waiting, is_due, waits_at}
use Rattle.model.specs.Machine.Update.{with_state, with_tables, with_orders, with_timers, queue_of, waits_of, timers_of, put, enqueue}
use Rattle.model.specs.Machine.Step.{choke_token, after_choke}
use Rattle.model.specs.Machine.Held.{Held, Place}
use Rattle.model.specs.declared.token.State.{State}
use Rattle.model.specs.declared.token.State.TheVariants as states
use Rattle.model.specs.declared.token.Token.{Token}
use Rattle.model.specs.declared.cell.Cell.{Cell}
use Rattle.model.specs.declared.record.Machine.{Machine}
use Rattle.job.proofs.Test.{eq-eqb, ne_eqb}
use Rattle.model.proofs.Machine.Choke.{choke-at}
use Rattle.model.proofs.Machine.WrittenTokens.{choked-blank}
use Rattle.model.proofs.Keeps.Orders.{waits-are, orders-with}
use Rattle.record.specs.LayoutDecoded.{place_from}
use Rattle.record.specs.Changes.{dequeued, store_cell, set_cell}
use Rattle.record.specs.Holds.{Holds}
use Rattle.record.proofs.PlaceNumber.{place-from}
use Rattle.orders.specs.NamesRetained.{marked_of}
use Rattle.record.specs.Layout.{state_kind, state_number, place_number}
use Rattle.orders.proofs.NamesPadded.{length_without}
use Rattle.record.proofs.TokenRow.{put_self, ready-kind, waiting-kind, due-kind}
use Rattle.orders.proofs.NamesRetained.{select-one, select-append, select_short, select-same}
use Rattle.pruning.specs.Choke.{rows_choked, reordered, still_due, ChokeFacts}
use Rattle.reach.specs.Marks.{BlankFrom}
use Rattle.reach.proofs.ListLoops.{drop-next, steady}
use Rattle.sites.proofs.TableLoops.{Mapping, mapping-end, rows_all}
use Rattle.sites.proofs.SameOrders.{orders-again, timers-again}
use Rattle.model.proofs.Run.Bystander.{queue-orders}

-- the walk up, so many links, from the place that has a number
abbrev pub walk : List Cell → ℕ → ℕ → ℕ → Bool
walk cs c n k = upward (λ b k. eqb c b) cs n (place_from k)

pub walk-starts : (cs : List Cell) (c n k : ℕ) (q : Place) → place_number q ≡ k → length cs ≡ n → within cs c q ≡ walk cs c n k
unfolding within
walk-starts cs c n k q e l = ap₂ (λ n q. upward (λ b k. eqb c b) cs n q) l (sym (place-from k q (sym e)))

from-root : (cs : List Cell) (c n : ℕ) (q : Place) → q ≡ None → false ≡ upward (λ b k. eqb c b) cs n q
unfolding upward
from-root cs c zero q e = refl
from-root cs c (suc n) q e = rw (e, upward)

module _ (cs : List Cell) (c n k : ℕ) where
  pub walk-out : n ≡ 0 → false ≡ walk cs c n k
  unfolding upward
  walk-out e = sym (ap (λ n. walk cs c n k) e)

  pub walk-root : k ≡ 0 → false ≡ walk cs c n k
  unfolding place_from
  walk-root e = from-root cs c n (place_from k) (ap place_from e)

  named : (b : ℕ) → 0 < k → b ≡ k - 1 → place_from k ≡ Some b
  unfolding place_from
  named b l e = let s : k ≡ suc b = omega arith in ap place_from s

  pub walk-found : (b : ℕ) → 0 < n → 0 < k → b ≡ k - 1 → c ≡ b → true ≡ walk cs c n k
  unfolding upward
  walk-found b l z e f =
      let s : n ≡ suc (n - 1) = omega arith in
      sym (ap₂ (λ n q. upward (λ b k. eqb c b) cs n q) s (named b z e) ∙ rw (eq-eqb c b f, upward))

  pub walk-on : (b j : ℕ) → 0 < n → 0 < k → b ≡ k - 1 → (c ≡ b → ⊥) → j ≡ place_number (cell_at cs b).parent
      → walk cs c n k ≡ walk cs c (n - 1) j
  unfolding upward
  walk-on b j l z e f g =
      let s : n ≡ suc (n - 1) = omega arith in
      ap₂ (λ n q. upward (λ b k. eqb c b) cs n q) s (named b z e)
      ∙ rw (ne_eqb c b f, upward) (ap (upward (λ b k. eqb c b) cs (n - 1)) (sym (place-from j (cell_at cs b).parent g)))

  pub walk-outside : (b : ℕ) → 0 < n → 0 < k → b ≡ k - 1 → (c ≡ b → ⊥) → length cs ≤ b → false ≡ walk cs c n k
  unfolding cell_at place_from
  walk-outside b l z e f out =
      sym (walk-on b 0 l z e f (sym (ap (λ (x : Cell). place_number x.parent) (get_or-eq_default cs blank_cell {n = b} out)))
      ∙ sym (from-root cs c (n - 1) (place_from 0) refl))

-- what becomes of a token
waits-by : (c k n : ℕ) (s : State) (b : Bool) → k ≡ state_kind s → n ≡ state_number s → (b ≡ true → (k ≡ 2) × (c ≡ n))
    → (b ≡ false → k ≡ 2 → c ≡ n → ⊥) → waits_at c s ≡ b
unfolding waits_at
waits-by c k n states.Blank true e f yes' no' = let z = (yes' refl).0 in absurd (omega arith)
waits-by c k n states.Blank false e f yes' no' = refl
waits-by c k n states.Ready true e f yes' no' = let z = (yes' refl).0 in absurd (omega arith)
waits-by c k n states.Ready false e f yes' no' = refl
waits-by c k n (states.Waiting b) true e f yes' no' = eq-eqb c b ((yes' refl).1 ∙ f)
waits-by c k n (states.Waiting b) false e f yes' no' = ne_eqb c b (λ s. no' refl e (s ∙ sym f))
waits-by c k n (states.Called h) true e f yes' no' = let z = (yes' refl).0 in absurd (omega arith)
waits-by c k n (states.Called h) false e f yes' no' = refl
waits-by c k n (states.Due d) true e f yes' no' = let z = (yes' refl).0 in absurd (omega arith)
waits-by c k n (states.Due d) false e f yes' no' = refl
waits-by c k n states.Frame true e f yes' no' = let z = (yes' refl).0 in absurd (omega arith)
waits-by c k n states.Frame false e f yes' no' = refl

module _ (cs : List Cell) (c : ℕ) (t : Token) (b : Bool) (e : b ≡ within cs c t.cell) where
  pub choke-ends : b ≡ true → blank_token ≡ choke_token cs c t
  unfolding choke_token
  choke-ends f = rw (sym e ∙ f, choke_token)

  module _ (k n : ℕ) (ek : k ≡ state_kind t.state) (f : b ≡ false) where
    pub choke-wakes : n ≡ state_number t.state → k ≡ 2 → c ≡ n → with_state states.Ready t ≡ choke_token cs c t
    unfolding choke_token
    choke-wakes en g h =
        rw (
          sym e ∙ f,
          waits-by c k n t.state true ek en (λ _. (g, h)) (λ z. absurd (Rattle.job.proofs.Test.clash {A = ⊥} refl z)),
          choke_token,
        )

    pub choke-passes : n ≡ state_number t.state → (k ≡ 2 → c ≡ n → ⊥) → t ≡ choke_token cs c t
    unfolding choke_token
    choke-passes en g =
        rw (
          sym e ∙ f,
          waits-by c k n t.state false ek en (λ z. absurd (Rattle.job.proofs.Test.clash {A = ⊥} z refl))
              (λ _. g),
          choke_token,
        )

-- a loop that writes f of each element may stop where the rest is so already
module _ {A B : Type 0} (f : A → B) (xs : List A) (old : List B) (d : A) (e : B) (s : length old ≡ length xs) where
  abbrev written-to : ℕ → List B
  written-to i = map f (take i xs) ++ drop i old

  written_same : (i : ℕ) → i < length xs → get_or old i e ≡ f (get_or xs i d) → written-to i ≡ written-to (i + 1)
  written_same i l g =
      let front = map f (take i xs) in
      let more : map f (take (i + 1) xs) ≡ front ++ (f (get_or xs i d) ∷ []) =
      ap (λ n. map f (take n xs)) (add-one i) ∙ ap (map f) (take-suc xs i d l) ∙ map-append f (take i xs) (get_or xs i d ∷ []) in
      ap (◌++◌ front) (drop-next old i e (omega arith) ∙ ap (λ x. x ∷ drop (i + 1) old) g)
      ∙ sym (append_snoc front (f (get_or xs i d)) (drop (i + 1) old))
      ∙ ap (λ ys. ys ++ drop (i + 1) old) (sym more)

  pub mapping-rest : (i : ℕ) (out : List B) → Mapping f xs old i out → i ≤ length xs
      → ((k : ℕ) → i ≤ k → k < length xs → get_or old k e ≡ f (get_or xs k d)) → out ≡ map f xs
  mapping-rest i out o l g =
      o.so_far
      ∙ steady written-to i (length xs) l (λ k from to. written_same k to (g k from to))
      ∙ mapping-end f xs old (length xs) (written-to (length xs)) (record { so_far = refl; size = s }) (omega arith)

-- the marks of those whose state is of a kind
pub kinds-rest : (m : Machine) (kind p : ℕ) (marks : List Bool) → length m.tokens ≡ 64 → 0 < kind → p ≤ 64 → BlankFrom m p
    → Mapping (λ (t : Token). eqb (state_kind t.state) kind) m.tokens (replicate 64 false) p marks
    → marks ≡ map (λ (t : Token). eqb (state_kind t.state) kind) m.tokens
unfolding token_at
kinds-rest m kind p marks l some h b o =
    mapping-rest _ m.tokens (replicate 64 false) blank_token false (sym l) p marks o (omega arith)
    (λ k from to.
    let z : k < 64 = omega arith in
    get_or-replicate 64 k false false z
    ∙ sym (ap (λ (t : Token). eqb (state_kind t.state) kind) (b k from z) ∙ ne_eqb 0 kind (λ e. absurd (omega arith))))

-- the rows
module _ (c : ℕ) (m : Machine) where
  abbrev ends : Token → Token
  ends = choke_token m.cells c

  abbrev rows : ℕ → List Token
  rows p = map ends (take p m.tokens) ++ drop p m.tokens

  -- from p on the tokens are blank
  module _ (long : length m.tokens ≡ 64) (p : ℕ) (b : BlankFrom m p) where
    pub rows-rest : p ≤ 64 → rows_choked c p m ≡ rows_choked c 64 m
    unfolding token_at
    rows-rest l =
        ap (λ ts. with_tables ts m.cells m)
        (mapping-rest ends m.tokens m.tokens blank_token blank_token refl p (rows p) (record { so_far = refl; size = refl })
        (omega arith)
        (λ k from to. let e = b k from (omega arith) in sym (ap ends e ∙ choked-blank m.cells c ∙ sym e))
        ∙ sym (rows_all ends m 64 (omega arith)))

    pub rows-blank : BlankFrom (rows_choked c 64 m) p
    unfolding with_tables
    rows-blank i from to =
        ap (λ ts. token_at ts i) (rows_all ends m 64 (omega arith))
        ∙ choke-at m.cells c m.tokens i
        ∙ ap ends (b i from to)
        ∙ choked-blank m.cells c

waits_back : (q w : List ℕ) (m : Machine) → waits_of (with_orders q w m) ≡ w
waits_back q w m = waits-are (orders-with q w m)

-- a marked name joins the queue
module _ {ws : List ℕ} (m : Machine) (marks : List Bool) (p : ℕ) (b : Bool) (e : b ≡ get_or marks p false) where
  pub joins : b ≡ true → Holds ws (enqueue p m) → Holds ws (with_orders (queue_of m ++ marked_of marks (p ∷ [])) (waits_of m) m)
  unfolding enqueue
  joins f h = subst (λ xs. Holds ws (with_orders (queue_of m ++ xs) (waits_of m) m))
      (sym (select-one (λ (p : ℕ). get_or marks p false) p true (sym e ∙ f))) h

  pub stays_out : b ≡ false → Holds ws m → Holds ws (with_orders (queue_of m ++ marked_of marks (p ∷ [])) (waits_of m) m)
  stays_out f h =
      subst (λ xs. Holds ws (with_orders xs (waits_of m) m))
      (sym (append-nil (queue_of m)) ∙ ap (◌++◌ (queue_of m)) (sym (select-one (λ (p : ℕ). get_or marks p false) p false (sym e ∙ f))))
      (subst (Holds ws) (sym (orders-again h)) h)

-- the wait order's marked names join the queue, one by one
module _ {ws : List ℕ} (m : Machine) (h : Holds ws m) (marks : List Bool) where
  abbrev pub woken : ℕ → Machine
  woken i = with_orders (queue_of m ++ marked_of marks (take i (waits_of m))) (waits_of m) m

  pub woken-none : Holds ws (woken 0)
  unfolding select
  woken-none =
      subst (λ xs. Holds ws (with_orders xs (waits_of m) m)) (sym (append-nil (queue_of m))) (subst (Holds ws) (sym (orders-again h)) h)

  pub woken-all : (i : ℕ) → m.waiting ≤ i → woken i ≡ with_orders (queue_of m ++ marked_of marks (waits_of m)) (waits_of m) m
  woken-all i l =
      let n = h.ordered.waiting in
      ap (λ xs. with_orders (queue_of m ++ marked_of marks xs) (waits_of m) m) (take_all i (waits_of m) (omega arith))

  module _ (i : ℕ) (l : i < m.waiting) (room : m.queued + m.waiting ≤ 64) where
    pub woken-room : (woken i).queued < 64
    unfolding with_orders
    woken-room =
        let found = marked_of marks (take i (waits_of m)) in
        let n = h.ordered.waiting in
        let k = h.ordered.queued in
        let a = length-append (queue_of m) found in
        let s = select_short (λ (p : ℕ). get_or marks p false) (take i (waits_of m)) in
        let t = length-take-le i (waits_of m) (omega arith) in
        omega arith

    name-is : (p : ℕ) → p ≡ get_or (woken i).waits i 0 → p ≡ get_or (waits_of m) i 0
    unfolding with_orders padded
    name-is p e = let n = h.ordered.waiting in e ∙ get_or-append (waits_of m) _ 0 i (omega arith)

    pub woken-more : {xs : List ℕ} (p : ℕ) → p ≡ get_or (woken i).waits i 0
        → Holds xs (with_orders (queue_of (woken i) ++ marked_of marks (p ∷ [])) (waits_of (woken i)) (woken i)) → Holds xs (woken (i + 1))
    unfolding with_orders
    woken-more {xs} p e k =
        let q = queue_of m in
        let w = waits_of m in
        let n = h.ordered.waiting in
        let f : ℕ → Bool = λ (p : ℕ). get_or marks p false in
        let more : select f (take i w) ++ select f (p ∷ []) ≡ select f (take (i + 1) w) =
        sym (select-append f (take i w) (p ∷ []))
        ∙ ap (λ x. select f (take i w ++ (x ∷ []))) (name-is p e)
        ∙ ap (select f) (sym (take-suc w i 0 (omega arith)) ∙ ap (λ n. take n w) (sym (add-one i))) in
        let names : queue_of (woken i) ++ marked_of marks (p ∷ []) ≡ q ++ marked_of marks (take (i + 1) w) =
        ap (λ x. x ++ marked_of marks (p ∷ [])) (queue-orders (q ++ marked_of marks (take i w)) w m)
        ∙ append_assoc q (marked_of marks (take i w)) (marked_of marks (p ∷ []))
        ∙ ap (◌++◌ q) more in
        subst (Holds xs) (ap₂ (λ a b. with_orders a b m) names (waits_back (q ++ marked_of marks (take i w)) w m)) k

-- the queue without those that are not ready, with those that waited, and the wait order without those that do not wait
abbrev pub first : Machine → (ready : List Bool) → Machine
first m ready = with_orders (marked_of ready (queue_of m)) (waits_of m) m

abbrev pub second : Machine → (ready : List Bool) → Machine
second m ready =
    let one = first m ready in with_orders (queue_of one ++ marked_of ready (waits_of one)) (waits_of one) one

abbrev pub third : Machine → (ready waiting : List Bool) → Machine
third m ready waiting =
    let two = second m ready in with_orders (queue_of two) (marked_of waiting (waits_of two)) two

-- the names whose tokens' states are of a kind are those that a test of states selects
pub kind-same : (m : Machine) (kind : ℕ) → eqb 0 kind ≡ false → (test : State → Bool) → ((s : State) → eqb (state_kind s) kind ≡ test s)
    → (marks : List Bool) → marks ≡ map (λ (t : Token). eqb (state_kind t.state) kind) m.tokens
    → (xs : List ℕ) → marked_of marks xs ≡ select (λ (p : ℕ). test (token_at m.tokens p).state) xs
unfolding token_at
kind-same m kind none test same marks e xs =
    let is : Token → Bool = λ (t : Token). eqb (state_kind t.state) kind in
    select-same _ _ xs
    (λ p. ap₂ (λ r b. get_or r p b) e (sym none) ∙ get_or-map is m.tokens p blank_token ∙ same (token_at m.tokens p).state)

module _ (m : Machine) (ready waiting : List Bool)
    (er : ready ≡ map (λ (t : Token). eqb (state_kind t.state) 1) m.tokens)
    (ew : waiting ≡ map (λ (t : Token). eqb (state_kind t.state) 2) m.tokens) where
  pub reorder-is : third m ready waiting ≡ reordered m
  unfolding with_orders
  reorder-is =
      let q = queue_of m in
      let w = waits_of m in
      let one = first m ready in
      let two = second m ready in
      let front : queue_of one ++ marked_of ready (waits_of one) ≡ select (λ (p : ℕ). is_ready (token_at m.tokens p).state) (q ++ w) =
      ap₂ (λ a b. a ++ marked_of ready b) (queue-orders (marked_of ready q) w m) (waits_back (marked_of ready q) w m)
      ∙ sym (select-append (λ (p : ℕ). get_or ready p false) q w)
      ∙ kind-same m 1 refl is_ready ready-kind ready er (q ++ w) in
      let back : waits_of two ≡ w = waits_back (queue_of one ++ marked_of ready (waits_of one)) (waits_of one) one
      ∙ waits_back (marked_of ready q) w m in
      ap₂ (λ a b. with_orders a (marked_of waiting b) m)
      (queue-orders (queue_of one ++ marked_of ready (waits_of one)) (waits_of one) one ∙ front) back
      ∙ ap (λ b. with_orders (select (λ (p : ℕ). is_ready (token_at m.tokens p).state) (q ++ w)) b m)
      (kind-same m 2 refl is_waiting waiting-kind waiting ew w)

pub first-room : {ws : List ℕ} {m : Machine} → Holds ws m → (ready : List Bool) → m.queued + m.waiting ≤ 64
    → (first m ready).queued + (first m ready).waiting ≤ 64
unfolding with_orders
first-room {ws} {m} h ready l =
    let a = select_short (λ (p : ℕ). get_or ready p false) (queue_of m) in
    let b = h.ordered.queued in
    let d = h.ordered.waiting in
    omega arith

-- the order of call without those that are not due later
module _ {ws : List ℕ} (m : Machine) where
  pub none-due : m.timed ≡ 0 → Holds ws m → Holds ws (still_due m)
  unfolding timers_of select
  none-due e h =
      let none : timers_of m ≡ [] = ap (λ n. take n m.timers) e in
      subst (Holds ws) (sym (ap (λ l. with_timers (select (λ (p : ℕ). is_due (token_at m.tokens p).state) l) m) none
      ∙ ap (λ l. with_timers l m) (sym none)
      ∙ timers-again h)) h

  pub due-retained : (due : List Bool) → due ≡ map (λ (t : Token). eqb (state_kind t.state) 4) m.tokens
      → Holds ws (with_timers (marked_of due (timers_of m)) m) → Holds ws (still_due m)
  due-retained due e h = subst (λ l. Holds ws (with_timers l m)) (kind-same m 4 refl is_due due-kind due e (timers_of m)) h

-- the whole of it
module _ {ws : List ℕ} (m : Machine) (h : Holds ws m) (place c : ℕ) (f : ChokeFacts m place) where
  pub taken-room : (dequeued m place).queued + (dequeued m place).waiting ≤ 64
  unfolding with_orders
  taken-room =
      let b = h.ordered.queued in
      let d = h.ordered.waiting in
      let l : place < m.queued = f.queued in
      let r : m.queued + m.waiting ≤ 64 = f.room in
      let a = length_without place (queue_of m) (omega arith) in
      omega arith

  tokens-there : length (dequeued m place).tokens ≡ 64
  unfolding with_orders
  tokens-there = h.codes.shaped.tokens

  pub choke-is : (v : Held)
      → still_due (reordered (store_cell c (set_cell v (cell_at (dequeued m place).cells c)) (rows_choked c 64 (dequeued m place))))
      ≡ after_choke c v (dequeued m place)
  unfolding after_choke with_tables with_orders with_timers queue_of waits_of timers_of
  choke-is v =
      let t = dequeued m place in
      let n = tokens-there in
      ap (λ ts. still_due (reordered (with_tables ts (set t.cells c (set_cell v (cell_at t.cells c))) t)))
      (rows_all (choke_token t.cells c) t 64 (omega arith))

-- a row in its place
module _ {ws : List ℕ} (m : Machine) (c p : ℕ) (b : Bool) (e : b ≡ within m.cells c (token_at m.tokens p).cell) where
  pub row_ends : b ≡ true → Holds ws (put p blank_token m) → Holds ws (put p (choke_token m.cells c (token_at m.tokens p)) m)
  row_ends f h = subst (λ t. Holds ws (put p t m)) (choke-ends m.cells c (token_at m.tokens p) b e f) h

  module _ (k : ℕ) (ek : k ≡ state_kind (token_at m.tokens p).state) (f : b ≡ false) where
    pub row-wakes : (n : ℕ) → n ≡ state_number (token_at m.tokens p).state → k ≡ 2 → c ≡ n
        → Holds ws (put p (with_state states.Ready (token_at m.tokens p)) m)
        → Holds ws (put p (choke_token m.cells c (token_at m.tokens p)) m)
    row-wakes n en g s h = subst (λ t. Holds ws (put p t m)) (choke-wakes m.cells c (token_at m.tokens p) b e k n ek f en g s) h

    pub row-passes : (n : ℕ) → n ≡ state_number (token_at m.tokens p).state → (k ≡ 2 → c ≡ n → ⊥) → Holds ws m
        → Holds ws (put p (choke_token m.cells c (token_at m.tokens p)) m)
    row-passes n en g h =
        subst (λ t. Holds ws (put p t m)) (choke-passes m.cells c (token_at m.tokens p) b e k n ek f en g)
        (subst (Holds ws) (sym (put_self m p)) h)
