-- What a few writes, one behind the other, make of a record: the tokens that they name, and the length of the queue. A write changes one
-- row or one order and leaves the others. Assumes nothing.
use mathlib.Core.Path.{◌≡◌, sym, ap, subst, ◌∙◌}
use mathlib.Core.List.{List, [], ◌∷◌, ◌++◌}
use Prim.Native.Nat.{ℕ, suc, ◌+◌, ◌-◌, ◌<◌}
use native.Mathlib.Numerals.{add-one}
use native.Mathlib.Omega.{arith}
use lib.ListN.{length, set, length-append, length-set}
use lib.Seq.{set_comm}
use Rattle.job.specs.Test.{padded, without}
use Rattle.model.specs.Machine.Blank.{token_at}
use Rattle.model.specs.Machine.Update.{put, with_binding, with_tables, with_counts, with_orders, queue_of, waits_of, enqueue}
use Rattle.model.specs.declared.token.Token.{Token}
use Rattle.model.specs.declared.record.Machine.{Machine}
use Rattle.model.specs.declared.token.Slot.{Slot}
use Rattle.record.specs.Changes.{dequeued, with_binds}
use Rattle.record.specs.Holds.{Holds}
use Rattle.orders.proofs.NamesPadded.{length_without}
use Rattle.record.proofs.HoldsShape.{shaped}
use Rattle.record.proofs.OrderLaws.{replaced}
use Rattle.record.proofs.TokenRow.{put_self}
use Rattle.model.proofs.Machine.TableRows.{token-same, token-other}

-- how long the queue is
queued-taken : {ws : List ℕ} {m : Machine} (place : ℕ) → Holds ws m → place < m.queued → suc (dequeued m place).queued ≡ m.queued
unfolding with_orders
queued-taken {ws} {m} place h l = let e = h.ordered.queued in length_without place (queue_of m) (omega arith) ∙ sym e

pub queued-replaced : {ws : List ℕ} {m : Machine} (p place : ℕ) → Holds ws m → place < m.queued
    → (enqueue p (dequeued m place)).queued ≡ m.queued
unfolding with_orders
queued-replaced {ws} {m} p place h l =
    ap (λ (o : Machine). o.queued) (sym (replaced h p place)) ∙ length-append (without place (queue_of m)) (p ∷ []) ∙ add-one _
    ∙ queued-taken place h l

pub waiting-taken : {ws : List ℕ} {m : Machine} (place : ℕ) → Holds ws m → (dequeued m place).waiting ≡ m.waiting
unfolding with_orders
waiting-taken place h = sym h.ordered.waiting

-- the code's n + 1
pub counted : {ws : List ℕ} (n p c : ℕ) (m : Machine) → Holds ws (with_counts (n + 1) p c m) → Holds ws (with_counts (suc n) p c m)
counted {ws} n p c m h = subst (λ k. Holds ws (with_counts k p c m)) (add-one n) h

-- a chain of writes to one row begins with the token that stands there
pub begins : {ws : List ℕ} (m : Machine) (p : ℕ) (t : Token) → token_at m.tokens p ≡ t → Holds ws m → Holds ws (put p t m)
begins {ws} m p t e h = subst (λ u. Holds ws (put p u m)) e (subst (Holds ws) (sym (put_self m p)) h)

-- the token that was put
pub put_same : {ws : List ℕ} (m : Machine) (p : ℕ) (t : Token) → Holds ws (put p t m) → p < 64 → token_at (put p t m).tokens p ≡ t
unfolding put with_tables
put_same m p t h l = token-same m.tokens p t (let e = (shaped h).tokens in let f = length-set m.tokens p t in omega arith)

pub put_other : (m : Machine) (p q : ℕ) (t : Token) → (q ≡ p → ⊥) → token_at (put p t m).tokens q ≡ token_at m.tokens q
unfolding put with_tables
put_other m p q t n = token-other m.tokens p q t n

-- writes to two rows in any order
pub put-comm : (m : Machine) (p q : ℕ) (t u : Token) → (p ≡ q → ⊥) → put p t (put q u m) ≡ put q u (put p t m)
unfolding put with_tables
put-comm m p q t u n = ap (λ ts. with_tables ts m.cells m) (set_comm m.tokens q p u t (λ e. n (sym e)))

-- a write to a row and one to the queue in any order
put-orders : (m : Machine) (p : ℕ) (t : Token) (q w : List ℕ) → put p t (with_orders q w m) ≡ with_orders q w (put p t m)
unfolding put with_tables with_orders
put-orders m p t q w =
    ap
    (λ n.
    record {
      tokens = set m.tokens p t;
      cells = m.cells;
      queue = padded 0 n q;
      queued = length q;
      waits = padded 0 n w;
      waiting = length w;
      calls = m.calls;
      lasttoken = m.lasttoken;
      lastcell = m.lastcell;
      timers = m.timers;
      timed = m.timed;
      clock = m.clock;
    }) (sym (length-set m.tokens p t))

pub put-queue : (m : Machine) (p q : ℕ) (t : Token) → put p t (enqueue q m) ≡ enqueue q (put p t m)
unfolding put with_tables enqueue queue_of waits_of
put-queue m p q t = put-orders m p t (queue_of m ++ (q ∷ [])) (waits_of m)

-- two rows
pub puts-queue : (m : Machine) (p q r : ℕ) (t u : Token) → put q u (put p t (enqueue r m)) ≡ enqueue r (put q u (put p t m))
puts-queue m p q r t u = ap (put q u) (put-queue m p r t) ∙ put-queue (put p t m) q r u

-- the same record, written in another way
pub carry : {ws : List ℕ} (f : Token → Machine) {t u : Token} → t ≡ u → Holds ws (f t) → Holds ws (f u)
carry {ws} f e h = subst (λ x. Holds ws (f x)) e h

pub carry-slot : {ws : List ℕ} (m : Machine) (p x : ℕ) (t : Token) {s r : Slot} → s ≡ r → Holds ws (put p (with_binding x s t) m)
    → Holds ws (put p (with_binding x r t) m)
carry-slot {ws} m p x t e h = subst (λ s. Holds ws (put p (with_binding x s t) m)) e h

pub carry-binds : {ws : List ℕ} (m : Machine) (p : ℕ) (t : Token) {bs cs : List Slot} → bs ≡ cs → Holds ws (put p (with_binds bs t) m)
    → Holds ws (put p (with_binds cs t) m)
carry-binds {ws} m p t e h = subst (λ bs. Holds ws (put p (with_binds bs t) m)) e h

pub carry-binding : {ws : List ℕ} (f : List Slot → Machine) {bs cs : List Slot} → bs ≡ cs → Holds ws (f bs) → Holds ws (f cs)
carry-binding {ws} f e h = subst (λ x. Holds ws (f x)) e h
