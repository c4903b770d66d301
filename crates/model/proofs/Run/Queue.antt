-- The queue of a machine that keeps the rules names tokens that are ready and not under a set cell, and the one at its front stands
-- nowhere else in it: the rules test that it names each ready token once. Assumes nothing.
use mathlib.Core.Path.{◌≡◌, sym, ◌∙◌, subst}
use mathlib.Core.Bool.{Bool, true, false}
use mathlib.Core.List.{List, [], ◌∷◌}
use Prim.Native.Nat.{ℕ, suc, ◌≤◌, ◌<◌}
use native.Mathlib.Omega.{arith}
use lib.ListN.{length, get_or, take}
use lib.Seq.{get_or-take, length-take-le}
use Rattle.job.specs.Test.{occurrences, once}
use Rattle.job.specs.Node.{Dag}
use Rattle.model.specs.Machine.Limits.{Limits}
use Rattle.model.specs.Machine.Blank.{blank_token, token_at}
use Rattle.model.specs.Machine.Active.{under_set}
use Rattle.model.specs.Machine.State.{is_ready}
use Rattle.model.specs.Machine.Rules.{not_under_set, rules_hold}
use Rattle.model.specs.Run.Follow.{queued_token}
use Rattle.model.specs.declared.token.State.{State}
use Rattle.model.specs.declared.token.Token.{Token}
use Rattle.model.specs.declared.cell.Cell.{Cell}
use Rattle.model.specs.declared.record.Machine.{Machine}
use Rattle.model.proofs.Machine.Rules.{EachRuleHolds, each-rule-holds, NamesOnce, names-once, order-inside, order-names}
use Rattle.model.proofs.Machine.Rules.{occurrences-here, occurrences-at, ready-live}
use Rattle.job.proofs.Test.{all-at, not-true, once-small}

-- what stands at the front and again behind is counted twice
counted-twice : (q : List ℕ) (k : ℕ) → suc k < length q → get_or q 0 0 ≡ get_or q (suc k) 0 → 1 < occurrences (get_or q (suc k) 0) q
counted-twice [] k l e = absurd (omega arith)
counted-twice (x ∷ q) k l e =
    subst (λ n. 1 < occurrences n (x ∷ q)) e
    (let z = occurrences-here x q in let c = subst (λ n. 0 < occurrences n q) (sym e) (occurrences-at q k (omega arith)) in omega arith)

once-twice : (b : Bool) → 1 < once b → ⊥
once-twice b l = let z = once-small b in omega arith

-- an order that names each token of a kind once has its front nowhere else
module _ (of : State → Bool) (ts : List Token) (array : List ℕ) (n : ℕ) (o : NamesOnce of ts array n) where
  abbrev order : List ℕ
  order = take n array

  order-length : length order ≡ n
  order-length = length-take-le n array o.fits

  order-at : (k : ℕ) → k < n → get_or order k 0 ≡ get_or array k 0
  order-at k l = get_or-take n array k 0 l

  order-front : (k : ℕ) → suc k < n → get_or array 0 0 ≡ get_or array (suc k) 0 → ⊥
  order-front k l e =
      once-twice (of (token_at ts (get_or array (suc k) 0)).state)
      (subst (λ c. 1 < c) (o.counts (get_or array (suc k) 0) (order-inside of ts array n o (suc k) l))
      (subst (λ p. 1 < occurrences p order) (order-at (suc k) l)
      (counted-twice order k (let z = order-length in omega arith) (order-at 0 (omega arith) ∙ (e ∙ sym (order-at (suc k) l))))))

-- what the rules say of the queue
pub record QueueRulesHold (m : Machine) : Type 0 where
  pub short : m.queued ≤ length m.queue
  pub named : (k : ℕ) → k < m.queued → get_or m.queue k 0 < length m.tokens
  pub ready : (k : ℕ) → k < m.queued → is_ready (queued_token m k).state ≡ true
  pub clear : (k : ℕ) → k < m.queued → under_set m.cells (queued_token m k).cell ≡ false
  pub apart : (k : ℕ) → suc k < m.queued → get_or m.queue 0 0 ≡ get_or m.queue (suc k) 0 → ⊥

not-under : (cs : List Cell) (t : Token) → is_ready t.state ≡ true → not_under_set cs t ≡ true → under_set cs t.cell ≡ false
unfolding not_under_set
not-under cs t r e = not-true _ (rw (ready-live t.state r, not_under_set) at e)

module _ (lim : Limits) (d : Dag) (m : Machine) (holds : rules_hold lim d m ≡ true) where
  rules : EachRuleHolds lim d m
  rules = each-rule-holds lim d m holds

  names : NamesOnce is_ready m.tokens m.queue m.queued
  names = names-once is_ready m.tokens m.queue m.queued rules.queue

  pub queue-rules-hold : QueueRulesHold m
  unfolding token_at
  queue-rules-hold =
      record {
        short = names.fits;
        named = named;
        ready = ready;
        clear =
            λ k l.
            not-under m.cells (queued_token m k) (ready k l)
            (all-at (not_under_set m.cells) m.tokens _ blank_token rules.under (named k l));
        apart = order-front is_ready m.tokens m.queue m.queued names;
      }
    where
      named : (k : ℕ) → k < m.queued → get_or m.queue k 0 < length m.tokens
      named = order-inside is_ready m.tokens m.queue m.queued names

      ready : (k : ℕ) → k < m.queued → is_ready (queued_token m k).state ≡ true
      ready = order-names is_ready m.tokens m.queue m.queued names
