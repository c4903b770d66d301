-- A record that keeps the index rules has its orders in order: its arrays are as long as the table of tokens, and what stands behind their
-- names is 0. Assumes nothing.
use mathlib.Core.Path.{◌≡◌, refl, sym, ap, ap₂, ◌∙◌}
use mathlib.Core.Bool.{Bool, true}
use mathlib.Core.List.{List, [], ◌∷◌}
use Prim.Native.Nat.{ℕ, ◌-◌}
use native.Mathlib.Omega.{arith}
use lib.Dec.{eqb}
use lib.ListN.{length, take, drop, replicate, length-drop}
use lib.Seq.{length-take-le}
use Rattle.job.specs.Test.{◌and◌, for_all, padded}
use Rattle.job.specs.Node.{Dag}
use Rattle.model.specs.Machine.Limits.{Limits}
use Rattle.model.specs.Machine.Rules.{names_once, rules_hold}
use Rattle.model.specs.Machine.State.{is_ready, is_waiting, is_due}
use Rattle.model.specs.Machine.Update.{queue_of, waits_of, timers_of}
use Rattle.model.specs.declared.token.State.{State}
use Rattle.model.specs.declared.token.Token.{Token}
use Rattle.model.specs.declared.record.Machine.{Machine}
use Rattle.job.proofs.Test.{and_left, and_right, eqb-eq}
use Rattle.model.proofs.Machine.Rules.{each-rule-holds, NamesOnce, names-once}
use Rattle.record.specs.Holds.{Codes, Ordered, Holds}
use Rattle.orders.proofs.NamesPadded.{padded-front}

zeros : (xs : List ℕ) → for_all (eqb 0) xs ≡ true → xs ≡ replicate (length xs) 0
unfolding for_all
zeros [] e = refl
zeros (x ∷ xs) e = ap₂ ◌∷◌ (sym (eqb-eq 0 x (and_left _ _ e))) (zeros xs (and_right _ _ e))

-- an order that names its tokens once
module _ (of : State → Bool) (ts : List Token) (array : List ℕ) (n : ℕ) (e : names_once of ts array n ≡ true) where
  once : NamesOnce of ts array n
  once = names-once of ts array n e

  padded-is : array ≡ padded 0 (length ts) (take n array)
  padded-is =
      let rest : length (drop n array) ≡ length ts - n = omega (arith, length-drop n array, once.size) in
      sym (padded-front 0 array n (length ts) once.size (omega (arith, once.fits, once.size))
      (zeros (drop n array) once.rest ∙ ap (λ i. replicate i 0) rest))

  count-is : n ≡ length (take n array)
  count-is = sym (length-take-le n array once.fits)

module _ (lim : Limits) (d : Dag) (m : Machine) (holds : rules_hold lim d m ≡ true) where
  pub rules-ordered : Ordered m
  unfolding queue_of waits_of timers_of
  rules-ordered =
      let r = each-rule-holds lim d m holds in
      record {
        queue = padded-is is_ready m.tokens m.queue m.queued r.queue;
        queued = count-is is_ready m.tokens m.queue m.queued r.queue;
        waits = padded-is is_waiting m.tokens m.waits m.waiting r.waits;
        waiting = count-is is_waiting m.tokens m.waits m.waiting r.waits;
        timers = padded-is is_due m.tokens m.timers m.timed r.timers;
        timed = count-is is_due m.tokens m.timers m.timed r.timers;
      }

  pub rules-hold-words : {ws : List ℕ} → Codes ws m → Holds ws m
  rules-hold-words h = record { codes = h; ordered = rules-ordered }
