-- Tokens and cells in use stay within the limits after any accepted call from a record within them, for tables of any size and any
-- limits: the token that acts, or is answered, is alive, so it is in use and all that it names. Assumes nothing.
use mathlib.Core.Path.{◌≡◌, refl, sym, subst}
use mathlib.Core.Bool.{Bool, true, false}
use mathlib.Core.List.{List, [], ◌∷◌}
use Prim.Native.Nat.{ℕ, suc, ◌+◌}
use native.Mathlib.Omega.{arith}
use lib.ListN.{get_or}
use lib.Dec.{eqb}
use lib.IntN.{ℤ}
use Rattle.std.specs.Prelude.{Some, None}
use Rattle.job.specs.Test.{for_some, without}
use Rattle.job.specs.Node.{Dag, node_at}
use Rattle.model.specs.Machine.Limits.{Limits}
use Rattle.model.specs.Machine.Blank.{token_at}
use Rattle.model.specs.Machine.State.{is_live, is_ready, handle_of}
use Rattle.model.specs.Machine.InUse.{sweep, Within}
use Rattle.model.specs.Machine.Reply.{moves, is_refused}
use Rattle.model.specs.Machine.Update as Update
use Rattle.model.specs.Machine.Update.{queue_of, waits_of}
use Rattle.model.specs.Machine.Step.{takes, step}
use Rattle.model.specs.Machine.Answer.{holder, answered, answer}
use Rattle.model.specs.Machine.Clock.{woken_by, after_advance, advance}
use Rattle.model.specs.Machine.Held.{Place}
use Rattle.model.specs.declared.token.State.{State}
use Rattle.model.specs.declared.token.State.TheVariants as states
use Rattle.model.specs.declared.token.Token.{Token}
use Rattle.model.specs.declared.record.Machine.{Machine}
use Rattle.model.specs.declared.reply.Outcome.{Outcome}
use Rattle.job.proofs.Test.{never}
use Rattle.model.proofs.Machine.Refused.{After, after-outcome, StepAccepted, step-accepted, AnswerAccepted, answer-accepted}
use Rattle.model.proofs.Machine.Refused.{AdvanceAccepted, advance-accepted}
use Rattle.model.proofs.Machine.Rules.{EachRuleHolds, each-rule-holds, names-once, order-names, ready-live}
use Rattle.model.proofs.Machine.Inside.{inside-put, inside-map}
use Rattle.model.proofs.Machine.WrittenTokens.{fits-same, woken-blank, woken-live, woken-fits}
use Rattle.model.proofs.Machine.Used.{Used, used-fits, live-used, inside-old, none-new}
use Rattle.model.proofs.Machine.ActsWithin.{acted}

open-live : (h : ℕ) (s : State) → for_some (eqb h) (handle_of s) ≡ true → is_live s ≡ true
unfolding for_some handle_of is_live
open-live h states.Blank e = e
open-live h states.Ready e = refl
open-live h (states.Waiting c) e = refl
open-live h (states.Called g) e = refl
open-live h (states.Due d) e = refl
open-live h states.Frame e = e

-- the token under a handle is called out under it
pub holder-holds :
    (h i : ℕ) (ts : List Token) (p : ℕ)
    → holder h i ts ≡ Some p
    → (k : ℕ) × (p ≡ i + k) × (for_some (eqb h) (handle_of (token_at ts k).state) ≡ true)
unfolding holder token_at
holder-holds h i [] p e = never cc
holder-holds h i (t ∷ ts) p e = go (for_some (eqb h) (handle_of t.state)) refl e (λ x. holder-holds h (suc i) ts p x)
  where
    Holds : Type 0
    Holds = (k : ℕ) × (p ≡ i + k) × (for_some (eqb h) (handle_of (token_at (t ∷ ts) k).state) ≡ true)

    go :
        (b : Bool)
        → for_some (eqb h) (handle_of t.state) ≡ b
        → elim b as (λ b. Place) [ true ↦ Some i | false ↦ holder h (suc i) ts ] ≡ Some p
        → (holder h (suc i) ts ≡ Some p → (k : ℕ) × (p ≡ suc i + k) × (for_some (eqb h) (handle_of (token_at ts k).state) ≡ true))
        → Holds
    go true x y f = (0, (let z : i ≡ p = cc in omega arith), x)
    go false x y f = let (k, a, b) = f y in (suc k, omega arith, b)

module _ (lim : Limits) (d : Dag) (m : Machine) where
  pub step-within :
      (place : ℕ)
      → Within lim m
      → is_refused (step lim d m place).reply ≡ false
      → Within lim (step lim d m place).machine
  unfolding takes
  step-within place old e =
      subst (λ (o : Outcome). Within lim o.machine) (sym a.does)
      (after-outcome (λ o. Within lim (sweep o)) (Within lim) (λ o x. x) m (takes lim d m place)
      (acted lim d m rules old p in_use (without place (queue_of m)) (waits_of m) (node_at d (token_at m.tokens p).node))
      (subst (λ (o : Outcome). is_refused o.reply ≡ false) a.does e))
    where
      a : StepAccepted lim d m place
      a = step-accepted lim d m place e

      rules : EachRuleHolds lim d m
      rules = each-rule-holds lim d m a.holds

      p : ℕ
      p = get_or m.queue place 0

      in_use : Used m p
      in_use =
          live-used lim d m rules p
          (ready-live _
          (order-names is_ready m.tokens m.queue m.queued
          (names-once is_ready m.tokens m.queue m.queued rules.queue) place a.queued))

  answered-within :
      (value : ℤ) (handle : ℕ) (h : Place)
      → holder handle 0 m.tokens ≡ h
      → EachRuleHolds lim d m
      → Within lim m
      → After (λ o. Within lim (sweep o)) (answered m value h)
  unfolding After answered Update.enqueue Update.put Update.with_tables Update.with_orders Update.with_state Update.with_value
  answered-within v handle None e rules old = tt
  answered-within v handle (Some p) e rules old =
      none-new lim d m old _ (inside-put (inside-old lim d m rules) p _ in_use (fits-same refl refl refl (used-fits m p in_use)))
    where
      found : (k : ℕ) × (p ≡ 0 + k) × (for_some (eqb handle) (handle_of (token_at m.tokens k).state) ≡ true)
      found = holder-holds handle 0 m.tokens p e

      same : found.0 ≡ p
      same = let z : p ≡ 0 + found.0 = found.1 in omega arith

      in_use : Used m p
      in_use = subst (Used m) same (live-used lim d m rules found.0 (open-live handle _ found.2))

  pub answer-within :
      (handle : ℕ) (value : ℤ)
      → Within lim m
      → is_refused (answer lim d m handle value).reply ≡ false
      → Within lim (answer lim d m handle value).machine
  answer-within handle value old e =
      subst (λ (o : Outcome). Within lim o.machine) (sym a.does)
      (after-outcome (λ o. Within lim (sweep o)) (Within lim) (λ o x. x) m (answered m value (holder handle 0 m.tokens))
      (answered-within value handle (holder handle 0 m.tokens) refl (each-rule-holds lim d m a.holds) old)
      (subst (λ (o : Outcome). is_refused o.reply ≡ false) a.does e))
    where
      a : AnswerAccepted lim d m handle value
      a = answer-accepted lim d m handle value e

  -- a clock move: a token that wakes was alive, and names what it named
  pub advance-within :
      (time : ℕ)
      → Within lim m
      → is_refused (advance lim d m time).reply ≡ false
      → Within lim (advance lim d m time).machine
  unfolding After after_advance Update.with_clock Update.with_timers Update.with_orders Update.with_tables
  advance-within time old e =
      subst (λ (o : Outcome). Within lim o.machine) (sym a.does)
      (after-outcome (λ o. Within lim (sweep o)) (Within lim) (λ o x. x) m (moves (after_advance m time))
      (none-new lim d m old _
      (inside-map (inside-old lim d m (each-rule-holds lim d m a.holds)) (woken_by time) (woken-blank time) (woken-live time)
      (woken-fits time)))
      (subst (λ (o : Outcome). is_refused o.reply ≡ false) a.does e))
    where
      a : AdvanceAccepted lim d m time
      a = advance-accepted lim d m time e
