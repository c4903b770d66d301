-- A refusal leaves the record, and an accepted call was tested: by the shape of an outcome, which has the old record exactly where its
-- effect refuses. Assumes nothing.
use mathlib.Core.Path.{◌≡◌, refl, sym, ◌∙◌, ap, subst}
use mathlib.Core.Logic.{◌⊎◌, inl, inr}
use mathlib.Core.Bool.{Bool, true, false}
use mathlib.Core.List.{[]}
use Prim.Native.Nat.{ℕ, ◌<◌}
use lib.Dec.{ltb}
use lib.IntN.{ℤ}
use Rattle.job.specs.Node.{Dag, dag_holds}
use Rattle.model.specs.Machine.Limits.{Limits}
use Rattle.model.specs.Machine.Blank.{blank_machine}
use Rattle.model.specs.Machine.InUse.{sweep}
use Rattle.model.specs.Machine.Rules.{rules_hold}
use Rattle.model.specs.Machine.Reply.{Effect, moves, waits, publishes, calls, refuses, accepted, outcome, unless, report_values}
use Rattle.model.specs.Machine.Reply.{refusal_of, is_refused}
use Rattle.model.specs.Machine.Start.{start, start_machine}
use Rattle.model.specs.Machine.Step.{step, takes}
use Rattle.model.specs.Machine.Clock.{takes_time, after_advance, advance}
use Rattle.model.specs.Machine.Answer.{answer, answered, holder}
use Rattle.model.specs.declared.record.Machine.{Machine}
use Rattle.model.specs.declared.reply.Refusal.{Refusal}
use Rattle.model.specs.declared.reply.Reply.{Reply}
use Rattle.model.specs.declared.reply.Reply.TheVariants as replies
use Rattle.model.specs.declared.reply.Outcome.{Outcome}
use Rattle.job.proofs.Test.{never, clash, holds-or-fails, ltb-lt}

-- the reply says whether the call was refused
pub refused-is : (r : Reply) (why : Refusal) → r ≡ replies.Refused why → is_refused r ≡ true
unfolding is_refused
refused-is r why e = ap is_refused e

-- one lemma over effects
pub outcome-refused : (m : Machine) (e : Effect) → is_refused (outcome m e).reply ≡ true → (outcome m e).machine ≡ m
unfolding outcome accepted is_refused
outcome-refused m (moves o) h = clash h refl
outcome-refused m (waits o) h = clash h refl
outcome-refused m (publishes v o) h = clash h refl
outcome-refused m (calls n s vs o) h = clash h refl
outcome-refused m (refuses r) h = refl

unless-accepted : (m : Machine) (b : Bool) (n : ℕ) (e : Effect) → is_refused (outcome m (unless b n e)).reply ≡ false → b ≡ true
unfolding unless outcome is_refused
unless-accepted m true r e h = refl
unless-accepted m false r e h = clash refl h

unless-true : (b : Bool) (n : ℕ) (e : Effect) → b ≡ true → unless b n e ≡ e
unfolding unless
unless-true true r e h = refl
unless-true false r e h = clash h refl

-- a property of the machine of an accepted effect, before it is blanked
unfoldable pub After : (Machine → Type 0) → Effect → Type 0
After P (moves o) = P o
After P (waits o) = P o
After P (publishes v o) = P o
After P (calls n s vs o) = P o
After P (refuses r) = Unit

pub after-outcome :
    (P Q : Machine → Type 0)
    → ((o : Machine) → P o → Q (sweep o))
    → (m : Machine) (e : Effect)
    → After P e
    → is_refused (outcome m e).reply ≡ false
    → Q (outcome m e).machine
unfolding After outcome accepted is_refused
after-outcome P Q f m (moves o) h a = f o h
after-outcome P Q f m (waits o) h a = f o h
after-outcome P Q f m (publishes v o) h a = f o h
after-outcome P Q f m (calls n s vs o) h a = f o h
after-outcome P Q f m (refuses r) h a = clash refl a

-- "a refusal leaves machine and dag as before the call"
pub step-refused :
    (lim : Limits) (d : Dag) (m : Machine) (place : ℕ) (r : Refusal)
    → (step lim d m place).reply ≡ replies.Refused r
    → (step lim d m place).machine ≡ m
unfolding step
step-refused lim d m place r e = outcome-refused m _ (refused-is _ r e)

pub answer-refused :
    (lim : Limits) (d : Dag) (m : Machine) (handle : ℕ) (value : ℤ) (r : Refusal)
    → (answer lim d m handle value).reply ≡ replies.Refused r
    → (answer lim d m handle value).machine ≡ m
unfolding answer
answer-refused lim d m h v r e = outcome-refused m _ (refused-is _ r e)

pub advance-refused :
    (lim : Limits) (d : Dag) (m : Machine) (time : ℕ) (r : Refusal)
    → (advance lim d m time).reply ≡ replies.Refused r
    → (advance lim d m time).machine ≡ m
unfolding advance
advance-refused lim d m time r e = outcome-refused m _ (refused-is _ r e)

-- the two outcomes of a start
abbrev pub begun : Limits → Dag → Outcome
begun lim d = record { reply = replies.Done; values = report_values []; machine = start_machine lim d.goal }

abbrev pub not_begun : Limits → Outcome
not_begun lim = record { reply = replies.Refused (refusal_of 14); values = report_values []; machine = blank_machine lim }

pub start-begun : (lim : Limits) (d : Dag) → dag_holds d ≡ true → start lim d ≡ begun lim d
unfolding start
start-begun lim d e = rw (e, start)

pub start-not-begun : (lim : Limits) (d : Dag) → dag_holds d ≡ false → start lim d ≡ not_begun lim
unfolding start outcome
start-not-begun lim d e = rw (e, start)

abbrev pub StartCases : Limits → Dag → Outcome → Type 0
StartCases lim d o = ((dag_holds d ≡ true) × (o ≡ begun lim d)) ⊎ ((dag_holds d ≡ false) × (o ≡ not_begun lim))

pub start-cases : (lim : Limits) (d : Dag) → StartCases lim d (start lim d)
start-cases lim d = go (holds-or-fails (dag_holds d))
  where
    go : (dag_holds d ≡ true) ⊎ (dag_holds d ≡ false) → StartCases lim d (start lim d)
    go (inl e) = inl (e, start-begun lim d e)
    go (inr e) = inr (e, start-not-begun lim d e)

-- a refused start hands back the blank record
pub start-refused :
    (lim : Limits) (d : Dag) (r : Refusal)
    → (start lim d).reply ≡ replies.Refused r
    → (start lim d).machine ≡ blank_machine lim
start-refused lim d r e = go (start-cases lim d)
  where
    go : StartCases lim d (start lim d) → (start lim d).machine ≡ blank_machine lim
    go (inl x) =
        let y : replies.Done ≡ replies.Refused r = sym (ap (λ (o : Outcome). o.reply) x.1) ∙ e in
        never cc
    go (inr x) = ap (λ (o : Outcome). o.machine) x.1

-- "A step tests 14, 9": where a step is accepted the rules held; it took a queued token and did what its node does
pub record StepAccepted (lim : Limits) (d : Dag) (m : Machine) (place : ℕ) : Type 0 where
  pub holds : rules_hold lim d m ≡ true
  pub queued : place < m.queued
  pub does : step lim d m place ≡ outcome m (takes lim d m place)

pub step-accepted :
    (lim : Limits) (d : Dag) (m : Machine) (place : ℕ)
    → is_refused (step lim d m place).reply ≡ false
    → StepAccepted lim d m place
unfolding step
step-accepted lim d m place a = record { holds = k; queued = ltb-lt place m.queued q; does = ap (outcome m) (tested ∙ there) }
  where
    inner : Effect
    inner = unless (ltb place m.queued) 9 (takes lim d m place)

    k : rules_hold lim d m ≡ true
    k = unless-accepted m (rules_hold lim d m) 14 inner a

    tested : unless (rules_hold lim d m) 14 inner ≡ inner
    tested = unless-true (rules_hold lim d m) 14 inner k

    q : ltb place m.queued ≡ true
    q =
        unless-accepted m (ltb place m.queued) 9 (takes lim d m place)
        (subst (λ e. is_refused (outcome m e).reply ≡ false) tested a)

    there : inner ≡ takes lim d m place
    there = unless-true (ltb place m.queued) 9 (takes lim d m place) q

-- "An answer tests 14, 12"
pub record AnswerAccepted (lim : Limits) (d : Dag) (m : Machine) (handle : ℕ) (value : ℤ) : Type 0 where
  pub holds : rules_hold lim d m ≡ true
  pub does : answer lim d m handle value ≡ outcome m (answered m value (holder handle 0 m.tokens))

pub answer-accepted :
    (lim : Limits) (d : Dag) (m : Machine) (handle : ℕ) (value : ℤ)
    → is_refused (answer lim d m handle value).reply ≡ false
    → AnswerAccepted lim d m handle value
unfolding answer
answer-accepted lim d m h v a = record { holds = k; does = ap (outcome m) (unless-true (rules_hold lim d m) 14 inner k) }
  where
    inner : Effect
    inner = answered m v (holder h 0 m.tokens)

    k : rules_hold lim d m ≡ true
    k = unless-accepted m (rules_hold lim d m) 14 inner a

-- "Checks: 15, .. after 14": whatever the time, 14 comes first
pub advance-rule-first : (lim : Limits) (d : Dag) (m : Machine) (time : ℕ) → rules_hold lim d m ≡ false
    → advance lim d m time ≡ outcome m (refuses 14)
unfolding advance unless
advance-rule-first lim d m time e = rw (e, advance, unless) refl

-- a clock move tests 14, 15: where it is accepted the rules held, and the time is one that the clock takes
pub record AdvanceAccepted (lim : Limits) (d : Dag) (m : Machine) (time : ℕ) : Type 0 where
  pub holds : rules_hold lim d m ≡ true
  pub takes : takes_time m time ≡ true
  pub does : advance lim d m time ≡ outcome m (moves (after_advance m time))

pub advance-accepted :
    (lim : Limits) (d : Dag) (m : Machine) (time : ℕ)
    → is_refused (advance lim d m time).reply ≡ false
    → AdvanceAccepted lim d m time
unfolding advance
advance-accepted lim d m time a = record { holds = k; takes = q; does = ap (outcome m) (tested ∙ there) }
  where
    inner : Effect
    inner = unless (takes_time m time) 15 (moves (after_advance m time))

    k : rules_hold lim d m ≡ true
    k = unless-accepted m (rules_hold lim d m) 14 inner a

    tested : unless (rules_hold lim d m) 14 inner ≡ inner
    tested = unless-true (rules_hold lim d m) 14 inner k

    q : takes_time m time ≡ true
    q =
        unless-accepted m (takes_time m time) 15 (moves (after_advance m time))
        (subst (λ e. is_refused (outcome m e).reply ≡ false) tested a)

    there : inner ≡ moves (after_advance m time)
    there = unless-true (takes_time m time) 15 (moves (after_advance m time)) q
