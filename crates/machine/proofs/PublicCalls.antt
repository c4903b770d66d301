-- How a public call ends: refused by a test, with every word as it was; or as the call on a lawful record does, whose words are all given.
-- Assumes nothing.
use mathlib.Core.Path.{◌≡◌, refl, sym, ap, subst, ◌∙◌}
use mathlib.Core.Bool.{Bool, true, false}
use mathlib.Core.List.{List}
use Prim.Native.Nat.{ℕ, ◌≤◌}
use lib.ListN.{length, get_or}
use lib.IntN.{ℤ}
use Rattle.job.specs.Test.{◌and◌, same}
use Rattle.job.specs.Node.{dag_holds}
use Rattle.job.specs.Words.{dag_of}
use Rattle.model.specs.Machine.Answer as Answer
use Rattle.model.specs.Machine.Clock as Clock
use Rattle.model.specs.Machine.Limits.{paper}
use Rattle.model.specs.Machine.Reply.{Effect, outcome, unless, refuses, refusal_of, is_refused}
use Rattle.model.specs.Machine.Rules.{rules_hold}
use Rattle.model.specs.Machine.Start.{start_machine}
use Rattle.model.specs.Machine.Step as Step
use Rattle.model.specs.declared.record.Machine.{Machine}
use Rattle.model.specs.declared.reply.Outcome.{Outcome}
use Rattle.model.specs.declared.reply.Refusal.TheVariants as refusals
use Rattle.model.specs.declared.reply.Reply.TheVariants as replies
use Rattle.model.specs.declared.reply.Report.{Report}
use Rattle.job.proofs.Test.{clash, same_refl, le-not-ltb}
use Rattle.model.proofs.Machine.Refused.{start-begun, start-not-begun, outcome-refused}
use Rattle.record.specs.Holds.{Codes}
use Rattle.record.specs.LayoutDecoded.{machine_of}
use Rattle.record.proofs.HoldsRuled.{rules-hold-words}
use Rattle.reach.specs.Marks.{MarksOf}
use Rattle.rules.specs.Tested.{Tested}
use Rattle.std.proofs.Common.{Option, None, Some, is_some, IfSome}
use Rattle.record.specs.Layout.{words_of}
use Rattle.coded.specs.IsRecord.{is_record}
use Rattle.acts.specs.Acting.{Lawful, Gives, plain}
use Rattle.acts.proofs.Outcomes.{gives-refused}
use Rattle.machine.specs.PublicCalls.{HasResult, after, of_record, start_on, step_on, answer_on, advance_on}
use Rattle.reach.specs.declared.used.Marks.{Marks}

-- words that pass are a record's, and of a record's words the rules decide
pub both-tested : (b recorded rules : Bool) → (b ≡ true → recorded ≡ true) → (recorded ≡ true → b ≡ rules) → b ≡ (recorded and rules)
unfolding ◌and◌
both-tested b true rules f g = g refl
both-tested true false rules f g = clash (f refl) refl
both-tested false false rules f g = refl

-- .. with the marks of the record that they are
module _ {ws dag : List ℕ} {used : Marks} {b : Bool} (t : Tested ws dag used.tokens used.cells b)
    (own : (m : Machine) → Codes ws m → MarksOf m used) where
  pub tests-said : b ≡ (is_record ws and rules_hold paper (dag_of dag) (machine_of ws))
  tests-said =
      both-tested _ _ _ t.words (λ e. let marks = own _ (t.codes e) in t.rules (t.codes e) marks.tokens marks.cells)

  pub tests-passed : b ≡ true → length dag ≡ 12331 → Lawful ws used dag (machine_of ws)
  tests-passed e size =
      let codes = t.codes (t.words e) in
      let marks = own _ codes in
      let hold = sym (t.rules codes marks.tokens marks.cells) ∙ e in
      record { holds = rules-hold-words paper _ _ hold codes; rules = hold; marks = marks; size = size }

pub lawful_of : {ws dag : List ℕ} (o : Option Marks) → is_some o ≡ true → IfSome o (λ used. Lawful ws used dag (machine_of ws))
    → (used : Marks) × Lawful ws used dag (machine_of ws)
lawful_of None e l = clash e refl
lawful_of (Some used) e l = (used, l)

-- a refused call leaves every word
module _ (ws : List ℕ) (number : ℕ) (r : Report) (e : r ≡ plain (replies.Refused (refusal_of number))) where
  pub gave-refused : (o : Outcome) (m : Machine) → o ≡ outcome m (refuses number) → HasResult (after ws o) r ws
  unfolding after outcome is_refused
  gave-refused o m f =
      subst (λ x. HasResult (after ws x) r ws) (sym f)
      (record { reply = ap (λ (y : Report). y.reply) e; values = ap (λ (y : Report). y.values) e; words = refl })

-- 14, for words that are no record's or that break an index rule
module _ (dag ws : List ℕ) (effect : Effect) where
  abbrev o : Outcome
  o = outcome (machine_of ws) (unless (rules_hold paper (dag_of dag) (machine_of ws)) 14 effect)

  broken : (a b : Bool) → is_record ws ≡ a → rules_hold paper (dag_of dag) (machine_of ws) ≡ b → (a and b) ≡ false
      → of_record ws o ≡ outcome (machine_of ws) (refuses 14)
  unfolding of_record unless ◌and◌
  broken true true e f g = clash refl g
  broken true false e f g = rw (e, f, of_record, unless)
  broken false b e f g = rw (e, of_record)

  pub gave-rule : (b : Bool) (r : Report) → b ≡ (is_record ws and rules_hold paper (dag_of dag) (machine_of ws)) → b ≡ false
      → r ≡ plain (replies.Refused refusals.Rule) → HasResult (after ws (of_record ws o)) r ws
  gave-rule b r e f g = gave-refused ws 14 r g (of_record ws o) (machine_of ws) (broken _ _ refl refl (sym e ∙ f))

-- a call on a lawful record
module _ {ws dag : List ℕ} {used : Marks} (a : Lawful ws used dag (machine_of ws)) where
  is-record : is_record ws ≡ true
  unfolding is_record
  is-record = subst (λ xs. same ws xs ≡ true) a.holds.codes.words (same_refl ws)

  pub gave-gives : (effect : Effect) {xs : List ℕ} {now : Marks} (r : Report)
      → Gives (outcome (machine_of ws) effect) (machine_of ws) xs now r
      → HasResult (after ws (of_record ws (outcome (machine_of ws) effect))) r xs
  unfolding after of_record
  gave-gives effect {xs} r g =
      let x = outcome (machine_of ws) effect in
      subst (λ b. HasResult (after ws (elim b as (λ _. Outcome) [ true ↦ x | false ↦ outcome (machine_of ws) (refuses 14) ])) r
      xs) (sym is-record)
      (record { reply = g.reply; values = g.values; words = g.holds.codes.words ∙ words-after (is_refused x.reply) refl })
    where
      words-after : (b : Bool) → is_refused (outcome (machine_of ws) effect).reply ≡ b
          → words_of (outcome (machine_of ws) effect).machine
          ≡ elim (is_refused (outcome (machine_of ws) effect).reply) as (λ _. List ℕ)
          [ true ↦ ws | false ↦ words_of (outcome (machine_of ws) effect).machine ]
      words-after true e =
          rw e (ap words_of (outcome-refused (machine_of ws) effect e) ∙ sym a.holds.codes.words)
      words-after false e = rw e

-- the calls, by their tests
module _ (dag ws : List ℕ) where
  pub step-rule : (place : ℕ) (b : Bool) (r : Report) → b ≡ (is_record ws and rules_hold paper (dag_of dag) (machine_of ws)) → b ≡ false
      → r ≡ plain (replies.Refused refusals.Rule) → HasResult (step_on dag ws place) r ws
  unfolding step_on Step.step
  step-rule place b r e f g = gave-rule dag ws _ b r e f g

  pub answer-rule : (handle : ℕ) (v : ℤ) (b : Bool) (r : Report) → b ≡ (is_record ws and rules_hold paper (dag_of dag) (machine_of ws))
      → b ≡ false
      → r ≡ plain (replies.Refused refusals.Rule) → HasResult (answer_on dag ws handle v) r ws
  unfolding answer_on Answer.answer
  answer-rule handle v b r e f g = gave-rule dag ws _ b r e f g

  pub advance-rule : (time : ℕ) (b : Bool) (r : Report) → b ≡ (is_record ws and rules_hold paper (dag_of dag) (machine_of ws)) → b ≡ false
      → r ≡ plain (replies.Refused refusals.Rule) → HasResult (advance_on dag ws time) r ws
  unfolding advance_on Clock.advance
  advance-rule time b r e f g = gave-rule dag ws _ b r e f g

  module _ {used : Marks} (a : Lawful ws used dag (machine_of ws)) where
    pub step_gives : (place : ℕ) {xs : List ℕ} {now : Marks} (r : Report)
        → Gives (Step.step paper (dag_of dag) (machine_of ws) place) (machine_of ws) xs now r → HasResult (step_on dag ws place) r xs
    unfolding step_on Step.step
    step_gives place r g = gave-gives a _ r g

    pub answer-gives : (handle : ℕ) (v : ℤ) {xs : List ℕ} {now : Marks} (r : Report)
        → Gives (Answer.answer paper (dag_of dag) (machine_of ws) handle v) (machine_of ws) xs now r
        → HasResult (answer_on dag ws handle v) r xs
    unfolding answer_on Answer.answer
    answer-gives handle v r g = gave-gives a _ r g

    pub advance-gives : (time : ℕ) {xs : List ℕ} {now : Marks} (r : Report)
        → Gives (Clock.advance paper (dag_of dag) (machine_of ws) time) (machine_of ws) xs now r
        → HasResult (advance_on dag ws time) r xs
    unfolding advance_on Clock.advance
    advance-gives time r g = gave-gives a _ r g

    -- 9
    pub step-no-token : (place : ℕ) (r : Report) → (machine_of ws).queued ≤ place → r ≡ plain (replies.Refused refusals.NoToken)
        → HasResult (step_on dag ws place) r ws
    unfolding step_on Step.step unless
    step-no-token place r l e =
        step_gives place r
        (gives-refused 9 r a (rw (a.rules, le-not-ltb place (machine_of ws).queued l, unless)) e)

-- the start
pub start-gave : (dag ws xs : List ℕ) (goal : ℕ) (r : Report) → true ≡ dag_holds (dag_of dag) → goal ≡ get_or dag 2 0
    → xs ≡ words_of (start_machine paper goal)
    → r ≡ plain replies.Done → HasResult (start_on dag ws) r xs
unfolding start_on after dag_of is_refused
start-gave dag ws xs goal r e f g h =
    subst (λ o. HasResult (after ws o) r xs) (sym (start-begun paper (dag_of dag) (sym e)))
    (record {
      reply = ap (λ (y : Report). y.reply) h;
      values = ap (λ (y : Report). y.values) h;
      words = g ∙ ap (λ n. words_of (start_machine paper n)) f;
    })

pub start-refused : (dag ws : List ℕ) (r : Report) → false ≡ dag_holds (dag_of dag) → r ≡ plain (replies.Refused refusals.Rule)
    → HasResult (start_on dag ws) r ws
unfolding start_on after is_refused
start-refused dag ws r e h =
    subst (λ o. HasResult (after ws o) r ws) (sym (start-not-begun paper (dag_of dag) (sym e)))
    (record { reply = ap (λ (y : Report). y.reply) h; values = ap (λ (y : Report). y.values) h; words = refl })
