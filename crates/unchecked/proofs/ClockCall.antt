-- A clock move on a lawful record: the two tests of the definition, and what is in use stays. Assumes nothing.
use mathlib.Core.Path.{◌≡◌, refl, sym, ◌∙◌}
use mathlib.Core.Bool.{Bool, true, false}
use mathlib.Core.List.{List, []}
use Prim.Native.Nat.{ℕ}
use Rattle.std.specs.Prelude.{Ok, Err}
use Rattle.job.specs.Words.{dag_of}
use Rattle.model.specs.Machine.Clock as Clock
use Rattle.model.specs.Machine.Limits.{paper}
use Rattle.model.specs.Machine.Reply.{outcome, unless}
use Rattle.model.specs.declared.record.Machine.{Machine}
use Rattle.model.specs.declared.reply.Outcome.{Outcome}
use Rattle.model.specs.declared.reply.Refusal.TheVariants as refusals
use Rattle.model.specs.declared.reply.Reply.TheVariants as replies
use Rattle.demand3.proofs.Carried.{advanced-carried}
use Rattle.record.specs.Holds.{Holds}
use Rattle.acts.specs.Acting.{Lawful, Gives, call_report}
use Rattle.reach.specs.declared.used.Marks.{Marks}
use Rattle.acts.proofs.Outcomes.{gives_whole, gives-refused}

module _ {ws dag : List ℕ} {used : Marks} {m : Machine} (a : Lawful ws used dag m) (time : ℕ) {b : Bool}
    (says : b ≡ Clock.takes_time m time) where
  abbrev call : Outcome
  call = Clock.advance paper (dag_of dag) m time

  -- 15
  pub advance-refused : b ≡ false → Gives call m ws used (call_report (Err refusals.WrongTime))
  unfolding Clock.advance unless
  advance-refused e = gives-refused 15 _ a (rw (a.rules, sym says ∙ e, unless)) refl

  pub advance-gives : b ≡ true → {after : List ℕ} → Holds after (Clock.after_advance m time)
      → Gives call m after used (call_report (Ok tt))
  unfolding Clock.advance unless outcome
  advance-gives e h =
      let c = advanced-carried paper (dag_of dag) m a.rules time in
      gives_whole (Clock.after_advance m time) replies.Done [] (call_report (Ok tt)) (rw (a.rules, sym says ∙ e, unless)) refl refl h
      c.whole
      (λ framed. record { whole = c.whole; tokens = c.tokens ∙ sym a.marks.tokens; cells = c.cells ∙ sym a.marks.cells })
