-- From one call to a list of calls: a refused call shows nothing and leaves the machine, an accepted one shows its events and hands its
-- machine on. Every list of calls is passed in this way and in no other, so each part of demand 3 needs a law for one accepted call.
-- Assumes nothing.
use mathlib.Core.Path.{◌≡◌, refl, sym, ◌∙◌, ap, subst}
use mathlib.Core.Logic.{◌⊎◌, inl, inr}
use mathlib.Core.Bool.{Bool, true, false}
use mathlib.Core.List.{List, [], ◌∷◌, ◌++◌}
use lib.IntN.{ℤ}
use Rattle.job.specs.Node.{Dag}
use Rattle.model.specs.Machine.Limits.{Limits}
use Rattle.model.specs.Machine.Reply.{is_refused}
use Rattle.model.specs.Machine.Step as Step
use Rattle.model.specs.Machine.Answer as Answer
use Rattle.model.specs.Machine.Clock as Clock
use Rattle.calculus.specs.Event.{Event}
use Rattle.model.specs.Run.Call.{Call, step, answer, advance, runner, events_of, outcome_of, events_from, none_refused, machine_after}
use Rattle.model.specs.declared.record.Machine.{Machine}
use Rattle.model.specs.declared.reply.Reply.{Reply}
use Rattle.model.specs.declared.reply.Reply.TheVariants as replies
use Rattle.model.specs.declared.reply.Outcome.{Outcome}
use Rattle.job.proofs.Test.{clash, holds-or-fails}
use Rattle.model.proofs.Machine.Refused.{outcome-refused}

-- the events of a call with this outcome
abbrev pub events_by : Call → Outcome → List Event
events_by c o = events_of c o.reply o.values

refused-shows : (c : Call) (r : Reply) (vs : List ℤ) → is_refused r ≡ true → events_of c r vs ≡ []
unfolding is_refused events_of
refused-shows c replies.Done vs e = clash e refl
refused-shows c replies.Waits vs e = clash e refl
refused-shows c (replies.Published v) vs e = clash e refl
refused-shows c (replies.Called h s n) vs e = clash e refl
refused-shows (step place) (replies.Refused r) vs e = refl
refused-shows (answer h v signed) (replies.Refused r) vs e = refl
refused-shows (advance time) (replies.Refused r) vs e = refl

module _ (lim : Limits) (d : Dag) where
  pub refused-leaves : (m : Machine) (c : Call) → is_refused (outcome_of runner lim d m c).reply ≡ true
      → (outcome_of runner lim d m c).machine ≡ m
  unfolding outcome_of Step.step Answer.answer Clock.advance
  refused-leaves m (step place) e = outcome-refused m _ e
  refused-leaves m (answer h v signed) e = outcome-refused m _ e
  refused-leaves m (advance time) e = outcome-refused m _ e

  -- calls on a machine: what they show, whether none is refused, and where they end
  pub data Passage : Machine → List Call → (events : List Event) → (fine : Bool) → (end : Machine) → Type 0 where
    none : {m : Machine} → Passage m [] [] true m
    refused : {m end : Machine} {c : Call} {cs : List Call} {es : List Event} {fine : Bool}
        → is_refused (outcome_of runner lim d m c).reply ≡ true → Passage m cs es fine end → Passage m (c ∷ cs) es false end
    accepted : {m end : Machine} {c : Call} {cs : List Call} {es : List Event} {fine : Bool}
        → is_refused (outcome_of runner lim d m c).reply ≡ false → Passage (outcome_of runner lim d m c).machine cs es fine end
        → Passage m (c ∷ cs) (events_by c (outcome_of runner lim d m c) ++ es) fine end

  -- every list of calls is such a passage
  pub passage : (cs : List Call) (m : Machine)
      → Passage m cs (events_from runner lim d m cs) (none_refused runner lim d m cs) (machine_after runner lim d m cs)
  unfolding events_from none_refused machine_after
  passage [] m = none
  passage (c ∷ cs) m = go (is_refused o.reply) refl (λ m'. passage cs m')
    where
      o : Outcome
      o = outcome_of runner lim d m c

      shown : Machine → List Event
      shown m' = events_from runner lim d m' cs

      fine : Machine → Bool
      fine m' = none_refused runner lim d m' cs

      end : Machine → Machine
      end m' = machine_after runner lim d m' cs

      go : (b : Bool) → is_refused o.reply ≡ b → ((m' : Machine) → Passage m' cs (shown m') (fine m') (end m'))
          → Passage m (c ∷ cs) (events_by c o ++ shown o.machine) (elim b as (λ b. Bool) [ true ↦ false | false ↦ fine o.machine ])
          (end o.machine)
      go true no' rest =
          subst (λ es. Passage m (c ∷ cs) (es ++ shown o.machine) false (end o.machine))
          (sym (refused-shows c o.reply o.values no'))
          (subst (λ m'. Passage m (c ∷ cs) (shown m') false (end m')) (sym (refused-leaves m c no')) (refused no' (rest m)))
      go false ok rest = accepted ok (rest o.machine)

  -- what each accepted call keeps, every call keeps, and so every list of calls
  module _ (P : Machine → Type 0)
      (kept : (m : Machine) (c : Call) → is_refused (outcome_of runner lim d m c).reply ≡ false → P m
      → P (outcome_of runner lim d m c).machine) where
    pub call-keeps : (m : Machine) (c : Call) → P m → P (outcome_of runner lim d m c).machine
    call-keeps m c h = go (holds-or-fails (is_refused (outcome_of runner lim d m c).reply))
      where
        o : Outcome
        o = outcome_of runner lim d m c

        go : (is_refused o.reply ≡ true) ⊎ (is_refused o.reply ≡ false) → P o.machine
        go (inl no') = subst P (sym (refused-leaves m c no')) h
        go (inr ok) = kept m c ok h

    passage-keeps : {m end : Machine} {cs : List Call} {es : List Event} {fine : Bool} → Passage m cs es fine end → P m → P end
    passage-keeps none h = h
    passage-keeps (refused no' p) h = passage-keeps p h
    passage-keeps (accepted {m = m} {c = c} ok p) h = passage-keeps p (kept m c ok h)

    pub calls-keep : (m : Machine) (cs : List Call) → P m → P (machine_after runner lim d m cs)
    calls-keep m cs h = passage-keeps (passage cs m) h

  -- the calls behind the first are one, accepted or not as it may be
  pub passage-behind : {m end : Machine} {c : Call} {cs : List Call} {es : List Event} {fine : Bool} → Passage m (c ∷ cs) es fine end
      → (es' : List Event) × (fine' : Bool) × Passage (outcome_of runner lim d m c).machine cs es' fine' end
  passage-behind (refused {m = m} {end = end} {c = c} {cs = cs} {es = es} {fine = fine} no' p) =
      (es, fine, subst (λ m'. Passage m' cs es fine end) (sym (refused-leaves m c no')) p)
  passage-behind (accepted {es = es} {fine = fine} ok p) = (es, fine, p)

  -- and what a passage says of them is so
  pub record Passed (m : Machine) (cs : List Call) (es : List Event) (fine : Bool) (end : Machine) : Type 0 where
    pub shows : events_from runner lim d m cs ≡ es
    pub clear : none_refused runner lim d m cs ≡ fine
    pub ends : machine_after runner lim d m cs ≡ end

  pub passed : {m end : Machine} {cs : List Call} {es : List Event} {fine : Bool} → Passage m cs es fine end → Passed m cs es fine end
  unfolding events_from none_refused machine_after
  passed none = record { shows = refl; clear = refl; ends = refl }
  passed (refused {m = m} {c = c} {cs = cs} no' p) =
      let r = passed p in
      let same = refused-leaves m c no' in
      record {
        shows =
            ap (λ es. es ++ events_from runner lim d (outcome_of runner lim d m c).machine cs) (refused-shows c _ _ no')
            ∙ (ap (λ m'. events_from runner lim d m' cs) same ∙ r.shows);
        clear = rw (no', none_refused) refl;
        ends = ap (λ m'. machine_after runner lim d m' cs) same ∙ r.ends;
      }
  passed (accepted {m = m} {c = c} {cs = cs} ok p) =
      let r = passed p in
      record {
        shows = ap (λ es. events_by c (outcome_of runner lim d m c) ++ es) r.shows;
        clear = rw (ok, none_refused) r.clear;
        ends =
            r.ends;
      }
