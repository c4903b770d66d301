-- Each run of the abstract machine is followed by a run of the concrete machine, without refused calls, that has the same event list: step
-- by step, if something that makes the record ready for the steps to come is kept by each accepted call. Assumes nothing.
use mathlib.Core.Path.{◌≡◌, sym, ◌∙◌, ap, subst}
use mathlib.Core.Bool.{true, false}
use mathlib.Core.List.{List, [], ◌++◌}
use Prim.Native.Nat.{ℕ, suc}
use Rattle.job.specs.Node.{Dag}
use Rattle.model.specs.Machine.Limits.{Limits}
use Rattle.model.specs.Machine.Reply.{is_refused}
use Rattle.calculus.specs.Event.{Event, Label, silently}
use Rattle.calculus.specs.Expression.{Exp}
use Rattle.calculus.specs.Allowed.{shown}
use Rattle.model.specs.Run.Call.{Call, runner, outcome_of}
use Rattle.model.specs.declared.record.Machine.{Machine}
use Rattle.simulation.proofs.AbstractMachine as Abstract
use Rattle.lockstep.proofs.Labels.{Labels, program_of, Flow}
use Rattle.lockstep.proofs.Seen.{Sees}
use Rattle.model.proofs.Run.Passage.{events_by, Passage}
use Rattle.lockstep.proofs.Lockstep.{Fitting, shown-append}
use Rattle.demand3.proofs.Back.{Ready, Followed, stays, calls, step-followed}

-- the number of steps of a run
abbrev pub steps_of : {G : Abstract.Program} {s s' : Abstract.State} {es : List Event} → Abstract.Run G s es s' → ℕ
steps_of Abstract.rests = 0
steps_of (Abstract.then st r) = suc (steps_of r)

module _ (lim : Limits) (d : Dag) (M : Labels) (bodies : ℕ → Exp) where
  -- I n m: the record m is ready for n more steps
  pub record Keeps (I : ℕ → Machine → Type 0) : Type 0 where
    pub ready : (n : ℕ) (m : Machine) → I (suc n) m → Ready lim d m
    pub stay : (n : ℕ) (m : Machine) → I (suc n) m → I n m
    pub call : (n : ℕ) (m : Machine) (c : Call) {s s' : Abstract.State} → I (suc n) m → Sees M m s
        → is_refused (outcome_of runner lim d m c).reply ≡ false → Sees M (outcome_of runner lim d m c).machine s'
        → I n (outcome_of runner lim d m c).machine

  -- calls on m, none refused, with this event list
  pub data Does (m : Machine) (es : List Event) : Type 0 where
    does : {cs : List Call} {end : Machine} → Passage lim d m cs es true end → Does m es

  first-call : {m : Machine} {es : List Event} (a : Label) (c : Call) → is_refused (outcome_of runner lim d m c).reply ≡ false
      → events_by c (outcome_of runner lim d m c) ≡ shown a [] → Does (outcome_of runner lim d m c).machine es → Does m (shown a es)
  first-call {m} {es} a c ok e (does p) = subst (Does m) (ap (λ xs. xs ++ es) e ∙ shown-append a es) (does (Passage.accepted ok p))

  no_call : {m : Machine} {es : List Event} {a : Label} → a ≡ silently → Does m es → Does m (shown a es)
  unfolding shown
  no_call {m} {es} e x = subst (λ a. Does m (shown a es)) (sym e) x

  pub run-followed : (fits : Fitting lim) (flow : Flow d M) (I : ℕ → Machine → Type 0) → Keeps I
      → {s s' : Abstract.State} {es : List Event} (m : Machine) (r : Abstract.Run (program_of d M bodies) s es s')
      → Sees M m s → I (steps_of r) m → Does m es
  run-followed fits flow I X m Abstract.rests sn i = does Passage.none
  run-followed fits flow I X m (Abstract.then {t = t} {a = a} {es = es} st r) sn i =
      go (step-followed lim d M bodies fits flow m (X.ready (steps_of r) m i) sn st) (λ m' x j. run-followed fits flow I X m' r x j)
    where
      go : Followed lim d M m a t → ((m' : Machine) → Sees M m' t → I (steps_of r) m' → Does m' es) → Does m (shown a es)
      go (stays e x) f = no_call e (f m x (X.stay (steps_of r) m i))
      go (calls c ok e x) f = first-call a c ok e (f (outcome_of runner lim d m c).machine x (X.call (steps_of r) m c i sn ok x))
