-- The marks of the frames that may have more than one callee, as the code writes them; and nobody names a ready token as its caller.
-- Assumes nothing.
use mathlib.Core.Path.{◌≡◌, refl, sym, ap, subst}
use mathlib.Core.Bool.{Bool, true, false}
use mathlib.Core.List.{List, [], ◌∷◌}
use Prim.Native.Nat.{ℕ, zero, suc, ◌-◌, ◌<◌, ◌≤◌}
use native.Mathlib.Omega.{arith}
use lib.ListN.{length, get_or, set}
use Rattle.std.specs.Prelude.{Some, None}
use Rattle.job.specs.Words.{dag_of}
use Rattle.model.specs.Machine.Blank.{token_at}
use Rattle.model.specs.Machine.InUse.{tokens_used}
use Rattle.model.specs.Machine.Limits.{paper}
use Rattle.model.specs.Machine.State.{is_ready}
use Rattle.model.specs.Machine.Step as Step
use Rattle.model.specs.declared.record.Machine.{Machine}
use Rattle.model.specs.declared.reply.Report.{Report}
use Rattle.model.specs.Machine.Held.{Place}
use Rattle.job.proofs.Test.{clash}
use Rattle.demand3.proofs.Unblanked.{rules-clean}
use Rattle.record.specs.Layout.{place_number}
use Rattle.acts.specs.Acting.{Taking, Acting, CallersAreFrames, Gives}
use Rattle.acts.specs.SharedFrames.{NamesAsCaller, OneCallee, caller_shared, return_shared, Stepped}
use Rattle.reach.specs.declared.used.Marks.{Marks}
use Rattle.writes.specs.declared.actor.Actor.{Actor}
use Rattle.acts.proofs.SharedFrames.{blank-names}
use Rattle.acts.proofs.CalleeSteps.{StepKeeps, call-keeps, fork-keeps, where-keeps}
use Rattle.acts.proofs.Outcomes.{token-ready}
use Rattle.returns.proofs.ReturnCallees.{return-keeps}

set-outside : (s : List Bool) (f : ℕ) (b : Bool) → length s ≤ f → s ≡ set s f b
set-outside [] f b l = refl
set-outside (x ∷ s) zero b l = absurd (omega arith)
set-outside (x ∷ s) (suc f) b l = ap (λ (u : List Bool). x ∷ u) (set-outside s f b (omega arith))

-- one more callee, by the number of the caller's place
pub shared-none : (q : Place) (n : ℕ) (s : List Bool) → n ≡ place_number q → n ≤ 0 → s ≡ caller_shared q s
unfolding caller_shared
shared-none None n s e l = refl
shared-none (Some f) n s e l = absurd (omega arith)

pub shared-far : (q : Place) (n : ℕ) (s : List Bool) → n ≡ place_number q → 64 < n → length s ≡ 64 → s ≡ caller_shared q s
unfolding caller_shared
shared-far None n s e l k = absurd (omega arith)
shared-far (Some f) n s e l k = set-outside s f true (omega arith)

pub shared_at : (q : Place) (n : ℕ) (s : List Bool) → n ≡ place_number q → 0 < n → set s (n - 1) true ≡ caller_shared q s
unfolding caller_shared
shared_at None n s e l = absurd (omega arith)
shared_at (Some f) n s e l = let z : n - 1 ≡ f = omega arith in ap (λ k. set s k true) z

-- a return, by its frame's mark
module _ (m : Machine) (f : ℕ) (s : List Bool) where
  pub return-marked : get_or s f true ≡ true → caller_shared (token_at m.tokens f).caller s ≡ return_shared m f s
  unfolding return_shared
  return-marked e = rw (e, return_shared) refl

  pub return-unmarked : get_or s f true ≡ false → s ≡ return_shared m f s
  unfolding return_shared
  return-unmarked e = rw (e, return_shared) refl

-- callers are frames
pub nobody-names : {ws dag : List ℕ} {used : Marks} {actor : Actor} {m : Machine} → Taking ws used dag actor m
    → CallersAreFrames m
    → (i : ℕ) → NamesAsCaller m actor.token i → ⊥
unfolding is_ready
nobody-names {dag = dag} {actor = actor} {m = m} a framed i e = go (get_or (tokens_used m) i true) refl
  where
    go : (b : Bool) → get_or (tokens_used m) i true ≡ b → ⊥
    go true u = clash (token-ready a) (ap is_ready (framed i actor.token u e))
    go false u = blank-names m actor.token i ((rules-clean paper (dag_of dag) m a.lawful.rules).tokens i u) e

-- What a step leaves, with the marks s before it
abbrev Leaves : (dag : List ℕ) (place : ℕ) (m : Machine) (after : List ℕ) (used : Marks) → Report → (s : List Bool) → Type 0
Leaves dag place m after used r s = Stepped (Step.step paper (dag_of dag) m place) m after used s r

abbrev GivesStep : (dag : List ℕ) (place : ℕ) (m : Machine) (after : List ℕ) (used : Marks) → Report → Type 0
GivesStep dag place m after used r = Gives (Step.step paper (dag_of dag) m place) m after used r

-- the marks stay, at a node that gives no place a new callee
pub same-leaves : (s : List Bool) (k : ℕ) {ws dag after : List ℕ} {used used' : Marks} {actor : Actor} {m : Machine}
    {r : Report}
    → ((s : List Bool) (dag : List ℕ) (actor : Actor) (m : Machine) → StepKeeps s dag actor m k)
    → Acting ws used dag actor k m → OneCallee s m → GivesStep dag actor.place m after used' r
    → Leaves dag actor.place m after used' r s
same-leaves s k keeps a one g = record { gives = g; callees = λ framed. keeps s _ _ _ _ _ a one }

pub call-leaves : (s : List Bool) {ws dag after : List ℕ} {used used' : Marks} {actor : Actor} {m : Machine} {r : Report}
    → Acting ws used dag actor 2 m → OneCallee s m → GivesStep dag actor.place m after used' r
    → Leaves dag actor.place m after used' r (set s actor.token false)
call-leaves s a one g = record { gives = g; callees = λ framed. call-keeps s _ _ _ _ _ a (nobody-names a.taking framed) one }

pub fork-leaves : (s s' : List Bool) {ws dag after : List ℕ} {used used' : Marks} {actor : Actor} {m : Machine}
    {r : Report}
    → Acting ws used dag actor 3 m → OneCallee s m → GivesStep dag actor.place m after used' r
    → s' ≡ caller_shared (token_at m.tokens actor.token).caller s → Leaves dag actor.place m after used' r s'
fork-leaves s s' {dag = dag} {actor = actor} {m = m} a one g e =
    record {
      gives = g;
      callees =
          λ framed.
          subst (λ (u : List Bool). OneCallee u (Step.step paper (dag_of dag) m actor.place).machine) (sym e)
          (fork-keeps s _ _ _ _ _ a one);
    }

pub where-leaves : (s s' : List Bool) {ws dag after : List ℕ} {used used' : Marks} {actor : Actor} {m : Machine}
    {r : Report}
    → Acting ws used dag actor 6 m → OneCallee s m → GivesStep dag actor.place m after used' r
    → s' ≡ caller_shared (token_at m.tokens actor.token).caller s → Leaves dag actor.place m after used' r s'
where-leaves s s' {dag = dag} {actor = actor} {m = m} a one g e =
    record {
      gives = g;
      callees =
          λ framed.
          subst (λ (u : List Bool). OneCallee u (Step.step paper (dag_of dag) m actor.place).machine) (sym e)
          (where-keeps s _ _ _ _ _ a one);
    }

pub return-leaves : (s s' : List Bool) {ws dag after : List ℕ} {used used' : Marks} {actor : Actor} {m : Machine}
    {r : Report}
    → Acting ws used dag actor 8 m → OneCallee s m → GivesStep dag actor.place m after used' r
    → (f : ℕ) → f < 64 → (token_at m.tokens actor.token).caller ≡ Some f → s' ≡ return_shared m f s → Leaves dag actor.place m after used' r s'
return-leaves s s' {dag = dag} {actor = actor} {m = m} a one g f l caller e =
    record {
      gives = g;
      callees =
          λ framed.
          subst (λ (u : List Bool). OneCallee u (Step.step paper (dag_of dag) m actor.place).machine) (sym e) (return-keeps a f l caller s one);
    }
