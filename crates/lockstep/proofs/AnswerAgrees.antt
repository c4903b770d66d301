-- An answer agrees with the abstract machine's: the token that holds the handle is called out under it, and goes on with the value. Assumes
-- nothing.
use mathlib.Core.Path.{◌≡◌, refl, sym, ap, subst}
use mathlib.Core.Logic.{◌⊎◌, inl, inr}
use mathlib.Core.Bool.{Bool, true, false}
use mathlib.Core.List.{List, [], ◌∷◌}
use Prim.Native.Nat.{ℕ, suc, ◌+◌}
use native.Mathlib.Omega.{arith}
use lib.ListN.{get_or}
use lib.Dec.{eqb}
use lib.IntN.{ℤ}
use Rattle.std.specs.Prelude.{Some}
use Rattle.job.specs.Test.{for_some}
use Rattle.model.specs.Machine.Blank.{blank_token, token_at}
use Rattle.model.specs.Machine.State.{is_live, handle_of}
use Rattle.model.specs.Machine.Update.{with_value, with_state, with_tables, with_orders, put, enqueue}
use Rattle.model.specs.Machine.Answer.{holder}
use Rattle.calculus.specs.Event.{Event, showing}
use Rattle.calculus.specs.Allowed.{next_handle}
use Rattle.model.specs.Machine.Held.{Held, Place}
use Rattle.model.specs.declared.token.State.{State}
use Rattle.model.specs.declared.token.State.TheVariants as states
use Rattle.model.specs.declared.token.Token.{Token}
use Rattle.model.specs.declared.record.Machine.{Machine}
use Rattle.job.proofs.Test.{never, clash, eqb-eq, or_cases}
use Rattle.simulation.proofs.AbstractMachine as Abstract
use Rattle.simulation.proofs.AbstractMachine.{Binding, Frame, at, running, Store, makes}
use Rattle.simulation.proofs.Shuffle.{Split}
use Rattle.lockstep.proofs.Labels.{Labels}
use Rattle.lockstep.proofs.View.{World, present, StateSeen, ready, waiting, called, due, PlaceSeen, Unset, TokenSeen, sees}
use Rattle.lockstep.proofs.Seen.{Core, world, used-fits, token-used, live-listed}
use Rattle.lockstep.proofs.Others.{Others, FoundAt, found_at, find-place, others, spot-token}
use Rattle.lockstep.proofs.Moving.{place-as, fits-as}
use Rattle.lockstep.proofs.Agrees.{Becomes, goes-becomes}

-- the holder of a handle is called out under it
pub holds-handle : (h : ℕ) (s : State) → for_some (eqb h) (handle_of s) ≡ true → s ≡ states.Called h
unfolding for_some handle_of
holds-handle h states.Blank e = clash e refl
holds-handle h states.Ready e = clash e refl
holds-handle h (states.Waiting c) e = clash e refl
holds-handle h (states.Due d) e = clash e refl
holds-handle h states.Frame e = clash e refl
holds-handle h (states.Called g) e = go (or_cases (eqb h g) false e)
  where
    go : (eqb h g ≡ true) ⊎ (false ≡ true) → states.Called g ≡ states.Called h
    go (inl x) = ap states.Called (sym (eqb-eq h g x))
    go (inr x) = clash x refl

holder-from : (h i : ℕ) (ts : List Token) (p : ℕ) → holder h i ts ≡ Some p
    → (j : ℕ) × (p ≡ i + j) × ((token_at ts j).state ≡ states.Called h)
unfolding holder token_at
holder-from h i [] p e = never cc
holder-from h i (t ∷ ts) p e = go (for_some (eqb h) (handle_of t.state)) refl e (λ x. holder-from h (suc i) ts p x)
  where
    Holding : Type 0
    Holding = (j : ℕ) × (p ≡ i + j) × ((get_or (t ∷ ts) j blank_token).state ≡ states.Called h)

    later : (j : ℕ) × (p ≡ suc i + j) × ((get_or ts j blank_token).state ≡ states.Called h) → Holding
    later (j, x, r) = (suc j, (let z : p ≡ i + suc j = omega arith in z), r)

    go : (b : Bool) → for_some (eqb h) (handle_of t.state) ≡ b
        → elim b as (λ b. Place) [ true ↦ Some i | false ↦ holder h (suc i) ts ] ≡ Some p
        → (holder h (suc i) ts ≡ Some p → (j : ℕ) × (p ≡ suc i + j) × ((get_or ts j blank_token).state ≡ states.Called h))
        → Holding
    go true x y f = (0, (let z : i ≡ p = cc in omega arith), holds-handle h t.state x)
    go false x y f = later (f y)

pub holder-called : (h : ℕ) (ts : List Token) (p : ℕ) → holder h 0 ts ≡ Some p → (token_at ts p).state ≡ states.Called h
holder-called h ts p e =
    let x = holder-from h 0 ts p e in
    subst (λ i. (token_at ts i).state ≡ states.Called h) (let z = x.1 in let y : x.0 ≡ p = omega arith in y) x.2

-- the token called out under the handle h, at place p, among the abstract machine's tokens
pub data Pending (M : Labels) (W : World) (p h : ℕ) (S : List Abstract.Token) : Type 0 where
  pending : {L R : List Abstract.Token} {n : ℕ} {B : List Binding} {F : List Frame} {U : List ℕ}
      → Split (Abstract.called_out h (at n B F U)) S L R → Others M W p L R
      → PlaceSeen W M (token_at W.tokens p) n B F U → Unset W.store U
      → TokenSeen W M (token_at W.tokens p) (Abstract.called_out h (at n B F U))
      → Pending M W p h S

called_is : {M : Labels} {n : ℕ} {K : Abstract.Place} {s : State} {w : Held} {x : Abstract.Token} (h : ℕ)
    → s ≡ states.Called h → StateSeen M n K s w x → x ≡ Abstract.called_out h K
called_is h e (ready v) = never cc
called_is h e (waiting f v) = never cc
called_is h e due = never cc
called_is {K = K} h e (called {h = g}) = ap (λ i. Abstract.called_out i K) (let z : g ≡ h = cc in z)

pend-token : {M : Labels} {W : World} {p h : ℕ} {S L R : List Abstract.Token} {x : Abstract.Token}
    → (token_at W.tokens p).state ≡ states.Called h → Split x S L R → Others M W p L R → TokenSeen W M (token_at W.tokens p) x
    → Pending M W p h S
pend-token {M} {W} {p} {h} {S} {L} {R} e i o (sees {n = n} {B = B} {F = F} {U = U} {x = x} z un st) =
    let same : x ≡ Abstract.called_out h (at n B F U) = called_is h e st in
    pending (subst (λ x. Split x S L R) same i) o z un (subst (λ x. TokenSeen W M (token_at W.tokens p) x) same (sees z un st))

pub find-pending : {M : Labels} {W : World} {A : List ℕ} {S : List Abstract.Token} (p h : ℕ)
    → Core M W A S → (token_at W.tokens p).state ≡ states.Called h → Pending M W p h S
unfolding is_live
find-pending {M} {W} {A} {S} p h K e = go (find-place M W p (live-listed p K (ap is_live e)) K.seen)
  where
    go : FoundAt M W p A S → Pending M W p h S
    go (found_at i s) = pend-token e i (others K s) (spot-token s)

-- "An answer gives its token the value and makes it ready"
pub answered-becomes : {M : Labels} (m : Machine) {name place : ℕ → ℕ} {σ : Store} {new p : ℕ} (h : ℕ) (v : ℤ)
    {L R : List Abstract.Token} {n : ℕ} {B : List Binding} {F : List Frame} {U : List ℕ}
    → Others M (world m.tokens m.cells name place σ new) p L R
    → PlaceSeen (world m.tokens m.cells name place σ new) M (token_at m.tokens p) n B F U
    → Unset σ U
    → TokenSeen (world m.tokens m.cells name place σ new) M (token_at m.tokens p) (Abstract.called_out h (at n B F U))
    → Becomes M (world m.tokens m.cells name place σ new) L R m.clock m.calls
    (makes (showing (Event.answer h v)) (running (at n B F U) v ∷ [])) (showing (Event.answer h v))
    (enqueue p (put p (with_state states.Ready (with_value (Some v) (token_at m.tokens p))) m))
unfolding enqueue put with_tables with_orders with_state with_value next_handle
answered-becomes m {name} {place} {σ} {new} {p} h v o z un seen =
    goes-becomes m o _ (showing (Event.answer h v)) _ refl refl refl refl
    (fits-as {t = token_at m.tokens p} refl refl refl (used-fits W p (token-used W p seen)))
    (sees (place-as {t = token_at m.tokens p} refl refl refl refl z) un (ready present))
  where
    W : World
    W = world m.tokens m.cells name place σ new
