-- What is in use is seen: each token in use has a view of where it stands and is not blank, each cell in use has a name and its parents are
-- seen. The marks are the least that hold the active tokens and are closed, and views are closed too. Assumes nothing.
use mathlib.Core.Path.{◌≡◌, refl, sym, ◌∙◌, ap, subst}
use mathlib.Core.Logic.{◌⊎◌, inl, inr}
use mathlib.Core.Bool.{true, false}
use mathlib.Core.List.Memᴰ
use mathlib.Core.List.{List, [], ◌∷◌}
use Prim.Native.Nat.{ℕ, ◌<◌}
use native.Mathlib.Decide.{ℕ_discrete}
use lib.ListN.{length}
use Rattle.std.specs.Prelude.{Some}
use Rattle.model.specs.Machine.Blank.{token_at, cell_at, slot_at}
use Rattle.model.specs.Machine.State.{is_blank_state, is_live}
use Rattle.model.specs.Machine.Active.{is_active}
use Rattle.model.specs.declared.token.Slot.{Slot}
use Rattle.model.specs.declared.token.Slot.TheVariants as slots
use Rattle.model.specs.Machine.Held.{Place}
use Rattle.model.specs.declared.token.State.{State}
use Rattle.model.specs.declared.token.State.TheVariants as states
use Rattle.job.proofs.Test.{never, clash}
use Rattle.model.proofs.Machine.Reach.{Names}
use Rattle.model.proofs.Machine.InUse.{CellsIn, active-inside}
use Rattle.model.proofs.Machine.Inside.{active-live}
use Rattle.simulation.proofs.AbstractMachine as Abstract
use Rattle.simulation.proofs.AbstractMachine.{Binding, Frame}
use Rattle.simulation.proofs.Store.{◌is-in◌, ◌not-in◌}
use Rattle.lockstep.proofs.Labels.{Labels}
use Rattle.lockstep.proofs.View.{World, CellsSeen, root, below, BindingSeen, valued, celled, SlotsSeen, PlaceSeen, TokenSeen, sees}
use Rattle.lockstep.proofs.View.{FrameSeen, frame_at, frame-seen}
use Rattle.lockstep.proofs.Seen.{Core, state-live, UsedToken, UsedCell, tokens-of, cells-of, token-at, live-listed}
use Rattle.lockstep.proofs.Slots.{variable-seen}

live-not-blank : (s : State) → is_live s ≡ true → is_blank_state s ≡ false
unfolding is_live is_blank_state
live-not-blank states.Blank e = clash e refl
live-not-blank states.Ready e = refl
live-not-blank (states.Waiting c) e = refl
live-not-blank (states.Called h) e = refl
live-not-blank (states.Due d) e = refl
live-not-blank states.Frame e = refl

frame-not-blank : (s : State) → s ≡ states.Frame → is_blank_state s ≡ false
unfolding is_blank_state
frame-not-blank s e = ap is_blank_state e

member-or-not : (x : ℕ) (l : List ℕ) → (x is-in l) ⊎ (x not-in l)
member-or-not x [] = inr Memᴰ.not-nil
member-or-not x (y ∷ l) = go (ℕ_discrete x y) (member-or-not x l)
  where
    neither : (x ≡ y → ⊥) → x not-in l → x not-in (y ∷ l)
    neither n f (Memᴰ.head e) = n e
    neither n f (Memᴰ.tail m) = f m

    go : Dec (x ≡ y) → (x is-in l) ⊎ (x not-in l) → (x is-in (y ∷ l)) ⊎ (x not-in (y ∷ l))
    go (yes e) r = inl (Memᴰ.head e)
    go (no n) (inl m) = inl (Memᴰ.tail m)
    go (no n) (inr f) = inr (neither n f)

module _ (M : Labels) (W : World) where
  -- a token that stands somewhere
  pub data Standing (p : ℕ) : Type 0 where
    standing : {n : ℕ} {B : List Binding} {F : List Frame} {U : List ℕ}
        → p < length W.tokens → is_blank_state (token_at W.tokens p).state ≡ false → PlaceSeen W M (token_at W.tokens p) n B F U
        → Standing p

  -- a cell that has a name
  pub data Named (c : ℕ) : Type 0 where
    named : {n : ℕ} {U : List ℕ} → CellsSeen W (Some c) (n ∷ U) → Named c

  token-stands : {p : ℕ} {x : Abstract.Token} → p < length W.tokens → TokenSeen W M (token_at W.tokens p) x → Standing p
  token-stands l (sees v un s) = standing l (live-not-blank _ (state-live s)) v

  frame-stands : {q : ℕ} {F : List Frame} → FrameSeen W M q F → Standing q
  frame-stands (frame_at l s v) = standing l (frame-not-blank _ s) v

  caller-stands : (p : ℕ) → Standing p → Names Standing (token_at W.tokens p).caller
  caller-stands p (standing l b v) q e = frame-stands (frame-seen q e v.caller)

  cells-named : {q : Place} {U : List ℕ} → CellsSeen W q U → Names Named q
  cells-named root c e = never cc
  cells-named (below {c = b} s v) c e = subst Named (let z : b ≡ c = cc in z) (named (below s v))

  binding-named : {s : Slot} {b : Binding} (c : ℕ) → s ≡ slots.Cell c → BindingSeen W s b → Named c
  binding-named c e valued = never cc
  binding-named c e (celled {c = b} v) = subst Named (let z : b ≡ c = cc in z) (named v)

  slot-named : {bs : List Slot} {scope : List ℕ} {B : List Binding} → SlotsSeen W bs scope B → (x c : ℕ) → slot_at bs x ≡ slots.Cell c
      → Named c
  slot-named {bs} {scope} s x c e = go (member-or-not x scope)
    where
      go : (x is-in scope) ⊎ (x not-in scope) → Named c
      go (inl m) = binding-named c e (variable-seen x m s.views)
      go (inr f) = let i : slots.Empty ≡ slots.Cell c = sym (s.rest x f) ∙ e in never cc

  standing-names : (p : ℕ) → Standing p → CellsIn Named (token_at W.tokens p)
  standing-names p (standing l b v) = record { cell = cells-named v.cell; binds = slot-named v.binds }

  parent-named : (c : ℕ) → Named c → Names Named (cell_at W.cells c).parent
  parent-named c (named (below s v)) = cells-named v

  module _ {A : List ℕ} {S : List Abstract.Token} (K : Core M W A S) where
    pub used-stands : (p : ℕ) → p < length W.tokens → UsedToken W p → Standing p
    used-stands = (tokens-of W).least Standing active (λ p l. caller-stands p)
      where
        active : (p : ℕ) → is_active W.cells (token_at W.tokens p) ≡ true → Standing p
        active p e =
            token-stands (active-inside W.tokens W.cells p e)
            (token-at p (live-listed p K (active-live W.cells (token_at W.tokens p) e)) K.seen).1

    pub used-named : (c : ℕ) → c < length W.cells → UsedCell W c → Named c
    used-named = (cells-of W).least Named (λ p l u. standing-names p (used-stands p l u)) (λ c l. parent-named c)
