-- How an instruction changes what one token is seen as, and what it names. Each is read off the token's fields. Assumes nothing.
use mathlib.Core.Path.{◌≡◌, refl, sym, ◌∙◌, ap, subst}
use mathlib.Core.Bool.{Bool, true, false}
use mathlib.Core.List.{List, [], ◌∷◌, ◌++◌, tail}
use Prim.Native.Nat.{ℕ, ◌<◌}
use native.Mathlib.Decide.{ℕ_discrete}
use native.Mathlib.Omega.{arith}
use lib.ListN.{length}
use lib.IntN.{ℤ}
use Rattle.std.specs.Prelude.{Some}
use Rattle.job.specs.Node.{Dag}
use Rattle.model.specs.Machine.Blank.{slot_at}
use Rattle.model.specs.Machine.Update.{with_node, with_binding}
use Rattle.model.specs.declared.token.Slot.{Slot}
use Rattle.model.specs.declared.token.Slot.TheVariants as slots
use Rattle.model.specs.Machine.Held.{Held}
use Rattle.model.specs.declared.token.State.{State}
use Rattle.model.specs.declared.token.State.TheVariants as states
use Rattle.model.specs.declared.token.Token.{Token}
use Rattle.job.proofs.Test.{clash}
use Rattle.model.proofs.Machine.Inside.{Fits}
use Rattle.simulation.proofs.AbstractMachine as Abstract
use Rattle.simulation.proofs.AbstractMachine.{Binding, Frame, running}
use Rattle.lockstep.proofs.Labels.{Labels, Fresh, Follows}
use Rattle.lockstep.proofs.View.{World, Nested, cells_of_caller, HeldSeen, absent, present, StateSeen, ready, CellsSeen, BindingSeen}
use Rattle.lockstep.proofs.View.{SlotsSeen, FramesSeen, PlaceSeen}
use Rattle.lockstep.proofs.Slots.{with_slot, slot_same, slot-other, slots-bind, slots-drop}

-- a value that must be there, or need not
pub value_there : {b : Bool} {w : Held} {v : ℤ} → b ≡ true → HeldSeen b w v → w ≡ Some v
value_there e (absent f) = clash e f
value_there e present = refl

pub value-optional : {b c : Bool} {w : Held} {v : ℤ} → c ≡ false → HeldSeen b w v → HeldSeen c w v
value-optional e (absent f) = absent e
value-optional e present = present

pub value-held : {b : Bool} {w : Held} {v : ℤ} → w ≡ Some v → HeldSeen b w v
value-held {b} {v = v} e = subst (λ w. HeldSeen b w v) (sym e) present

pub ready-seen : {M : Labels} {n : ℕ} {K : Abstract.Place} {s : State} {w : Held} {v : ℤ}
    → s ≡ states.Ready → HeldSeen (M.value n) w v → StateSeen M n K s w (running K v)
ready-seen {M} {n} {K} {s} {w} {v} e h = subst (λ s. StateSeen M n K s w (running K v)) (sym e) (ready h)

-- in no right side of its own body a token is under its caller's cells
no_cells : (l : List ℕ) → length l ≡ 0 → l ≡ []
no_cells [] e = refl
no_cells (x ∷ l) e = absurd (omega arith)

pub nested-none : {M : Labels} {n : ℕ} {U : List ℕ} {F : List Frame} → M.nest n ≡ 0 → Nested M n U F → U ≡ cells_of_caller F
nested-none {F = F} e o = o.parts ∙ ap (λ l. l ++ cells_of_caller F) (no_cells o.own (o.size ∙ e))

-- where a token stands after an instruction; value and state do not matter to it
pub nested-next : {d : Dag} {M : Labels} {n k : ℕ} {scope U : List ℕ} {F : List Frame}
    → Follows d M n k scope (M.nest n) → Nested M n U F → Nested M k U F
nested-next f o = record { own = o.own; size = o.size ∙ sym f.nest; parts = o.parts; body = f.body ∙ o.body }

pub slots_at : {W : World} {bs : List Slot} {a b : List ℕ} {B : List Binding} → a ≡ b → SlotsSeen W bs a B → SlotsSeen W bs b B
slots_at {W} {bs} {B = B} e z = subst (λ s. SlotsSeen W bs s B) e z

module _ {d : Dag} {M : Labels} {W : World} where
  pub place-to : {t : Token} {n k : ℕ} {B : List Binding} {F : List Frame} {U : List ℕ}
      → Follows d M n k (M.scope n) (M.nest n) → PlaceSeen W M t n B F U → PlaceSeen W M (with_node k t) k B F U
  unfolding with_node
  place-to f v =
      record {
        node = refl;
        binds = slots_at (sym f.scope) v.binds;
        caller = v.caller;
        cell = v.cell;
        nested = nested-next f
            v.nested;
      }

  pub place-bind : {t : Token} {n k x : ℕ} {B : List Binding} {F : List Frame} {U : List ℕ} {s : Slot} {b : Binding}
      → x < 8 → Fresh x (M.scope n) → Follows d M n k (x ∷ M.scope n) (M.nest n) → BindingSeen W s b
      → PlaceSeen W M t n B F U → PlaceSeen W M (with_node k (with_binding x s t)) k (b ∷ B) F U
  unfolding with_node with_binding
  place-bind l g f b v =
      record {
        node = refl;
        binds = slots_at (sym f.scope) (slots-bind l g b v.binds);
        caller = v.caller;
        cell = v.cell;
        nested = nested-next f v.nested;
      }

  pub place-drop : {t : Token} {n k x : ℕ} {scope : List ℕ} {B : List Binding} {F : List Frame} {U : List ℕ}
      → x < 8 → M.scope n ≡ x ∷ scope → Fresh x scope → Follows d M n k scope (M.nest n)
      → PlaceSeen W M t n B F U → PlaceSeen W M (with_node k (with_binding x slots.Empty t)) k (tail B) F U
  unfolding with_node with_binding
  place-drop l e g f v =
      record {
        node = refl;
        binds = slots_at (sym f.scope) (slots-drop l e g v.binds);
        caller = v.caller;
        cell = v.cell;
        nested = nested-next f v.nested;
      }

pub place-as : {W : World} {M : Labels} {t u : Token} {n : ℕ} {B : List Binding} {F : List Frame} {U : List ℕ}
    → t.node ≡ u.node → t.binds ≡ u.binds → t.caller ≡ u.caller → t.cell ≡ u.cell → PlaceSeen W M t n B F U
    → PlaceSeen W M u n B F U
place-as {W} {M} {n = n} {B = B} {F = F} {U = U} a b c e v =
    record {
      node = sym a ∙ v.node;
      binds = subst (λ y. SlotsSeen W y (M.scope n) B) b v.binds;
      caller = subst (λ y. FramesSeen W M y F) c v.caller;
      cell = subst (λ y. CellsSeen W y U) e v.cell;
      nested = v.nested;
    }

-- what a token names after an instruction
module _ {Q R : ℕ → Type 0} where
  pub fits-as : {t u : Token} → t.binds ≡ u.binds → t.caller ≡ u.caller → t.cell ≡ u.cell → Fits Q R t → Fits Q R u
  fits-as b c e f =
      record {
        caller = λ q x. f.caller q (c ∙ x);
        cells = record { cell = λ k x. f.cells.cell k (e ∙ x); binds = λ y k x. f.cells.binds y k (ap (λ z. slot_at z y) b ∙ x) };
      }

  -- a slot that names no cell is written
  pub fits-bind : {t : Token} (x k : ℕ) (s : Slot) → x < length t.binds → ((c : ℕ) → s ≡ slots.Cell c → ⊥)
      → Fits Q R t → Fits Q R (with_node k (with_binding x s t))
  unfolding with_node with_binding
  fits-bind {t} x k s l h f =
      record { caller = f.caller; cells = record { cell = f.cells.cell; binds = λ y c e. go y c e (ℕ_discrete y x) } }
    where
      go : (y c : ℕ) → slot_at (with_slot t.binds x s) y ≡ slots.Cell c → Dec (y ≡ x) → R c
      go y c e (yes i) = absurd (h c (sym (slot_same t.binds x s l) ∙ (ap (slot_at (with_slot t.binds x s)) (sym i) ∙ e)))
      go y c e (no n) = f.cells.binds y c (sym (slot-other t.binds x y s n) ∙ e)
