-- Whether a token is active, by its words: the loop that looks for a set cell among a place and its ancestors, and the state. Outside the
-- table stands nothing that is set, and nothing above it. Assumes nothing.
use mathlib.Core.Path.{◌≡◌, refl, sym, ◌∙◌, ap, ap₂}
use mathlib.Core.Bool.{Bool, true, false, not}
use mathlib.Core.Logic.{◌≢◌}
use mathlib.Core.List.{List}
use Prim.Native.Nat.{ℕ, zero, suc, ◌+◌, ◌-◌, ◌≤◌, ◌<◌}
use native.Mathlib.Omega.{arith}
use lib.ListN.{length}
use Rattle.std.specs.Prelude.{Some, None}
use Rattle.model.specs.Machine.Active.{cell_is_set, upward, under_set, is_active}
use Rattle.model.specs.Machine.State.{is_live}
use Rattle.model.specs.Machine.Blank.{cell_at, has_value}
use Rattle.model.specs.declared.cell.Cell.{Cell}
use Rattle.model.specs.Machine.Held.{Held, Place}
use Rattle.model.specs.declared.token.State.{State}
use Rattle.model.specs.declared.token.State.TheVariants as states
use Rattle.model.specs.declared.token.Token.{Token}
use Rattle.record.specs.LayoutDecoded.{place_from}
use Rattle.record.specs.Layout.{place_number, held_kind, state_kind}
use Rattle.record.proofs.PlaceNumber.{place-from, place_at, place_none}
use Rattle.model.proofs.Machine.TableRows.{cell-outside}

held_none : (h : Held) → held_kind h ≡ 0 → has_value h ≡ false
unfolding has_value
held_none None e = refl
held_none (Some v) e = absurd (omega arith)

held-some : (h : Held) → held_kind h ≢ 0 → has_value h ≡ true
unfolding has_value
held-some None f = absurd (f refl)
held-some (Some v) f = refl

module _ (cs : List Cell) where
  abbrev pub climb : ℕ → Place → Bool
  climb n q = upward (λ c k. cell_is_set k) cs n q

  pub climb-under : (size : ℕ) (q : Place) → length cs ≡ size → under_set cs q ≡ climb size q
  unfolding under_set
  climb-under size q l = ap (λ n. climb n q) l

  climb-nowhere : (n : ℕ) → climb n None ≡ false
  unfolding upward
  climb-nowhere zero = refl
  climb-nowhere (suc n) = refl

  climb-stops : (n c : ℕ) → cell_is_set (cell_at cs c) ≡ true → climb (suc n) (Some c) ≡ true
  unfolding upward
  climb-stops n c e = rw (e, upward)

  climb-goes : (n c : ℕ) → cell_is_set (cell_at cs c) ≡ false → climb (suc n) (Some c) ≡ climb n (cell_at cs c).parent
  unfolding upward
  climb-goes n c e = rw (e, upward)

  climb-outer : (n c : ℕ) → length cs ≤ c → climb n (Some c) ≡ false
  unfolding upward cell_is_set has_value
  climb-outer zero c l = refl
  climb-outer (suc n) c l =
      let o = cell-outside cs c l in climb-goes n c (ap cell_is_set o) ∙ ap (λ (k : Cell). climb n k.parent) o ∙ climb-nowhere n

  -- k cells are looked at, and the place with the number q is next
  module _ (size k q : ℕ) (end : Bool) (long : length cs ≡ size) (left : end ≡ climb (size - k) (place_from q)) where
    pub climb-ends : q ≡ 0 → false ≡ end
    climb-ends z = sym (left ∙ ap (climb (size - k)) (place_none q z) ∙ climb-nowhere (size - k))

    pub climb-outside : q ≢ 0 → size ≤ q - 1 → false ≡ end
    climb-outside f h = sym (left ∙ ap (climb (size - k)) (place_at q f) ∙ climb-outer (size - k) (q - 1) (omega arith))

    pub climb-over : size ≤ k → false ≡ end
    unfolding upward
    climb-over h = let z : size - k ≡ 0 = omega arith in sym (left ∙ ap (λ n. climb n (place_from q)) z)

    module _ (v : ℕ) (h : k < size) (f : q ≢ 0) (e : v ≡ held_kind (cell_at cs (q - 1)).value) where
      here : end ≡ climb (suc (size - (k + 1))) (Some (q - 1))
      here = let z : size - k ≡ suc (size - (k + 1)) = omega arith in left ∙ ap₂ climb z (place_at q f)

      pub climb-found : v ≢ 0 → true ≡ end
      unfolding cell_is_set
      climb-found g = sym (here ∙ climb-stops (size - (k + 1)) (q - 1) (held-some (cell_at cs (q - 1)).value (λ z. g (e ∙ z))))

      pub climb-on : (r : ℕ) → v ≡ 0 → r ≡ place_number (cell_at cs (q - 1)).parent → end ≡ climb (size - (k + 1)) (place_from r)
      unfolding cell_is_set
      climb-on r g p =
          here
          ∙ climb-goes (size - (k + 1)) (q - 1) (held_none (cell_at cs (q - 1)).value (sym e ∙ g))
          ∙ ap (climb (size - (k + 1))) (sym (place-from r _ p))

-- a token's state by its number
blank-state : (s : State) → state_kind s ≡ 0 → is_live s ≡ false
unfolding is_live
blank-state states.Blank e = refl
blank-state states.Ready e = absurd (omega arith)
blank-state (states.Waiting c) e = absurd (omega arith)
blank-state (states.Called h) e = absurd (omega arith)
blank-state (states.Due d) e = absurd (omega arith)
blank-state states.Frame e = refl

frame-state : (s : State) → state_kind s ≡ 5 → is_live s ≡ false
unfolding is_live
frame-state states.Blank e = refl
frame-state states.Ready e = absurd (omega arith)
frame-state (states.Waiting c) e = absurd (omega arith)
frame-state (states.Called h) e = absurd (omega arith)
frame-state (states.Due d) e = absurd (omega arith)
frame-state states.Frame e = refl

live_state : (s : State) → state_kind s ≢ 0 → state_kind s ≢ 5 → is_live s ≡ true
unfolding is_live
live_state states.Blank f g = absurd (f refl)
live_state states.Ready f g = refl
live_state (states.Waiting c) f g = refl
live_state (states.Called h) f g = refl
live_state (states.Due d) f g = refl
live_state states.Frame f g = absurd (g refl)

module _ (cs : List Cell) (t : Token) (s : ℕ) (e : s ≡ state_kind t.state) where
  pub not-blank : s ≡ 0 → false ≡ is_active cs t
  unfolding is_active
  not-blank z = sym (rw (blank-state t.state (sym e ∙ z), is_active))

  pub not-frame : s ≡ 5 → false ≡ is_active cs t
  unfolding is_active
  not-frame z = sym (rw (frame-state t.state (sym e ∙ z), is_active))

  pub by-cell : (q : ℕ) (up : Bool) → s ≢ 0 → s ≢ 5 → q ≡ place_number t.cell → up ≡ under_set cs (place_from q) → not up ≡ is_active cs t
  unfolding is_active
  by-cell q up f g p u =
      let z : is_active cs t ≡ not (under_set cs t.cell) = rw (live_state t.state (λ z. f (e ∙ z)) (λ z. g (e ∙ z)), is_active) in
      ap not (u ∙ ap (under_set cs) (place-from q _ p)) ∙ sym z
