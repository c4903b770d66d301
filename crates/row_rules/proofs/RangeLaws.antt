-- What the words of a field say of it: each test of words is the definition's test, value by value. Assumes nothing.
use mathlib.Core.Path.{◌≡◌, refl, sym, ◌∙◌, ap}
use mathlib.Core.Bool.{true, false, not, ◌||◌, ◌&&◌}
use Prim.Native.Nat.{ℕ, zero, suc, ◌+◌, ◌-◌, ◌<◌, ◌≤◌}
use native.Mathlib.Decide.{dec_lt}
use native.Mathlib.Omega.{arith}
use lib.IntN.{ℤ}
use lib.Dec.{eqb, ltb, leb}
use Rattle.std.specs.Prelude.{Some, None}
use Rattle.model.specs.declared.token.Slot.TheVariants as slots
use Rattle.model.specs.declared.token.State.TheVariants as states
use Rattle.job.specs.Number.{fits}
use Rattle.job.specs.Site.{last_time}
use Rattle.job.specs.Test.{◌and◌}
use Rattle.model.specs.Machine.Blank.{is_bound, is_place, has_value}
use Rattle.model.specs.Machine.State.{is_blank_state, is_frame}
use Rattle.model.specs.Machine.Rules.{place_in_range, slot_in_range, state_in_range, due_in_range}
use Rattle.model.specs.declared.token.Slot.{Slot}
use Rattle.model.specs.Machine.Held.{Held, Place}
use Rattle.model.specs.declared.token.State.{State}
use Rattle.job.proofs.Test.{lt-ltb, le-not-ltb, le-leb, lt-not-leb, ne_eqb}
use Rattle.job.proofs.Both.{both_is, and-true}
use Rattle.record.specs.LayoutDecoded.{place_from}
use Rattle.record.specs.Layout.{place_number, state_kind, state_number, held_kind, slot_kind, slot_number}

pub no_place : {n : ℕ} → n ≡ 0 → place_from n ≡ None
unfolding place_from
no_place e = ap place_from e

pub at_place : (n c : ℕ) → (n ≡ 0 → ⊥) → c ≡ n - 1 → place_from n ≡ Some c
unfolding place_from
at_place zero c f e = absurd (f refl)
at_place (suc n) c f e = let same : n ≡ c = omega arith in ap Some same

pub place_in : (n : ℕ) (q : Place) → leb (place_number q) n ≡ place_in_range n q
unfolding place_in_range
place_in n None = le-leb 0 n (omega arith)
place_in n (Some p) = go (dec_lt p n)
  where
    go : Dec (p < n) → leb (p + 1) n ≡ ltb p n
    go (yes l) = le-leb (p + 1) n (omega arith) ∙ sym (lt-ltb p n l)
    go (no f) = lt-not-leb (p + 1) n (omega arith) ∙ sym (le-not-ltb p n (omega arith))

pub place_is : (q : Place) → ltb 0 (place_number q) ≡ is_place q
unfolding is_place
place_is None = refl
place_is (Some p) = lt-ltb 0 (p + 1) (omega arith)

pub place_none : (q : Place) → eqb (place_number q) 0 ≡ not (is_place q)
unfolding is_place
place_none None = refl
place_none (Some p) = ne_eqb (p + 1) 0 (λ z. omega arith)

-- values
pub held-is : (v : Held) → ltb 0 (held_kind v) ≡ has_value v
unfolding has_value
held-is None = refl
held-is (Some v) = refl

pub held_none : (v : Held) → eqb (held_kind v) 0 ≡ not (has_value v)
unfolding has_value
held_none None = refl
held_none (Some v) = refl

pub held-some : {n : ℕ} (v : Held) → n ≡ held_kind v → 0 < n → has_value v ≡ true
unfolding has_value
held-some None e l = absurd (omega arith)
held-some (Some v) e l = refl

pub held-nothing : {n : ℕ} (v : Held) → n ≡ held_kind v → n ≤ 0 → has_value v ≡ false
unfolding has_value
held-nothing None e l = refl
held-nothing (Some v) e l = absurd (omega arith)

-- slots
pub slot-bound : (s : Slot) → ltb 0 (slot_kind s) ≡ is_bound s
unfolding is_bound
slot-bound slots.Empty = refl
slot-bound (slots.Value v) = refl
slot-bound (slots.Cell c) = refl

pub slot-in : (s : Slot) → ((v : ℤ) → s ≡ slots.Value v → fits v ≡ true)
    → (not (eqb (slot_kind s) 2) || ltb (slot_number s) 32) ≡ slot_in_range 32 s
unfolding slot_in_range
slot-in slots.Empty f = refl
slot-in (slots.Value v) f = sym (f v refl)
slot-in (slots.Cell c) f = refl

-- states
pub blank-is : (s : State) → eqb (state_kind s) 0 ≡ is_blank_state s
unfolding is_blank_state
blank-is states.Blank = refl
blank-is states.Ready = refl
blank-is (states.Waiting c) = refl
blank-is (states.Called h) = refl
blank-is (states.Due d) = refl
blank-is states.Frame = refl

pub frame_is : (s : State) → eqb (state_kind s) 5 ≡ is_frame s
unfolding is_frame
frame_is states.Blank = refl
frame_is states.Ready = refl
frame_is (states.Waiting c) = refl
frame_is (states.Called h) = refl
frame_is (states.Due d) = refl
frame_is states.Frame = refl

-- a state's number in range, by its kind
module _ (calls now k n : ℕ) (s : State) (kind : k ≡ state_kind s) (number : n ≡ state_number s) where
  pub waits_in : k ≡ 2 → ltb n 32 ≡ (state_in_range 32 calls s and due_in_range now s)
  unfolding state_in_range due_in_range
  waits_in e = go s kind number
    where
      go : (s : State) → k ≡ state_kind s → n ≡ state_number s → ltb n 32 ≡ (state_in_range 32 calls s and due_in_range now s)
      go states.Blank a b = absurd (omega arith)
      go states.Ready a b = absurd (omega arith)
      go (states.Waiting c) a b = ap (λ i. ltb i 32) b ∙ sym (and-true (ltb c 32))
      go (states.Called h) a b = absurd (omega arith)
      go (states.Due d) a b = absurd (omega arith)
      go states.Frame a b = absurd (omega arith)

  pub called-in : k ≡ 3 → ltb n calls ≡ (state_in_range 32 calls s and due_in_range now s)
  unfolding state_in_range due_in_range
  called-in e = go s kind number
    where
      go : (s : State) → k ≡ state_kind s → n ≡ state_number s → ltb n calls ≡ (state_in_range 32 calls s and due_in_range now s)
      go states.Blank a b = absurd (omega arith)
      go states.Ready a b = absurd (omega arith)
      go (states.Waiting c) a b = absurd (omega arith)
      go (states.Called h) a b = ap (λ i. ltb i calls) b ∙ sym (and-true (ltb h calls))
      go (states.Due d) a b = absurd (omega arith)
      go states.Frame a b = absurd (omega arith)

  pub due_in : k ≡ 4 → (ltb now n && leb n last_time) ≡ (state_in_range 32 calls s and due_in_range now s)
  unfolding state_in_range due_in_range ◌and◌
  due_in e = go s kind number
    where
      go : (s : State) → k ≡ state_kind s → n ≡ state_number s
          → (ltb now n && leb n last_time) ≡ (state_in_range 32 calls s and due_in_range now s)
      go states.Blank a b = absurd (omega arith)
      go states.Ready a b = absurd (omega arith)
      go (states.Waiting c) a b = absurd (omega arith)
      go (states.Called h) a b = absurd (omega arith)
      go (states.Due d) a b = ap (λ i. ltb now i && leb i last_time) b ∙ both_is (ltb now d) (leb d last_time)
      go states.Frame a b = absurd (omega arith)

  pub other-in : (k ≡ 2 → ⊥) → (k ≡ 3 → ⊥) → (k ≡ 4 → ⊥) → true ≡ (state_in_range 32 calls s and due_in_range now s)
  unfolding state_in_range due_in_range ◌and◌
  other-in f g h = go s kind
    where
      go : (s : State) → k ≡ state_kind s → true ≡ (state_in_range 32 calls s and due_in_range now s)
      go states.Blank a = refl
      go states.Ready a = refl
      go (states.Waiting c) a = absurd (f a)
      go (states.Called i) a = absurd (g a)
      go (states.Due d) a = absurd (h a)
      go states.Frame a = refl

-- a chain that has come to its end
pub nowhere : (n : ℕ) → eqb n 0 ≡ not (is_place (place_from n))
unfolding is_place place_from
nowhere zero = refl
nowhere (suc n) = ne_eqb (suc n) 0 (λ z. omega arith)
