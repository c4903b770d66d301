-- Bindings as words: at each turn one more is read, or written. By induction over the bindings, and by the laws of a list that is copied.
-- Assumes nothing.
use mathlib.Core.Path.{◌≡◌, refl, sym, ap, ap₂, ◌∙◌}
use mathlib.Core.List.{List, [], ◌∷◌, ◌++◌, map, append-nil}
use Prim.Native.Nat.{ℕ, zero, suc, ◌+◌, ◌<◌, ◌≤◌}
use native.Mathlib.Numerals.{add-one}
use native.Mathlib.Omega.{arith}
use lib.ListN.{length, get_or, set, drop, replicate, length-append, length-map, length-drop, get_or-map}
use lib.Seq.{take_all, drop-length, paste, paste-suc}
use Rattle.model.specs.Machine.Blank.{empty}
use Rattle.model.specs.Machine.Update.{put}
use Rattle.model.specs.declared.record.Machine.{Machine}
use Rattle.model.specs.declared.token.Slot.{Slot}
use Rattle.model.specs.declared.token.Token.{Token}
use Rattle.model.specs.Machine.Step.{formals_bound}
use Rattle.sites.specs.Row.{ParamsHold, params_at}
use Rattle.sites.proofs.LookParams.{none-bound, params-count}
use Rattle.record.specs.Holds.{Holds}
use Rattle.record.proofs.HoldsShape.{shaped}
use Rattle.writes.proofs.Writes.{put_same}
use Rattle.record.specs.Layout.{slot_words}
use Rattle.record.specs.declared.token.SlotWords.{SlotWords}

-- a write to a list, and to the words of its elements
map-set : {A B : Type 0} (f : A → B) (l : List A) (i : ℕ) (x : A) → map f (set l i x) ≡ set (map f l) i (f x)
map-set f [] i x = refl
map-set f (y ∷ l) zero x = refl
map-set f (y ∷ l) (suc i) x = ap (◌∷◌ (f y)) (map-set f l i x)

-- none is read yet
pub none_read : (bs : List Slot) → replicate 8 (record { kind = 0; number = 0 }) ≡ map slot_words (formals_bound bs [])
none_read bs = ap (map slot_words) (none-bound bs [])

-- one more is read
pub slot_read : {ss : List SlotWords} (bs : List Slot) {cs : List Slot} (i : ℕ) {s : SlotWords} (b : Slot) → ss ≡ map slot_words bs
    → s ≡ slot_words b → set bs i b ≡ cs → set ss i s ≡ map slot_words cs
slot_read {ss} bs {cs} i b o e f =
    ap₂ (λ xs x. set xs i x) o e ∙ sym (map-set slot_words bs i b) ∙ ap (map slot_words) f

-- the words of one
pub slot-at : {ss : List SlotWords} (bs : List Slot) (x : ℕ) → ss ≡ map slot_words bs
    → slot_words (get_or bs x empty) ≡ get_or ss x (slot_words empty)
slot-at {ss} bs x o = sym (ap (λ l. get_or l x (slot_words empty)) o ∙ get_or-map slot_words bs x empty)

-- one more is written over the old ones
module _ (old bs : List Slot) (long : length old ≡ 8) (size : length bs ≡ 8) where
  pub bound-on : (x : ℕ) → x < 8 → set (paste old 0 bs x) x (get_or bs x empty) ≡ paste old 0 bs (x + 1)
  bound-on x l =
      let z : x ≡ 0 + x = omega arith in
      ap (λ i. set (paste old 0 bs x) i (get_or bs x empty)) z ∙ paste-suc old 0 bs x empty (omega arith) (omega arith)
      ∙ ap (paste old 0 bs) (sym (add-one x))

  pub bound-whole : (x : ℕ) → x ≡ 8 → paste old 0 bs x ≡ bs
  bound-whole x e =
      let z : 0 + x ≡ length old = omega arith in
      ap₂ ◌++◌ (take_all x bs (omega arith)) (ap (λ k. drop k old) z ∙ drop-length old) ∙ append-nil bs

pub binds-long : {ws : List ℕ} (m : Machine) (p : ℕ) (t : Token) → Holds ws (put p t m) → p < 64 → length t.binds ≡ 8
binds-long m p t h l = sym (ap (λ (u : Token). length u.binds) (put_same m p t h l)) ∙ (shaped h).binds p

-- the formals and the empty variables behind them
pub formals-long : {ws : List ℕ} {at : ℕ} → ParamsHold ws at → (bs : List Slot) → length (formals_bound bs (params_at ws at)) ≡ 8
unfolding formals_bound
formals-long {ws} {at} o bs =
    let n : length (params_at ws at) ≡ get_or ws (at + 3) 0 = params-count ws at o.size o.inside o.few in
    let few : get_or ws (at + 3) 0 ≤ 4 = o.few in
    simp (length-append, length-map, length-drop) (omega arith)
