-- The two words of a slot, one by one. Assumes nothing.
use mathlib.Core.Path.{◌≡◌, ap, ap₂}
use Prim.Native.Nat.{ℕ}
use Rattle.model.specs.declared.token.Slot.{Slot}
use Rattle.record.specs.Layout.{slot_kind, slot_number, slot_words}
use Rattle.record.specs.declared.token.SlotWords.{SlotWords}

pub kind-of : {s r : SlotWords} → s ≡ r → s.kind ≡ r.kind
kind-of = ap (λ (s : SlotWords). s.kind)

pub number-of : {s r : SlotWords} → s ≡ r → s.number ≡ r.number
number-of = ap (λ (s : SlotWords). s.number)

abbrev pair : ℕ → ℕ → SlotWords
pair k n = record { kind = k; number = n }

pub both-of : {k n : ℕ} (s : SlotWords) → k ≡ s.kind → n ≡ s.number → record { kind = k; number = n } ≡ s
both-of s e f = ap₂ pair e f
