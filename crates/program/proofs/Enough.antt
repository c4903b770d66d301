-- What is read of a reader, as much as there is room for or all that it has left, decides what is printed. Assumes nothing.
use Rattle.std.proofs.Common.{◌≡◌, ℕ, ◌<◌, ◌≤◌, List, [], ◌++◌, Option, None, Some, IfSome, length, length-take, take}
use Rattle.std.proofs.Common.{sym, ap, ◌∙◌, subst, arith, append-nil}
use native.Mathlib.Decide.{dec_lt}
use lib.Seq.{take_all, take-append-le}
use Rattle.std.specs.Io.KnownBytes.{Consumes, IsAtEnd}
use Rattle.model.specs.Output.Orcrun.{orcrun}
use Rattle.program.specs.Input.{input_room}
use Rattle.program.proofs.InputRoom.{room-is-enough}

-- the reader had xs, of which n bytes were read, and has ys left
module _ (xs ys buffer : List ℕ) (n : ℕ) (room : length buffer ≡ input_room) (within : n ≤ length buffer)
    (given : xs ≡ take n buffer ++ ys) (end : n < length buffer → ys ≡ []) where
  read_front : Dec (n < length buffer) → take input_room xs ≡ take n buffer
  read_front (yes l) =
      ap (take input_room) (given ∙ ap (λ l. take n buffer ++ l) (end l) ∙ append-nil (take n buffer))
      ∙ take_all input_room (take n buffer) (omega (arith, length-take n buffer))
  read_front (no f) =
      let full : n ≡ length buffer = omega arith in
      let all : take n buffer ≡ buffer = take_all n buffer (omega arith) in
      ap (take input_room) (given ∙ ap (λ l. l ++ ys) all) ∙ take-append-le input_room buffer ys (omega arith)
      ∙ ap (λ k. take k buffer) (sym room ∙ sym full)

  pub read_enough : orcrun (take n buffer) ≡ orcrun xs
  read_enough = ap orcrun (sym (read_front (dec_lt n (length buffer)))) ∙ room-is-enough xs

-- the same, where it may not be known what the reader had
pub known_enough : (old new : Option (List ℕ)) (buffer : List ℕ) (n : ℕ) → length buffer ≡ input_room → n ≤ length buffer
    → Consumes old new (take n buffer) → (n < length buffer → IsAtEnd new) → (P : List ℕ → Type 0) → P (orcrun (take n buffer))
    → IfSome old (λ input. P (orcrun input))
known_enough None new buffer n room within given end P p = tt
known_enough (Some xs) None buffer n room within given end P p = absurd given
known_enough (Some xs) (Some ys) buffer n room within given end P p =
    subst P (read_enough xs ys buffer n room within given end) p
