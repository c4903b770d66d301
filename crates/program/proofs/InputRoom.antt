-- The bytes that the program reads decide what it prints, whatever follows them: they are the whole input, or it is too long either way.
-- Assumes nothing.
use mathlib.Core.Path.{◌≡◌, refl, sym, ◌∙◌, ap}
use mathlib.Core.Bool.{Bool, true, false}
use mathlib.Core.List.{List}
use Prim.Native.Nat.{ℕ}
use native.Mathlib.Omega.{arith}
use lib.Dec.{leb}
use lib.ListN.{length, take, length-take}
use lib.Seq.{take_all}
use Rattle.job.proofs.Test.{leb-le, not-leb-lt}
use Rattle.model.specs.Output.Orcrun.{orcrun}
use Rattle.model.proofs.Run.Printing.{orcrun-long}
use Rattle.program.specs.Input.{input_room}

module _ (bytes : List ℕ) where
  by_length : (b : Bool) → leb (length bytes) 65536 ≡ b → orcrun (take input_room bytes) ≡ orcrun bytes
  by_length true e = let l = leb-le (length bytes) 65536 e in ap orcrun (take_all input_room bytes (omega arith))
  by_length false e =
      let l = not-leb-lt (length bytes) 65536 e in
      let k = length-take input_room bytes in
      orcrun-long (take input_room bytes) (omega arith) ∙ sym (orcrun-long bytes l)

  pub room-is-enough : orcrun (take input_room bytes) ≡ orcrun bytes
  room-is-enough = by_length _ refl
