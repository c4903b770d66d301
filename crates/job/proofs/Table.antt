-- The bytes of a table and its parts: the two sizes, the kind bytes and the operand bytes, put together and taken apart. A
-- size below 65536 is its 2 bytes, so both ways come out at the start. Assumes nothing.
use mathlib.Core.Path.{◌≡◌, refl, sym, ◌∙◌, ap, ap₂}
use mathlib.Core.List.{List, ◌++◌}
use Prim.Native.Nat.{ℕ, ◌+◌, ◌<◌, ◌≤◌}
use native.Mathlib.Omega.{arith}
use lib.ListN.{length, take, drop, length-append, length-drop, take-append-drop}
use lib.Seq.{take-add, take_at, drop_at, drop-drop}
use Rattle.job.specs.Test.{All}
use Rattle.job.specs.Number.{bytes}
use Rattle.job.specs.Entry.{size_d, size_n}
use Rattle.job.proofs.All.{All-drop}
use Rattle.job.proofs.Number.{Byte, number-bytes, bytes-front}

-- "Bytes 0-1: D, .. Bytes 2-3: N, .. Then N kind bytes, then N operands of 4 bytes"
abbrev pub table : (D N : ℕ) (ks os : List ℕ) → List ℕ
table D N ks os = bytes 2 D ++ bytes 2 N ++ ks ++ os

-- where a table's kind bytes and operand bytes stand
abbrev pub kind_part : List ℕ → List ℕ
kind_part b = take (size_n b) (drop 4 b)

abbrev pub operand_part : List ℕ → List ℕ
operand_part b = drop (4 + size_n b) b

module _ (D N : ℕ) (ks os : List ℕ) where
  pub size-definitions : D < 65536 → size_d (table D N ks os) ≡ D
  unfolding bytes
  size-definitions l = number-bytes 2 D l

  pub size-entries : N < 65536 → size_n (table D N ks os) ≡ N
  unfolding bytes
  size-entries l = number-bytes 2 N l

  pub length-table : length (table D N ks os) ≡ 4 + length ks + length os
  unfolding bytes
  length-table = let z = length-append ks os in omega arith

  after-sizes : drop 4 (table D N ks os) ≡ ks ++ os
  unfolding bytes
  after-sizes = refl

  module _ (l : N < 65536) (c : length ks ≡ N) where
    pub kind-part : kind_part (table D N ks os) ≡ ks
    kind-part = ap (λ (n : ℕ). take n (drop 4 (table D N ks os))) (size-entries l) ∙ ap (take N) after-sizes ∙ take_at ks os N c

    pub operand-part : operand_part (table D N ks os) ≡ os
    operand-part =
        ap (λ (n : ℕ). drop (4 + n) (table D N ks os)) (size-entries l)
        ∙ sym (drop-drop N 4 (table D N ks os))
        ∙ ap (drop N) after-sizes
        ∙ drop_at ks os N c

-- bytes, put together again from their parts
pub table-parts : (b : List ℕ) → All Byte b → 4 ≤ length b → table (size_d b) (size_n b) (kind_part b) (operand_part b) ≡ b
table-parts b all l =
    let d : bytes 2 (size_d b) ≡ take 2 b = bytes-front 2 b (omega arith) all in
    let m : 2 ≤ length (drop 2 b) = rw length-drop (omega arith) in
    let n : bytes 2 (size_n b) ≡ take 2 (drop 2 b) = bytes-front 2 (drop 2 b) m (All-drop 2 all) in
    let sizes : bytes 2 (size_d b) ++ bytes 2 (size_n b) ≡ take 4 b = ap₂ ◌++◌ d n ∙ sym (take-add 2 2 b) in
    ap (λ (s : List ℕ). s ++ kind_part b ++ operand_part b) sizes
    ∙ ap (λ (s : List ℕ). s ++ operand_part b) (sym (take-add 4 (size_n b) b))
    ∙ take-append-drop (4 + size_n b) b
