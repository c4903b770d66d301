-- A part of a list of words: what stands before it has a known length, so it is read, written and lent by where it begins. Assumes nothing.
use mathlib.Core.Path.{◌≡◌, sym, ap, ap₂, ◌∙◌}
use mathlib.Core.List.{List, ◌++◌}
use Prim.Native.Nat.{ℕ, ◌+◌, ◌<◌}
use native.Mathlib.Omega.{arith}
use lib.ListN.{length, get_or, set, take, drop, get_or-append}
use lib.Seq.{set-append_left, take_at, drop_at}
use Rattle.record.proofs.LayoutTable.{get-behind, set-behind}

-- in the list of each choice of the part, it begins at this index
pub record Stands (whole : List ℕ → List ℕ) (at : ℕ) : Type 0 where
  pub before : List ℕ
  pub after : List ℕ
  pub long : length before ≡ at
  pub split : (x : List ℕ) → whole x ≡ before ++ (x ++ after)

module _ {whole : List ℕ → List ℕ} {at : ℕ} (s : Stands whole at) (x : List ℕ) (n : ℕ) (l : length x ≡ n) where
  pub part-get : (i : ℕ) → i < n → get_or (whole x) (at + i) 0 ≡ get_or x i 0
  part-get i b =
      ap (λ r. get_or r (at + i) 0) (s.split x)
      ∙ get-behind s.before _ at s.long i 0
      ∙ get_or-append x _ 0 i (omega (arith, l))

  pub part-set : (i v : ℕ) → i < n → set (whole x) (at + i) v ≡ whole (set x i v)
  part-set i v b =
      ap (λ r. set r (at + i) v) (s.split x)
      ∙ set-behind s.before _ at s.long i v
      ∙ ap (λ r. s.before ++ r) (set-append_left x _ i v (omega (arith, l)))
      ∙ sym (s.split (set x i v))

  -- the part is lent
  pub part-is : take n (drop at (whole x)) ≡ x
  part-is =
      ap (λ r. take n (drop at r)) (s.split x)
      ∙ ap (take n) (drop_at s.before _ at s.long)
      ∙ take_at x s.after n l
