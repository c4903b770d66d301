-- What refuses an expression's entry, at each outcome of the tests. Assumes nothing.
use mathlib.Core.Path.{◌≡◌, refl}
use mathlib.Core.Bool.{Bool, true, false, not}
use Prim.Native.Nat.{ℕ, zero, suc, ◌<◌, ◌≤◌}
use native.Mathlib.Omega.{arith}
use mathlib.Core.List.{List}
use lib.ListN.{length}
use lib.Dec.{ltb}
use borrow.Author.Tests.{not-true, not-false}
use Rattle.std.specs.Prelude.{Result, Ok, Err}
use Rattle.job.specs.Test.{◌or◌}
use Rattle.job.specs.Entry.{EntryKind, is_expression, row_holds, is_binder}
use Rattle.job.proofs.Test.{lt-ltb, le-not-ltb}
use Rattle.entries.specs.Scope.{Means}
use Rattle.entries.specs.declared.scope.Scope.{Scope}
use Rattle.entries.specs.EntryFault.{unless, expression_fault}
use Rattle.entries.specs.Refusal.{found_at}
use Rattle.entries.specs.declared.refusal.Refused.{Refused}
use Rattle.entries.specs.declared.refusal.TableRefusal.TheVariants as refusals

module _ (k : EntryKind) (o left : ℕ) (s : Scope) (scope : List ℕ) (m : Means s scope) (at : ℕ) (e : Bool) (ex : e ≡ is_expression k) where
  -- the code's answer
  abbrev Answers : Result (Unit {0}) Refused → Type 0
  Answers r = r ≡ found_at at (expression_fault left scope k o)

  pub fault-3 : not e ≡ true → Answers (Err (record { why = refusals.Kind; entry = at }))
  unfolding expression_fault unless found_at
  fault-3 h = go left
    where
      go : (left : ℕ) → Err (record { why = refusals.Kind; entry = at }) ≡ found_at at (expression_fault left scope k o)
      go zero = rw (← ex, not-true e h)
      go (suc left) = rw (← ex, not-true e h)

  module _ (f : not e ≡ false) (r : Bool) (row : r ≡ row_holds k o) where
    pub fault-4 : not r ≡ true → Answers (Err (record { why = refusals.Operand; entry = at }))
    unfolding expression_fault unless found_at
    fault-4 h = go left
      where
        go : (left : ℕ) → Err (record { why = refusals.Operand; entry = at }) ≡ found_at at (expression_fault left scope k o)
        go zero = rw (← ex, ← row, not-false e f, not-true r h)
        go (suc left) = rw (← ex, ← row, not-false e f, not-true r h)

    module _ (g : not r ≡ false) where
      pub fault-6 : left ≡ 0 → Answers (Err (record { why = refusals.Depth; entry = at }))
      unfolding expression_fault unless found_at
      fault-6 z = rw (z, ← ex, ← row, not-false e f, not-false r g)

      module _ (d : left ≡ 0 → ⊥) where
        -- with depth left, the answer is the binder's
        deeper : expression_fault left scope k o
            ≡ unless (not (is_binder k) or ltb (length scope) 8) (Err refusals.Scope) (Ok tt)
        unfolding expression_fault unless
        deeper = go left d
          where
            go : (left : ℕ) → (left ≡ 0 → ⊥)
                → expression_fault left scope k o ≡ unless (not (is_binder k) or ltb (length scope) 8) (Err refusals.Scope) (Ok tt)
            go zero d = absurd (d refl)
            go (suc left) d = rw (← ex, ← row, not-false e f, not-false r g)

        module _ (b : Bool) (eb : b ≡ is_binder k) where
          pub fault-free : b ≡ false → Answers (Ok tt)
          unfolding unless ◌or◌ found_at
          fault-free h = rw (deeper, ← eb, h)

          pub fault-7 : b ≡ true → 8 ≤ s.count → Answers (Err (record { why = refusals.Scope; entry = at }))
          unfolding unless ◌or◌ found_at
          fault-7 h n =
              let l : 8 ≤ length scope = omega (arith, m.counted) in rw (deeper, ← eb, h, le-not-ltb (length scope) 8 l)

          pub fault-room : b ≡ true → s.count < 8 → Answers (Ok tt)
          unfolding unless ◌or◌ found_at
          fault-room h n = let l : length scope < 8 = omega (arith, m.counted) in rw (deeper, ← eb, h, lt-ltb (length scope) 8 l)
