-- The first fault of an entry, and that it has none, from the tests in their order: a fault of a smaller number would fail a test that was
-- passed. Assumes nothing.
use mathlib.Core.Path.{◌≡◌}
use mathlib.Core.Bool.{true, false}
use mathlib.Core.List.{List, Memᴰ}
use Prim.Native.Nat.{ℕ, ◌≤◌, ◌<◌}
use native.Mathlib.Omega.{arith}
use lib.ListN.{length}
use Rattle.job.specs.Bounds.{scope_limit, depth_limit}
use Rattle.job.specs.Entry.{Entry, kind_of, row_holds}
use Rattle.job.specs.Declined.{Position, definition, expression, parameter, MayStand, Breaks, Keeps}
use Rattle.job.specs.Declined.{Fault, wrong-kind, wrong-operand, too-deep, out-of-scope, no_room}
use Rattle.job.proofs.Test.{clash}
use Rattle.job.proofs.RowBroken.{broken-fails, fails-broken}

-- the kinds that may stand somewhere have a row
kind-known : (p : Position) (kind : ℕ) → MayStand p kind → kind ≤ 8
unfolding MayStand
kind-known definition kind s = let z : kind ≡ 6 = s in omega arith
kind-known (expression d scope) kind s = let z : kind ≤ 5 = s in omega arith
kind-known (parameter scope) kind s = s.1

pub fault-known : {p : Position} {x : Entry} {n : ℕ} → Fault p x n → 3 ≤ n
fault-known (wrong-kind f) = omega arith
fault-known (wrong-operand f) = omega arith
fault-known (too-deep l) = omega arith
fault-known (out-of-scope k f) = omega arith
fault-known (no_room l k s) = omega arith

behind-kind : {p : Position} {x : Entry} {n : ℕ} → MayStand p x.kind → Fault p x n → 4 ≤ n
behind-kind stands (wrong-kind f) = absurd (f stands)
behind-kind stands (wrong-operand f) = omega arith
behind-kind stands (too-deep l) = omega arith
behind-kind stands (out-of-scope k f) = omega arith
behind-kind stands (no_room l k s) = omega arith

behind-row : {p : Position} {x : Entry} {n : ℕ} → MayStand p x.kind → row_holds (kind_of x.kind) x.operand ≡ true → Fault p x n
    → 6 ≤ n
behind-row stands row (wrong-kind f) = absurd (f stands)
behind-row stands row (wrong-operand f) = clash row (broken-fails f)
behind-row stands row (too-deep l) = omega arith
behind-row stands row (out-of-scope k f) = omega arith
behind-row stands row (no_room l k s) = omega arith

module _ {p : Position} {x : Entry} where
  pub breaks-kind : (MayStand p x.kind → ⊥) → Breaks p x 3
  breaks-kind f = record { fault = wrong-kind f; first = λ n l g. let z = fault-known g in omega arith }

  pub breaks-operand : MayStand p x.kind → row_holds (kind_of x.kind) x.operand ≡ false → Breaks p x 4
  breaks-operand stands f =
      record {
        fault = wrong-operand (fails-broken _ _ (kind-known p _ stands) f);
        first = λ n l g. let z = behind-kind stands g in omega arith;
      }

-- a definition has no other fault

pub keeps-definition : {x : Entry} → MayStand definition x.kind → row_holds (kind_of x.kind) x.operand ≡ true → Keeps definition x
keeps-definition stands row n (wrong-kind f) = f stands
keeps-definition stands row n (wrong-operand f) = clash row (broken-fails f)

-- an expression

module _ {d : ℕ} {scope : List ℕ} {x : Entry}
    (stands : MayStand (expression d scope) x.kind) (row : row_holds (kind_of x.kind) x.operand ≡ true) where
  pub breaks-depth : depth_limit < d → Breaks (expression d scope) x 6
  breaks-depth l = record { fault = too-deep l; first = λ n k g. let z = behind-row stands row g in omega arith }

  module _ (shallow : d ≤ depth_limit) where
    behind-depth : {n : ℕ} → Fault (expression d scope) x n → 7 ≤ n
    behind-depth (wrong-kind f) = absurd (f stands)
    behind-depth (wrong-operand f) = clash row (broken-fails f)
    behind-depth (too-deep l) = absurd (omega arith)
    behind-depth (no_room l k s) = omega arith

    pub breaks-binder : 4 ≤ x.kind → x.kind ≤ 5 → scope_limit ≤ length scope → Breaks (expression d scope) x 7
    breaks-binder l k s = record { fault = no_room l k s; first = λ n i g. let z = behind-depth g in omega arith }

    pub keeps-expression : (4 ≤ x.kind → length scope < scope_limit) → Keeps (expression d scope) x
    keeps-expression room n (wrong-kind f) = f stands
    keeps-expression room n (wrong-operand f) = clash row (broken-fails f)
    keeps-expression room n (too-deep l) = omega arith
    keeps-expression room n (no_room l k s) = let z = room l in omega arith

-- a parameter

module _ {scope : List ℕ} {x : Entry}
    (stands : MayStand (parameter scope) x.kind) (row : row_holds (kind_of x.kind) x.operand ≡ true) where
  behind-all : {n : ℕ} → Fault (parameter scope) x n → n ≡ 7
  behind-all (wrong-kind f) = absurd (f stands)
  behind-all (wrong-operand f) = clash row (broken-fails f)
  behind-all (out-of-scope k f) = omega arith

  pub breaks-variable : x.kind ≡ 7 → (Memᴰ x.operand scope → ⊥) → Breaks (parameter scope) x 7
  breaks-variable k f = record { fault = out-of-scope k f; first = λ n l g. let z = behind-all g in omega arith }

  pub keeps-parameter : (x.kind ≡ 7 → Memᴰ x.operand scope) → Keeps (parameter scope) x
  keeps-parameter member n (wrong-kind f) = f stands
  keeps-parameter member n (wrong-operand f) = clash row (broken-fails f)
  keeps-parameter member n (out-of-scope k f) = f (member k)
