-- Writing in parts: what is written first and what is written behind it are written one after the other, since a run of stores
-- may be cut anywhere. Assumes nothing.
use mathlib.Core.Path.{◌≡◌, refl, sym, ◌∙◌, ap, subst}
use mathlib.Core.List.{List, [], ◌∷◌, ◌++◌}
use Prim.Native.Nat.{ℕ, ◌+◌, ◌≤◌}
use native.Mathlib.Omega.{arith}
use lib.ListN.{length, set, length-append}
use lib.Seq.{length-sets}
use Rattle.job.proofs.Stores.{sets-append}
use Rattle.decimal.specs.Written.{Written}

-- nothing is written
pub none_written : (before : List ℕ) (at : ℕ) → Written 0 before at [] before at
none_written before at = record { stored = refl; behind = omega arith; few = omega arith }

-- one byte
pub one_written : (before : List ℕ) (at x : ℕ) → Written 1 before at (x ∷ []) (set before at x) (at + 1)
one_written before at x = record { stored = refl; behind = omega arith; few = omega arith }

-- and then more
pub then-written : {m k : ℕ} {before middle after : List ℕ} {at next end : ℕ} {a b : List ℕ}
    → Written m before at a middle next → Written k middle next b after end → Written (m + k) before at (a ++ b) after end
then-written {before = before} {at = at} {a = a} {b = b} f s =
    let l : length (a ++ b) ≡ length a + length b = length-append a b in
    let p = f.behind in
    let q = s.behind in
    let u = f.few in
    let v = s.few in
    record {
      stored = s.stored ∙ rw (f.stored, f.behind) (sym (sets-append before at a b));
      behind = omega arith;
      few = omega arith;
    }

-- the same bytes otherwise put, and a larger bound
pub written_as : {m k : ℕ} {before after : List ℕ} {at next : ℕ} {a b : List ℕ}
    → Written m before at a after next → a ≡ b → m ≤ k → Written k before at b after next
written_as {m} {k} {before} {after} {at} {next} {a} {b} w e h =
    let u = w.few in
    let v : Written k before at a after next = record { stored = w.stored; behind = w.behind; few = omega arith } in
    subst (λ (bytes : List ℕ). Written k before at bytes after next) e v

-- the buffer keeps its length
pub written-length : {m : ℕ} {before after : List ℕ} {at next : ℕ} {bytes : List ℕ} → Written m before at bytes after next
    → length after ≡ length before
written-length {before = before} {at = at} {bytes = bytes} w = ap length w.stored ∙ length-sets before at bytes
