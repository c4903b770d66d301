-- A declined table's entry is at most the number of entries, so at most 512: it is that of an entry, or N. Assumes nothing.
use mathlib.Core.Path.{◌≡◌, ap}
use mathlib.Core.List.{List, ◌∷◌}
use Prim.Native.Nat.{ℕ, ◌+◌, ◌≤◌}
use native.Mathlib.Omega.{arith}
use lib.ListN.{length, take, drop, length-append, length-take}
use Rattle.job.specs.Entry.{Entry, size_n}
use Rattle.job.specs.Declined.{DeclinedEntries, runs-out, breaks, remain, undefined}
use Rattle.job.specs.Declined.{Declined, wrong-length, wrong-sizes, wrong-entries}
use Rattle.job.specs.Read.{declined, read_table}
use Rattle.job.proofs.Entry.{length-entries}
use Rattle.job.proofs.Filling.{first-within}
use Rattle.job.proofs.DeclinedExactly.{declined-if}

entries-within : {D : ℕ} {es : List Entry} {n e : ℕ} → DeclinedEntries D es n e → e ≤ length es
entries-within (runs-out f) = omega arith
entries-within (breaks {before = before} {x = x} after q f b) =
    let z = ap length q in let s = length-append before (x ∷ after) in omega arith
entries-within (remain {before = before} x after q f) =
    let z = ap length q in let s = length-append before (x ∷ after) in omega arith
entries-within (undefined f d) = let l = first-within d in omega arith

declined-within : (b : List ℕ) (n e : ℕ) → Declined b n e → e ≤ 512
declined-within b n e (wrong-length f) = omega arith
declined-within b n e (wrong-sizes l f) = omega arith
declined-within b n e (wrong-entries l s d) =
    let most = s.entries in
    let within = entries-within d in
    let all = length-entries (take (size_n b) (drop 4 b)) (drop (4 + size_n b) b) in
    let kinds = length-take (size_n b) (drop 4 b) in
    omega arith

pub declined-at : (b : List ℕ) (n e : ℕ) → read_table b ≡ declined n e → e ≤ 512
declined-at b n e q = declined-within b n e (declined-if b n e q)
