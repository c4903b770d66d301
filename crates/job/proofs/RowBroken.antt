-- The rows of the table of kinds, stated by number, are those that the reader tests: an operand breaks the row of its kind exactly if the
-- test of that row fails. Kind by kind, and for a site by the range that its number is in. Assumes nothing.
use mathlib.Core.Path.{◌≡◌, refl, sym, ◌∙◌}
use mathlib.Core.Logic.{◌⊎◌, inl, inr}
use mathlib.Core.Bool.{true, false}
use Prim.Native.Nat.{ℕ, zero, suc, ◌≤◌, ◌<◌}
use native.Mathlib.Decide.{dec_lt}
use native.Mathlib.Omega.{arith}
use lib.ListN.{get_or}
use Rattle.job.specs.Site.{builtin_counts, site_takes, is_builtin, is_outside}
use Rattle.job.specs.Test.{◌and◌, ◌or◌}
use Rattle.job.specs.Entry.{low, high, EntryKind, kind_of, row_holds}
use Rattle.job.specs.Declined.{OwnCount, let', ift, iff, signal, add, less, equal, rwait}
use Rattle.job.specs.Declined.{RowBroken, stop-operand, par-operand, seq-operand, prune-operand}
use Rattle.job.specs.Declined.{site-count, site-unknown, site-beyond, builtin-count, call-count, formals-count}
use Rattle.job.proofs.Test.{eqb-eq, ne_eqb, eqb-ne, lt-not-leb, not-leb-lt, clash, false_of, holds-or-fails}
use Rattle.job.proofs.Site.{takes-builtin, takes-unknown, takes-far, takes-outside}
use Rattle.job.proofs.WellFormed.{site-takes, site-few}

-- a built-in takes its own count, and no other

own-takes : {s n : ℕ} → OwnCount s n → site_takes s n ≡ true
unfolding site_takes is_builtin is_outside ◌and◌ ◌or◌
own-takes let' = refl
own-takes ift = refl
own-takes iff = refl
own-takes signal = refl
own-takes add = refl
own-takes less = refl
own-takes equal = refl
own-takes rwait = refl

count-own : (s n : ℕ) → s < 8 → n ≡ get_or builtin_counts s 0 → OwnCount s n
count-own zero n l e = rw e let'
count-own (suc zero) n l e = rw e ift
count-own (suc (suc zero)) n l e = rw e iff
count-own (suc (suc (suc zero))) n l e = rw e signal
count-own (suc (suc (suc (suc zero)))) n l e = rw e add
count-own (suc (suc (suc (suc (suc zero))))) n l e = rw e less
count-own (suc (suc (suc (suc (suc (suc zero)))))) n l e = rw e equal
count-own (suc (suc (suc (suc (suc (suc (suc zero))))))) n l e = rw e rwait
count-own (suc (suc (suc (suc (suc (suc (suc (suc s)))))))) n l e = absurd (omega arith)

takes-own : (s n : ℕ) → s < 8 → site_takes s n ≡ true → OwnCount s n
takes-own s n l t = count-own s n l (eqb-eq n _ (sym (takes-builtin s n l) ∙ t))

-- a site call's row, from the test that fails
site-breaks : (o : ℕ) → site_takes (low o) (high o) ≡ false → RowBroken 1 o
site-breaks o f = builtin (dec_lt (low o) 8)
  where
    outside : 16 ≤ low o → Dec (1023 < low o) → RowBroken 1 o
    outside l (yes m) = site-beyond m
    outside l (no m) = site-count (not-leb-lt (high o) 4 (sym (takes-outside (low o) (high o) l (omega arith)) ∙ f))

    unknown : 8 ≤ low o → Dec (low o < 16) → RowBroken 1 o
    unknown l (yes m) = site-unknown l (omega arith)
    unknown l (no m) = outside (omega arith) (dec_lt 1023 (low o))

    builtin : Dec (low o < 8) → RowBroken 1 o
    builtin (yes l) = builtin-count {o = o} (omega arith) (λ c. clash (own-takes c) f)
    builtin (no l) = unknown (omega arith) (dec_lt (low o) 16)

-- the test of a row that is broken fails
pub broken-fails : {k o : ℕ} → RowBroken k o → row_holds (kind_of k) o ≡ false
unfolding row_holds kind_of
broken-fails (stop-operand {o} f) = ne_eqb o 0 f
broken-fails (par-operand {o} f) = ne_eqb o 0 f
broken-fails (seq-operand {o} f) = ne_eqb o 0 f
broken-fails (prune-operand {o} f) = ne_eqb o 0 f
broken-fails (site-count {o} l) = false_of _ (λ t. let m = site-few (site-takes (low o) (high o) t) in omega arith)
broken-fails (site-unknown {o} l m) = takes-unknown (low o) (high o) l (omega arith)
broken-fails (site-beyond {o} l) = takes-far (low o) (high o) (omega arith) l
broken-fails (builtin-count {o} l f) = false_of _ (λ t. f (takes-own (low o) (high o) (omega arith) t))
broken-fails (call-count {o} l) = lt-not-leb (high o) 4 l
broken-fails (formals-count {o} l) = lt-not-leb o 4 l

-- and where the test fails the row of a known kind is broken
pub fails-broken : (k o : ℕ) → k ≤ 8 → row_holds (kind_of k) o ≡ false → RowBroken k o
unfolding row_holds kind_of
fails-broken zero o l f = stop-operand (eqb-ne o 0 f)
fails-broken (suc zero) o l f = site-breaks o f
fails-broken (suc (suc zero)) o l f = call-count (not-leb-lt (high o) 4 f)
fails-broken (suc (suc (suc zero))) o l f = par-operand (eqb-ne o 0 f)
fails-broken (suc (suc (suc (suc zero)))) o l f = seq-operand (eqb-ne o 0 f)
fails-broken (suc (suc (suc (suc (suc zero))))) o l f = prune-operand (eqb-ne o 0 f)
fails-broken (suc (suc (suc (suc (suc (suc zero)))))) o l f = formals-count (not-leb-lt o 4 f)
fails-broken (suc (suc (suc (suc (suc (suc (suc zero))))))) o l f = clash refl f
fails-broken (suc (suc (suc (suc (suc (suc (suc (suc zero)))))))) o l f = clash refl f
fails-broken (suc (suc (suc (suc (suc (suc (suc (suc (suc k))))))))) o l f = absurd (omega arith)

-- a definition call of at most 4 parameters keeps to its row
pub call-row : (o : ℕ) → high o ≤ 4 → row_holds EntryKind.call o ≡ true
unfolding kind_of
call-row o l = go (holds-or-fails (row_holds EntryKind.call o))
  where
    kept : RowBroken 2 o → ⊥
    kept (call-count m) = omega arith

    go : (row_holds EntryKind.call o ≡ true) ⊎ (row_holds EntryKind.call o ≡ false) → row_holds EntryKind.call o ≡ true
    go (inl t) = t
    go (inr f) = absurd (kept (fails-broken 2 o (omega arith) f))
